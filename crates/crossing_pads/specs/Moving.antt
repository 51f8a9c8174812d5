-- Document 02, request 5: "how a pad's load would change with each reading", for a panel file and a pad number from 1 to n: the transposed solve of that pad's
-- unit column. "A pad number outside 1 to n gives 1, after the reader's tests"; then factoring's 7, the solve's 6, its 7.
use Rattle.std.specs.Prelude.{Bool, true, ◌||◌, List, [], ◌∷◌, ◌++◌, ℕ, ◌-◌, eqb, ltb}
use Rattle.numbers.specs.Column.{Column}
use Rattle.refusals.specs.Outcome.{Outcome, done, refused, first_holding, tested, and_then, Call}
use Rattle.panel_file.specs.File.{pads_of}
use Rattle.panel_file.specs.Reading.{file_tests}
use Rattle.from_factors.specs.Solving.{unit_column}
use Rattle.crossing.specs.Below.{solution_by}
use Rattle.crossing.specs.Factors.{factors_in, toss_ups_in, fronted}

-- the pad's number is not one of 1 to n
abbrev pub no_pad : ℕ → ℕ → Bool
no_pad n pad = eqb pad 0 || ltb n pad

-- the refusal before factoring, 0 for none
unfoldable pub moves_refusal : List ℕ → ℕ → ℕ
moves_refusal bytes pad = first_holding (file_tests true bytes ++ (1, no_pad (pads_of bytes) pad) ∷ [])

-- a number a reading
unfoldable pub moves_of : List ℕ → ℕ → Outcome Column
moves_of bytes pad =
    tested (moves_refusal bytes pad) refused (and_then (factors_in bytes) (λ f. solution_by true f (unit_column (pads_of bytes) (pad - 1))))

-- the call: how many numbers there are, the toss-ups, and what the slice of 64 then holds
unfoldable pub moving : List ℕ → ℕ → Column → Call (ℕ × ℕ) Column
moving bytes pad out =
    let x = moves_of bytes pad in
    record { answer = and_then x (λ _. done (pads_of bytes, toss_ups_in bytes)); left = fronted (pads_of bytes) x out }
