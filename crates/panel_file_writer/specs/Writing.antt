-- What writing a file answers and leaves, on every input. Document 02, 1/13: "Refusals: 1, 3 (also where the lent slice is shorter than the file), 5, in
-- that order, all leaving the slice as it was; the rest of a longer slice stays as it was." What the written bytes are is said by `IsFile`, in the reader's
-- own words.
use Rattle.std.specs.Prelude.{◌≡◌, Bool, not, ◌&&◌, List, [], ◌∷◌, ℕ, ◌*◌, eqb, leb, length, take, drop, Result}
use Rattle.numbers.specs.Column.{Column}
use Rattle.finite.specs.Finite.{all_finite}
use Rattle.refusals.specs.Outcome.{done, refused, outcome, number_of, first_holding, tested, Call}
use Rattle.refusals.specs.Refusals.{outside}
use Rattle.panel_file.specs.File.{file_length, IsFile}
use Rattle.refusals.specs.declared.Refusal.{Refusal}

-- refusal 3: the matrix or the readings have another length than the size asks for, or the lent slice, of `room` bytes, is shorter than the file
abbrev pub lengths_fit : ℕ → Column → Column → ℕ → Bool
lengths_fit n matrix readings room = eqb (length matrix) (n * n) && eqb (length readings) n && leb (file_length n) room

-- the refusal, 0 for none
abbrev pub writing_tests : ℕ → Column → Column → ℕ → List (ℕ × Bool)
writing_tests n matrix readings room =
    (1, outside 1 n)
    ∷ (3, not (lengths_fit n matrix readings room))
    ∷ (5, not (all_finite matrix && all_finite readings))
    ∷ []

unfoldable pub writing_refusal : ℕ → Column → Column → ℕ → ℕ
writing_refusal n matrix readings room = first_holding (writing_tests n matrix readings room)

-- an answer with what the slice then holds
abbrev pub written : Result ℕ Refusal → List ℕ → Call ℕ (List ℕ)
written answer left = record { answer = outcome answer; left = left }

-- The call: its answer, and what the slice, which held `out`, holds afterwards. Refused, it is as it was; else its front is the crossing's file, and the
-- rest is as it was.
pub record Writing (n : ℕ) (matrix readings : Column) (out : List ℕ) (made : Call ℕ (List ℕ)) : Type 0 where
  pub answers : made.answer ≡ tested (writing_refusal n matrix readings (length out)) refused (done (file_length n))
  pub as_it_was : (number_of made.answer ≡ 0 → ⊥) → made.left ≡ out
  pub file : number_of made.answer ≡ 0 → IsFile (take (file_length n) made.left) n matrix readings
  pub rest : number_of made.answer ≡ 0 → drop (file_length n) made.left ≡ drop (file_length n) out
