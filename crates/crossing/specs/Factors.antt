-- A panel file's matrix, factored: the one meaning that the order of its pads, their moves and the crossing's stiffness go by; and the loads by it. Document
-- 01, "Ranking and program": "8, then 1, then 3, then 5 for matrix and readings, all four by the reader; then factoring's 7".
use Rattle.std.specs.Prelude.{false, cond, List, ◌++◌, ℕ, ◌*◌, eqb, length, take, drop, replicate}
use Rattle.numbers.specs.Column.{Column, zeros}
use Rattle.refusals.specs.Outcome.{Outcome, done, refused, tested, and_then, Call}
use Rattle.factors.specs.declared.Record.{Record}
use Rattle.scaled_determinant.specs.declared.Scaled.{Scaled}
use Rattle.panel_file.specs.File.{pads_of, matrix_of, readings_of}
use Rattle.panel_file.specs.Reading.{file_refusal}
use Rattle.crossing.specs.Below.{Packed, factors_of, toss_ups_of, solution_by, scaled_by}

-- refused by the file's tests, else by factoring
unfoldable pub factors_in : List ℕ → Outcome Packed
factors_in bytes = tested (file_refusal bytes) refused (factors_of (matrix_of (pads_of bytes) bytes) (pads_of bytes))

-- at how many columns of the file's matrix the pivot was a toss-up; "a refusal gives 0"
abbrev pub toss_ups_in : List ℕ → ℕ
toss_ups_in bytes = toss_ups_of (matrix_of (pads_of bytes) bytes) (pads_of bytes)

unfoldable pub tosses_given : Outcome Packed → ℕ → ℕ
tosses_given (done f) tossed = tossed
tosses_given (refused number) tossed = 0

-- the loads of a file's pads for its readings
unfoldable pub loads_of : List ℕ → Outcome Column
loads_of bytes = and_then (factors_in bytes) (λ f. solution_by false f (readings_of (pads_of bytes) bytes))

-- "our quick check of a crossing's stiffness": the scaled determinant of the file's matrix
unfoldable pub stiffness : List ℕ → Outcome Scaled
stiffness bytes = and_then (factors_in bytes) scaled_by

-- ---- what a call leaves

-- refusal 7 leaves "result slices +0.0", any other "all as it was"; done, the results stand there
unfoldable pub settled_in : Outcome Column → Column → Column
settled_in (done x) was = x
settled_in (refused number) was = cond (eqb number 7) (zeros (length was)) was

-- the same for n results in front of a slice; what lies past them stays
abbrev pub fronted : ℕ → Outcome Column → Column → Column
fronted n o was = settled_in o (take n was) ++ drop n was

-- the same of a swap store: by 7 "swap store zero"
unfoldable pub swaps_left : Outcome Packed → List ℕ → List ℕ
swaps_left (done f) was = f.swaps
swaps_left (refused number) was = cond (eqb number 7) (replicate 128 0) was

-- ---- the call: the record of the factors with the toss-ups, and what its three stores then hold

pub record Stores : Type 0 where
  pub matrix : Column
  pub readings : Column
  pub swaps : List ℕ

abbrev pub stores : Column → Column → List ℕ → Stores
stores matrix readings swaps = record { matrix = matrix; readings = readings; swaps = swaps }

unfoldable pub holding : List ℕ → Stores → Call (Record × ℕ) Stores
holding bytes was =
    let n = pads_of bytes in
    let f = factors_in bytes in
    record {
      answer = and_then f (λ p. done (p.told, toss_ups_in bytes));
      left = stores (fronted (n * n) (and_then f (λ p. done p.factors)) was.matrix)
          (tested (file_refusal bytes) (λ _. was.readings) (readings_of n bytes ++ drop n was.readings)) (swaps_left f was.swaps);
    }
