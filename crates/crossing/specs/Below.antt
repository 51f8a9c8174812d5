-- What the layers below give for a crossing's n by n matrix, as outcomes: its factors, a solution, the determinant.
use Rattle.std.specs.Prelude.{Bool, true, false, List, ℕ, ◌*◌, take, replicate}
use Rattle.numbers.specs.Column.{Column, zeros}
use Rattle.store.specs.Columns.{columns}
use Rattle.refusals.specs.Outcome.{Outcome, done, and_then, Call}
use Rattle.factors.specs.declared.Record.{Record}
use Rattle.elimination.specs.TossUps.{toss_ups}
use Rattle.lu.specs.Factoring.{factoring}
use Rattle.from_factors.specs.Solving.{solving, tr_solving}
use Rattle.scaled_determinant.specs.declared.Scaled.{Scaled}
use Rattle.scaled_determinant.specs.Determinant.{scaling}

-- factors as the slices hold them: the record, the packed numbers, the swap store
pub record Packed : Type 0 where
  pub told : Record
  pub factors : Column
  pub swaps : List ℕ

abbrev pub packed : Column → List ℕ → Record → Packed
packed factors swaps told = record { told = told; factors = factors; swaps = swaps }

-- the factors in front of a store for the greatest matrix
abbrev pub packed_in : Column → List ℕ → Record → Packed
packed_in store swaps told = packed (take (told.rows * told.rows) store) swaps told

-- the n by n matrix a factored where it lies
unfoldable pub factors_of : Column → ℕ → Outcome Packed
factors_of a n =
    let f = factoring a n n a (replicate 128 0) in
    and_then f.answer (λ told. done (packed f.left.factors f.left.store told))

-- at how many of its columns the pivot was a toss-up (document 02, request 3)
abbrev pub toss_ups_of : Column → ℕ → ℕ
toss_ups_of a n = toss_ups n (columns n n a)

-- the solve that is asked for, by the system or by the transposed one, of one right-hand column
abbrev pub system_of : Bool → Column → List ℕ → Record → Column → ℕ → Column → Call (Unit {0}) Column
system_of true = tr_solving
system_of false = solving

unfoldable pub solution_by : Bool → Packed → Column → Outcome Column
solution_by transposed f b =
    let x = system_of transposed f.factors f.swaps f.told b 1 (zeros f.told.rows) in
    and_then x.answer (λ _. done x.left)

-- the same with the factors and the right-hand column in front of their stores
abbrev pub solution_in : Bool → Column → List ℕ → Record → Column → Outcome Column
solution_in transposed store swaps told b = solution_by transposed (packed_in store swaps told) (take told.rows b)

-- the determinant as a significand and an exponent (document 02, request 10)
unfoldable pub scaled_by : Packed → Outcome Scaled
scaled_by f = scaling f.factors f.swaps f.told
