-- What the elimination's factors are like, and how they stand in the outcome of an accepted factoring: as many columns as the matrix has, each of m
-- entries, and rising pairs that fit the store. Assumes nothing.
use mathlib.Core.Path.{◌≡◌, ap, ◌∙◌}
use mathlib.Core.Bool.{true, cond}
use mathlib.Core.List.{List}
use Prim.Native.Nat.{ℕ, ◌*◌, ◌≤◌, min}
use native.Mathlib.Omega.{arith}
use lib.ListN.{length}
use Rattle.numbers.specs.Column.{Column}
use Rattle.finite.specs.Finite.{all_finite}
use Rattle.numbers.proofs.Choice.{test_cases}
use Rattle.store.specs.Columns.{columns, flat, HasRows}
use Rattle.store.proofs.Columns.{sized, length_columns, columns_rows, length_flat}
use Rattle.factors.specs.Factors.{Factors, slices}
use Rattle.elimination.specs.Elimination.{eliminate}
use Rattle.lu.specs.Factoring.{factoring_refusal, accepted_as, settled, factoring}
use Rattle.elimination.proofs.Recorded.{Rising, eliminate_rising, rising_few}
use Rattle.elimination.proofs.Step.{length_eliminate, rows_eliminate}
use Rattle.refusals.specs.Outcome.{number_of}
use Rattle.refusals.proofs.Outcomes.{none_given}
use Rattle.lu.proofs.Told.{Passed, passed, worked}

-- the factors of the m by n matrix that the slice a holds
abbrev pub factors_of : ℕ → ℕ → Column → Factors
factors_of m n a = eliminate m (columns m n a)

-- an outcome that gives no number has no refusal before the work
pub no_refusal : (m n : ℕ) (a out : Column) (store : List ℕ) → number_of (factoring a m n out store).answer ≡ 0 → factoring_refusal a m n out store ≡ 0
unfolding factoring
no_refusal m n a out store = none_given (factoring_refusal a m n out store) (slices out store) (settled m n (eliminate m (columns m n a)))

module _ (m n : ℕ) (a out : Column) (store : List ℕ) (none : factoring_refusal a m n out store ≡ 0) where
  abbrev f : Factors
  f = factors_of m n a

  pub ok : Passed m n a out store
  ok = passed m n a out store none

  pub size : length a ≡ n * m
  size = (sized m n a ok.matrix).size

  pub shape : HasRows m (columns m n a)
  shape = columns_rows m n a size

  pub wide : length f.columns ≡ n
  wide = length_eliminate m (columns m n a) ∙ length_columns m n a

  pub shape_f : HasRows m f.columns
  shape_f = rows_eliminate m (columns m n a) shape

  pub size_f : length (flat f.columns) ≡ n * m
  size_f = length_flat m f.columns shape_f ∙ ap (λ (k : ℕ). k * m) wide

  pub rising : Rising m (min m n) f.swaps
  rising = rw (length_columns m n a) at (eliminate_rising m (columns m n a) (columns_rows m n a size))

  pub few : length f.swaps ≤ 64
  few = let h = rising_few m (min m n) f.swaps rising in let r = ok.rows.at_most in omega arith

  -- the outcome of an accepted factoring
  pub accepted_is : number_of (factoring a m n out store).answer ≡ 0 → (factoring a m n out store ≡ accepted_as m n f) × (all_finite (flat f.columns) ≡ true)
  unfolding settled
  accepted_is e =
      test_cases (all_finite (flat (eliminate m (columns m n a)).columns))
      (λ t. (worked m n a out store none ∙ rw t, t))
      (λ t. absurd (let seven : 7 ≡ 0 = (rw (worked m n a out store none, t) at e) in omega arith))

  -- a factoring that is not refused before the work is accepted or gives 7
  pub settled_number : number_of (factoring a m n out store).answer ≡ cond (all_finite (flat f.columns)) 0 7
  unfolding settled
  settled_number =
      test_cases (all_finite (flat (eliminate m (columns m n a)).columns)) (λ t. rw (worked m n a out store none, t)) (λ t. rw (worked m n a out store none, t))
