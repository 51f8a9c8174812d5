-- What stands below the diagonal of finite factors: a multiplier that was formed from the pivot on the diagonal, or a zero below a zero where the step
-- was skipped. A step puts it there (`formed`), and later steps only exchange it with others of its column. Assumes nothing.
use mathlib.Core.Path.{◌≡◌, refl, sym, ap, ◌∙◌}
use mathlib.Core.Bool.{true, false, true≢false}
use Prim.Native.Nat.{ℕ, zero, suc, ◌≤◌, ◌<◌, min}
use native.Mathlib.Nat.{eq-or-lt_of_le, le_of_suc-le-suc, not-suc-le-zero}
use native.Mathlib.Omega.{arith}
use mathlib.Core.Logic.{inl, inr}
use lib.ListN.{length}
use lib.Ieee.{Float, nan}
use Rattle.numbers.specs.Numbers.{is_zero}
use Rattle.numbers.specs.Column.{Column, entry}
use Rattle.numbers.proofs.Choice.{test_cases}
use Rattle.numbers.proofs.Equal.{zero_smaller}
use Rattle.blas.proofs.Exchange.{other, other_from, other_range, get_d_exchanged}
use Rattle.finite.specs.Finite.{all_finite}
use Rattle.finite.proofs.Finite.{finite_entry}
use Rattle.min_max.specs.Pivot.{pivot_row}
use Rattle.min_max.proofs.Pivot.{pivot_from, pivot_to, pivot_zero, pivot_first}
use Rattle.store.specs.Columns.{HasRows}
use Rattle.store.specs.Steps.{Matrix, column}
use Rattle.store.proofs.Lasting.{column_finite}
use Rattle.factors.specs.Factors.{Factors}
use Rattle.elimination.specs.Elimination.{step, unfactored, eliminate}
use Rattle.elimination.specs.Own.{own_column}
use Rattle.elimination.specs.Reason.{finite_in}
use Rattle.elimination.proofs.Diagonal.{diagonal_left}
use Rattle.elimination.proofs.Formed.{Formed, formed}
use Rattle.elimination.proofs.Lasting.{steps_finite}
use Rattle.elimination.proofs.Step.{pivot_at, step_cases, step_left, step_here, multipliers_diagonal, steps, steps_next, length_steps, rows_steps}
use Rattle.multipliers.specs.Multipliers.{at}

-- what stands below the diagonal number d
pub data Below (d l : Float) : Type 0 where
  passed_over : is_zero d ≡ true → is_zero l ≡ true → Below d l
  multiplier_of : (x : Float) → Formed l x d → Below d l

-- ---- a column's own step
module _ (i : ℕ) (c : Column) (ok : all_finite c ≡ true) (ic : i < length c) where
  abbrev p : ℕ
  p = pivot_row i c

  -- below a zero pivot all is zero
  zeros_below : is_zero (entry c p) ≡ true → (r : ℕ) → i < r → r < length c → is_zero (entry c r) ≡ true
  zeros_below z r ir rc =
      let greatest = (pivot_first i c ok ic).greatest r (omega arith) rc in
      test_cases (is_zero (entry c r)) (λ t. t)
      (λ t. absurd (true≢false
      (sym (zero_smaller (entry c p) (entry c r) (finite_entry c p ok (pivot_to i c ic)) (finite_entry c r ok rc) z t) ∙ greatest)))

  own_diagonal : is_zero (entry c p) ≡ false → entry (own_column i c) i ≡ entry c p
  unfolding own_column
  own_diagonal live = rw live (multipliers_diagonal i p c ic (pivot_to i c ic))

  own_zero : is_zero (entry c p) ≡ true → own_column i c ≡ c
  unfolding own_column
  own_zero z = rw z

  pub own_below : (r : ℕ) → i < r → r < length c → Below (entry (own_column i c) i) (entry (own_column i c) r)
  own_below r ir rc =
      test_cases (is_zero (entry c p)) (λ z. rw (own_zero z) (passed_over (pivot_zero i c z) (zeros_below z r ir rc)))
      (λ live. multiplier_of (entry c (other i p r)) (rw (own_diagonal live) (formed i c ok ic live r ir rc)))

-- ---- the steps of the elimination
module _ (m i : ℕ) (f : Factors) (rows : HasRows m f.columns) (im : i < m) (il : i < length f.columns) where
  -- column i after step i is its own step's
  pub own_step : column (step i f).columns i ≡ own_column i (column f.columns i)
  unfolding own_column
  own_step =
      step_cases i f (λ g. column g.columns i ≡ own_column i (column f.columns i)) (λ z. rw z refl) (λ live. rw live (step_here i (pivot_at i f) f il))

  -- the number in row r of column j is after step i what row `from` had before it, below the diagonal too
  pub record Moved (j r : ℕ) : Type 0 where
    pub from : ℕ
    pub below : j < from
    pub within : from < m
    pub is : at (step i f).columns r j ≡ at f.columns from j

  -- THEOREM. After its step a multiplier is only exchanged: step i leaves in each column to its left the diagonal, and below it the same numbers.
  pub only_exchanged : (j r : ℕ) → j < i → j < r → r < m → Moved j r
  only_exchanged j r ji jr rm =
      let c = column f.columns i in
      let x = column f.columns j in
      let q = pivot_at i f in
      let low : i ≤ q = pivot_from i c in
      let qm : q < m = rw (rows i il) at (pivot_to i c (rw (rows i il) im)) in
      let long : length x ≡ m = rows j (omega arith) in
      let moved =
      step_cases i f (λ g. (from : ℕ) × (j < from) × (from < m) × (at g.columns r j ≡ at f.columns from j)) (λ s. (r, jr, rm, refl))
      (λ s. (
        other i q r,
        other_from i q r (suc j) ji (omega arith) jr,
        other_range i q r m im qm rm,
        ap (λ (y : Column). entry y r) (step_left i q f j ji il) ∙ get_d_exchanged nan i q x r (rw long im) (rw long qm),
      )) in
      record { from = moved.0; below = moved.1; within = moved.2; is = moved.3 }

-- ---- all steps
-- in the columns before column k
abbrev pub AllBelow : ℕ → ℕ → Factors → Type 0
AllBelow m k f = (j r : ℕ) → j < k → j < r → r < m → Below (at f.columns j j) (at f.columns r j)

step_below : (m i : ℕ) (f : Factors) → HasRows m f.columns → i < m → i < length f.columns → finite_in f ≡ true → AllBelow m i f
    → AllBelow m (suc i) (step i f)
step_below m i f rows im il ok was j r h jr rm =
    elim (eq-or-lt_of_le (le_of_suc-le-suc h)) [
      | inl e ↦
          let c = column f.columns i in
          let long = rows i il in
          rw (e, own_step m i f rows im il) (own_below i c (column_finite f.columns ok i) (rw long im) r (rw e at jr) (rw long rm))
      | inr l ↦
          let moved = only_exchanged m i f rows im il j r l jr rm in
          rw (diagonal_left i j f l il, moved.is) (was j moved.from l moved.below moved.within)
    ]

module _ (m : ℕ) (a : Matrix) (rows : HasRows m a) (ok : finite_in (eliminate m a) ≡ true) where
  steps_below : (k : ℕ) → k ≤ min m (length a) → AllBelow m k (steps k (unfactored a))
  steps_below zero h = λ j r l. absurd (not-suc-le-zero l)
  steps_below (suc k) h =
      rw (steps_next k (unfactored a))
      (step_below m k (steps k (unfactored a)) (rows_steps m k (unfactored a) rows) (omega arith) (rw (length_steps k (unfactored a)) (omega arith))
      (steps_finite m k a (omega arith) ok) (steps_below k (omega arith)))

  -- THEOREM. Where the elimination's result is finite, what stands below a diagonal number is a multiplier formed from it, or a zero below a zero.
  pub eliminate_below : AllBelow m (min m (length a)) (eliminate m a)
  unfolding eliminate
  eliminate_below = steps_below (min m (length a)) (omega arith)
