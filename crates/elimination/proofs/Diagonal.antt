-- A packed diagonal number is zero exactly when its step was skipped: the step leaves its pivot there, and later steps exchange only rows below it.
-- Assumes nothing.
use mathlib.Core.Path.{◌≡◌, refl, sym, ap, ◌∙◌}
use Prim.Native.Nat.{ℕ, zero, suc, ◌+◌, ◌-◌, ◌≤◌, ◌<◌, min}
use native.Mathlib.Omega.{arith}
use lib.ListN.{length}
use lib.Ieee.{Float, nan}
use Rattle.numbers.specs.Numbers.{is_zero}
use Rattle.numbers.specs.Column.{Column, entry}
use Rattle.blas.proofs.Exchange.{exchanged_above}
use Rattle.min_max.proofs.Pivot.{pivot_from, pivot_to, pivot_zero}
use Rattle.store.specs.Columns.{HasRows}
use Rattle.store.specs.Steps.{Matrix, column}
use Rattle.factors.specs.Factors.{Factors}
use Rattle.elimination.specs.Elimination.{step, unfactored, eliminate}
use Rattle.elimination.proofs.Step.{pivot_at, skipped, step_cases, step_left, step_here, packed_diagonal, steps, steps_next, length_steps, rows_steps}

-- the packed number in row j of column j
abbrev pub diagonal_at : Factors → ℕ → Float
diagonal_at f j = entry (column f.columns j) j

-- a step leaves the diagonal to its left
pub diagonal_left : (i j : ℕ) (f : Factors) → j < i → i < length f.columns → diagonal_at (step i f) j ≡ diagonal_at f j
diagonal_left i j f h hi =
    step_cases i f (λ g. diagonal_at g j ≡ diagonal_at f j) (λ e. refl)
    (λ e.
    let p = pivot_at i f in
    ap (λ (c : Column). entry c j) (step_left i p f j h hi)
    ∙ exchanged_above nan i p (column f.columns j) j h (below p (pivot_from i (column f.columns i))))
  where
    below : (p : ℕ) → i ≤ p → j < p
    below p g = omega arith

module _ (m : ℕ) (a : Matrix) (rows : HasRows m a) where
  -- step k's own number
  diagonal_own : (k : ℕ) → k < m → k < length a → is_zero (diagonal_at (steps (suc k) (unfactored a)) k) ≡ skipped k (steps k (unfactored a))
  diagonal_own k km kn =
      let f = steps k (unfactored a) in
      let kf : k < length f.columns = rw (length_steps k (unfactored a)) kn in
      let shape = rows_steps m k (unfactored a) rows in
      let x = column f.columns k in
      rw (steps_next k (unfactored a))
      (step_cases k f (λ g. is_zero (diagonal_at g k) ≡ skipped k f)
      (λ e. pivot_zero k x e ∙ sym e)
      (λ e.
      let p = pivot_at k f in
      let kx : k < length x = rw (shape k kf) km in
      let pm : p < m = rw (shape k kf) at (pivot_to k x kx) in
      ap is_zero (ap (λ (c : Column). entry c k) (step_here k p f kf) ∙ packed_diagonal m k p f shape km pm kf)))

  diagonal_later : (k more : ℕ) → suc k + more ≤ length a → diagonal_at (steps (suc k + more) (unfactored a)) k ≡ diagonal_at (steps (suc k) (unfactored a)) k
  diagonal_later k zero h = ap (λ (i : ℕ). diagonal_at (steps i (unfactored a)) k) (omega arith)
  diagonal_later k (suc more) h =
      let i = suc k + more in
      let e : suc k + suc more ≡ suc i = omega arith in
      let f = steps i (unfactored a) in
      ap (λ (j : ℕ). diagonal_at (steps j (unfactored a)) k) e
      ∙ ap (λ (g : Factors). diagonal_at g k) (steps_next i (unfactored a))
      ∙ diagonal_left i k f (omega arith) (rw (length_steps i (unfactored a)) (omega arith))
      ∙ diagonal_later k more (omega arith)

  -- THEOREM. The packed diagonal number of column k is zero exactly when step k was skipped.
  pub diagonal_skipped : (k : ℕ) → k < min m (length a) → is_zero (diagonal_at (eliminate m a) k) ≡ skipped k (steps k (unfactored a))
  unfolding eliminate
  diagonal_skipped k h =
      let n = min m (length a) in
      let e : n ≡ suc k + (n - suc k) = omega arith in
      ap (λ (j : ℕ). is_zero (diagonal_at (steps j (unfactored a)) k)) e
      ∙ ap is_zero (diagonal_later k (n - suc k) (omega arith))
      ∙ diagonal_own k (omega arith) (omega arith)
