-- Step i makes no matrix finite again: where the columns are finite after it, they were before it. By the update of each column. Assumes nothing.
use mathlib.Core.Path.{◌≡◌}
use mathlib.Core.Bool.{true}
use Prim.Native.Nat.{ℕ}
use Rattle.numbers.specs.Column.{Column}
use Rattle.finite.specs.Finite.{all_finite}
use Rattle.finite.proofs.Lasting.{axpy_finite}
use Rattle.store.specs.Columns.{flat}
use Rattle.store.specs.Steps.{Matrix, column}
use Rattle.store.proofs.Lasting.{each_columns_finite}
use Rattle.one_step.specs.OneStep.{step_column, step_columns, eliminated}

module _ (i : ℕ) where
  pub step_column_finite : (l c : Column) → all_finite (step_column i l c) ≡ true → all_finite c ≡ true
  unfolding step_column
  step_column_finite l c = axpy_finite _ _ l c

  pub step_columns_finite : (l : Column) (from : ℕ) (cs : Matrix) → all_finite (flat (step_columns i l from cs)) ≡ true → all_finite (flat cs) ≡ true
  unfolding step_columns
  step_columns_finite l from cs = each_columns_finite _ (λ j c. step_column_finite l c) from cs

  pub eliminated_finite : (cs : Matrix) → all_finite (flat (eliminated i cs)) ≡ true → all_finite (flat cs) ≡ true
  unfolding eliminated
  eliminated_finite cs = step_columns_finite (column cs i) _ cs
