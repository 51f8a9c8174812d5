-- Step i keeps the shape of the matrix, and past the last row or column it does nothing. Assumes nothing.
use mathlib.Core.Path.{◌≡◌, sym, ◌∙◌}
use mathlib.Core.Bool.{true}
use mathlib.Core.List.{List, []}
use Prim.Native.Nat.{ℕ, ◌+◌, ◌≤◌, ◌<◌, min}
use native.Mathlib.Omega.{arith}
use borrow.Author.Tests.{ltb-true, ltb-false}
use lib.Dec.{ltb}
use lib.ListN.{length}
use lib.Seq.{ext_get_or}
use lib.Ieee.{Float, neg}
use Rattle.numbers.specs.Each.{each_from}
use Rattle.numbers.specs.Column.{Column, entry}
use Rattle.numbers.proofs.Choice.{test_cases}
use Rattle.numbers.proofs.Each.{length_each, each_at, each_before}
use Rattle.blas.proofs.Rows.{length_axpy, axpy_none}
use Rattle.store.specs.Columns.{columns, HasRows, is_matrix}
use Rattle.store.specs.Steps.{Matrix, column}
use Rattle.store.proofs.Columns.{sized, columns_rows, column_stop, each_rows}
use Rattle.one_step.specs.OneStep.{step_column, step_columns, eliminated}

-- ---- the shape is kept
module _ (i : ℕ) where
  pub length_step_column : (l c : Column) → length (step_column i l c) ≡ length c
  unfolding step_column
  length_step_column l c = length_axpy _ _ l c

  pub length_step_columns : (l : Column) (from : ℕ) (cs : Matrix) → length (step_columns i l from cs) ≡ length cs
  unfolding step_columns
  length_step_columns l from cs = length_each _ from cs

  pub rows_step_columns : (m : ℕ) (l : Column) (from : ℕ) (cs : Matrix) → HasRows m cs → HasRows m (step_columns i l from cs)
  unfolding step_columns
  rows_step_columns m l from cs = each_rows m _ from cs (λ j c e. length_step_column l c ∙ e)

  pub length_eliminated : (cs : Matrix) → length (eliminated i cs) ≡ length cs
  unfolding eliminated
  length_eliminated cs = length_step_columns _ (i + 1) cs

  pub rows_eliminated : (m : ℕ) (cs : Matrix) → HasRows m cs → HasRows m (eliminated i cs)
  unfolding eliminated
  rows_eliminated m cs = rows_step_columns m _ (i + 1) cs

-- ---- past the last

-- no row is below row i
eliminated_no_row : (i m : ℕ) (cs : Matrix) → m ≤ i → HasRows m cs → cs ≡ eliminated i cs
unfolding eliminated step_columns step_column
eliminated_no_row i m cs h rows =
    let l = column cs i in
    sym (ext_get_or [] (each_from (λ j c. step_column i l c) (i + 1) cs) cs (length_each _ (i + 1) cs)
    (λ j k.
    let hj : j < length cs = rw length_each at k in
    test_cases (ltb j (i + 1))
    (λ t. each_before _ (i + 1) cs j [] (ltb-true j (i + 1) t))
    (λ t. each_at _ (i + 1) cs j [] (ltb-false j (i + 1) t) hj
    ∙ axpy_none (i + 1) (neg (entry (column cs j) i)) l (column cs j) (rw (rows j hj) (omega arith)))))

-- past the last column there is none to the right, and past the last row none below
pub eliminated_past : (i m n : ℕ) (s : List Float) → is_matrix s m n ≡ true → min m n ≤ i → columns m n s ≡ eliminated i (columns m n s)
unfolding eliminated step_columns
eliminated_past i m n s fits h =
    test_cases (ltb i n)
    (λ t. let l = ltb-true i n t in eliminated_no_row i m (columns m n s) (omega arith) (columns_rows m n s (sized m n s fits).size))
    (λ t. let l = ltb-false i n t in sym (column_stop _ m n (i + 1) s (omega arith)))
