-- The step that adding a column makes on the new column alone, apart from the older ones, which are touched last: the inner functions' promises speak of this.
use Rattle.std.specs.Prelude.{cond, ℕ}
use Rattle.numbers.specs.Numbers.{is_zero}
use Rattle.numbers.specs.Column.{Column, entry}
use Rattle.min_max.specs.Pivot.{pivot_row}
use Rattle.blas.specs.Blas.{swap_rows}
use Rattle.elimination.specs.Elimination.{multipliers}

-- the row that row n is exchanged with: the pivot row, or row n itself where the step is skipped or there is no row n
unfoldable pub own_row : ℕ → Column → ℕ
own_row n c = let p = pivot_row n c in cond (is_zero (entry c p)) n p

-- the column with its multipliers
unfoldable pub own_column : ℕ → Column → Column
own_column n c = let p = pivot_row n c in cond (is_zero (entry c p)) c (multipliers n (swap_rows n p c))
