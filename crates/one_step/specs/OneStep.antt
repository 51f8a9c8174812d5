-- What step 5 of document 01, "Elimination", does to the columns of a matrix: to one, and to all to the right of the pivot's.
use Rattle.std.specs.Prelude.{ℕ, ◌+◌, set}
use Rattle.std.specs.Float.Ieee.{neg}
use Rattle.numbers.specs.Each.{each_from}
use Rattle.numbers.specs.Column.{Column, entry}
use Rattle.blas.specs.Blas.{axpy_from}
use Rattle.store.specs.Steps.{Matrix, column}

-- step 5 of step i on one column: each entry below row i becomes (minus the entry in row i) times the multiplier of its row, which the
-- column l holds, plus itself
unfoldable pub step_column : ℕ → Column → Column → Column
step_column i l c = axpy_from (i + 1) (neg (entry c i)) l c

-- that on column j of a matrix, whose column i holds the multipliers
abbrev pub stepped_in : ℕ → ℕ → Matrix → Matrix
stepped_in i j cs = set cs j (step_column i (column cs i) (column cs j))

-- step 5 of step i on the columns from `from` on
unfoldable pub step_columns : ℕ → Column → ℕ → Matrix → Matrix
step_columns i l from cs = each_from (λ j c. step_column i l c) from cs

-- step 5 of step i on the columns right of column i, which holds the multipliers
unfoldable pub eliminated : ℕ → Matrix → Matrix
eliminated i cs = step_columns i (column cs i) (i + 1) cs
