-- A matrix as its columns, and its exchanges: of rows, which is step 3 of document 01, "Elimination", and of columns.
use Rattle.std.specs.Prelude.{cond, List, [], ℕ, ltb, get_or}
use Rattle.numbers.specs.Each.{each_from}
use Rattle.numbers.specs.Column.{Column}
use Rattle.blas.specs.Blas.{exchanged, swap_rows}

-- a matrix is its columns from column 0 on
abbrev pub Matrix : Type 0
Matrix = List Column

-- the column number j
abbrev pub column : Matrix → ℕ → Column
column cs j = get_or cs j []

-- step 3: rows i and p exchanged in every column
unfoldable pub swap_in_all : ℕ → ℕ → Matrix → Matrix
swap_in_all i p cs = each_from (λ j c. swap_rows i p c) 0 cs

-- the same in the columns from `from` up to but not `to`
unfoldable pub rows_swapped : ℕ → ℕ → ℕ → ℕ → Matrix → Matrix
rows_swapped i p from to cs = each_from (λ j c. cond (ltb j to) (swap_rows i p c) c) from cs

-- the columns i and j exchanged
abbrev pub columns_swapped : ℕ → ℕ → Matrix → Matrix
columns_swapped i j cs = exchanged [] i j cs
