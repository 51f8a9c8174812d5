-- The first number of a matrix, column by column, that is not finite.
use Rattle.std.specs.Prelude.{ℕ}
use Rattle.std.specs.Float.Ieee.Scale.{finite}
use Rattle.numbers.specs.First.{first_failing}
use Rattle.finite.specs.Finite.{all_finite}
use Rattle.store.specs.Steps.{Matrix, column}

-- the first column that holds one, and the first row of that column; with none, past the last
abbrev pub column_of : Matrix → ℕ
column_of cs = first_failing all_finite cs

abbrev pub row_of : Matrix → ℕ
row_of cs = first_failing finite (column cs (column_of cs))
