-- Document 02, request 7: the number of dead columns, those whose diagonal is a zero of either sign.
use Rattle.std.specs.Prelude.{cond, [], ◌∷◌, ℕ, suc, ◌+◌, take, Float}
use Rattle.numbers.specs.Numbers.{is_zero}
use Rattle.numbers.specs.Column.{Column, entry}
use Rattle.store.specs.Columns.{columns, is_matrix}
use Rattle.store.specs.Steps.{Matrix}

-- 1 for a zero of either sign, 0 for any other number
unfoldable pub zero_count : Float → ℕ
zero_count x = cond (is_zero x) 1 0

-- 1 where c, being column number j, is dead; a column past the last row has no diagonal
abbrev pub dead_at : ℕ → Column → ℕ
dead_at j c = zero_count (entry c j)

-- how many columns are dead, column number j being the first of them
unfoldable pub dead_from : ℕ → Matrix → ℕ
dead_from j [] = 0
dead_from j (c ∷ cs) = dead_at j c + dead_from (suc j) cs

-- "the number of zero diagonals among the first min(m, n)" of n columns
unfoldable pub dead_in : ℕ → Matrix → ℕ
dead_in m cs = dead_from 0 (take m cs)

-- of the m by n matrix that s holds; a slice that holds none has 0
unfoldable pub dead_of : Column → ℕ → ℕ → ℕ
dead_of s m n = cond (is_matrix s m n) (dead_in m (columns m n s)) 0
