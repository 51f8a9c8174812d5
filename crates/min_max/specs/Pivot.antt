-- Document 01, "Elimination", step 1: the pivot row.
use Rattle.std.specs.Prelude.{cond, [], ◌∷◌, ℕ, suc, drop, Float}
use Rattle.std.specs.Float.Ieee.{lt}
use Rattle.numbers.specs.Numbers.{magnitude}
use Rattle.numbers.specs.Column.{Column, entry}

-- the search goes on through the entries from row k on; t is the greatest magnitude so far, and b the first row that has it
unfoldable pub search_from : Float → ℕ → ℕ → Column → ℕ
search_from t b k [] = b
search_from t b k (x ∷ xs) =
    let v = magnitude x in
    let g = lt t v in
    search_from (cond g v t) (cond g k b) (suc k) xs

-- The first row at or below `from` with the greatest magnitude (`icamax`). With no row to look at it is `from`.
unfoldable pub pivot_row : ℕ → Column → ℕ
pivot_row from c = search_from (magnitude (entry c from)) from (suc from) (drop (suc from) c)
