-- Document 02, request 3: whether the pivot was a toss-up, "whether another row at or below has the pivot's magnitude, this not being zero".
-- Magnitudes are equal as IEEE compares them.
use Rattle.std.specs.Prelude.{Bool, false, cond, not, ◌&&◌, ◌||◌, [], ◌∷◌, ℕ, suc, eqb, drop, Float}
use Rattle.std.specs.Float.Ieee.{eq, lt}
use Rattle.min_max.specs.declared.FoundPivot.{FoundPivot}
use Rattle.numbers.specs.Numbers.{magnitude, is_zero}
use Rattle.numbers.specs.Column.{Column, entry}
use Rattle.min_max.specs.Pivot.{pivot_row}

-- of the entries from row k on some other one than row p's has the magnitude v
unfoldable pub shared_from : Float → ℕ → ℕ → Column → Bool
shared_from v p k [] = false
shared_from v p k (x ∷ xs) = not (eqb k p) && eq (magnitude x) v || shared_from v p (suc k) xs

unfoldable pub toss_up : ℕ → Column → Bool
toss_up from c =
    let p = pivot_row from c in
    not (is_zero (entry c p)) && shared_from (magnitude (entry c p)) p from (drop from c)

-- the first row from row k on that is above t, or the row behind the last: the next greatest row so far
unfoldable pub above_from : Float → ℕ → Column → ℕ
above_from t k [] = k
above_from t k (x ∷ xs) = cond (lt t (magnitude x)) k (above_from t (suc k) xs)

-- what the pivot search answers
unfoldable pub pivot_of : ℕ → Column → FoundPivot
pivot_of from c = record { row = pivot_row from c; tossed = toss_up from c }
