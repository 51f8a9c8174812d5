-- What is done to a column: document 01, "Elimination", steps 3 to 5. Where sizes do not fit, a column stays as it was.
use Rattle.std.specs.Prelude.{cond, ◌&&◌, List, ℕ, ltb, eqb, length, get_or, set, Float}
use Rattle.std.specs.Float.{nan, binary64}
use Rattle.std.specs.Float.Ieee.{add, mul}
use Rattle.numbers.specs.Each.{each_from}
use Rattle.numbers.specs.Column.{Column, entry}

-- ---- step 3, two entries exchanged: of a column its rows, of a list of columns its columns

-- the entries i and j exchanged, where the list has both; d is what a read past the end would give
unfoldable pub exchanged : {A : Type 0} → A → ℕ → ℕ → List A → List A
exchanged d i j l = cond (ltb i (length l) && ltb j (length l)) (set (set l i (get_or l j d)) j (get_or l i d)) l

abbrev pub swap_rows : ℕ → ℕ → Column → Column
swap_rows i j c = exchanged nan i j c

-- ---- steps 4 and 5

-- each entry from row `from` on becomes itself times r, rounded
unfoldable pub scale_from : ℕ → Float → Column → Column
scale_from from r c = each_from (λ k v. mul binary64 v r) from c

-- each entry of y from row `from` on becomes a times x's, rounded, plus itself, rounded (`axpy`); x is as long as y
unfoldable pub axpy_from : ℕ → Float → Column → Column → Column
axpy_from from a x y = cond (eqb (length x) (length y)) (each_from (λ k v. add binary64 (mul binary64 a (entry x k)) v) from y) y

-- src written over dst, which is as long
unfoldable pub copied : Column → Column → Column
copied src dst = cond (eqb (length src) (length dst)) src dst
