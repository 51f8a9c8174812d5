-- Exchanges of rows and of columns, as the loops and the callers meet them: a range of columns, and that the shape of the matrix is kept. Assumes nothing.
use mathlib.Core.Path.{◌≡◌, refl, sym, ap, ◌∙◌}
use mathlib.Core.Bool.{cond}
use mathlib.Core.List.{List, []}
use Prim.Native.Nat.{ℕ, ◌+◌, ◌-◌, ◌*◌, ◌≤◌, ◌<◌, min}
use native.Mathlib.Omega.{arith}
use borrow.Author.Tests.{ltb-true, ltb-false, lt-ltb, le-ltb}
use borrow.Rule.Slice.PartMut.{mid_of, put_mid, same_len_mid}
use lib.Dec.{ltb}
use lib.ListN.{length, set}
use lib.Ieee.{Float, nan}
use Rattle.numbers.specs.Column.{Column}
use Rattle.blas.specs.Blas.{swap_rows, copied}
use Rattle.numbers.proofs.Choice.{test_cases, cond_cases}
use Rattle.numbers.proofs.Each.{length_each, each_id, each_same}
use Rattle.blas.proofs.Exchange.{length_exchanged, exchanged_is, exchanged_out, exchanged_self}
use Rattle.blas.proofs.Rows.{copied_whole}
use Rattle.store.specs.Columns.{columns, HasRows}
use Rattle.store.specs.Steps.{Matrix, column, columns_swapped, swap_in_all, rows_swapped}
use Rattle.store.proofs.Columns.{length_columns, columns_rows, column_length, part_column, column_lent, column_turn, column_stop, each_rows}

-- rows that are one stay
pub rows_itself : (i p from to : ℕ) (cs : Matrix) → i ≡ p → cs ≡ rows_swapped i p from to cs
unfolding rows_swapped
rows_itself i p from to cs e =
    rw (← e) (sym (each_id (λ j c. cond (ltb j to) (swap_rows i i c) c) from cs
    (λ j c h. cond_cases (λ (x : Column). x ≡ c) (ltb j to) (λ t. exchanged_self nan i c) (λ t. refl))))

-- ---- rows exchanged in a range of columns

-- what becomes of column j
abbrev in_range : ℕ → ℕ → ℕ → ℕ → Column → Column
in_range i p to j c = cond (ltb j to) (swap_rows i p c) c

-- one turn
pub range_turn : (i p to m n j : ℕ) (s c : List Float) → j < min to n → length s ≡ n * m
    → length c ≡ length (mid_of (j * m) (j * m + m - j * m) s) → c ≡ swap_rows i p (mid_of (j * m) (j * m + m - j * m) s)
    → rows_swapped i p (j + 1) to (columns m n (put_mid (j * m) (j * m + m - j * m) s c)) ≡ rows_swapped i p j to (columns m n s)
unfolding rows_swapped
range_turn i p to m n j s c h len kept made =
    column_turn (in_range i p to) m n j s c (omega arith) len kept (made ∙ rw (lt-ltb j to (omega arith)))

-- the end: past the range, or past the last column
pub range_stop : (i p to m n j : ℕ) (s : List Float) → min to n ≤ j → rows_swapped i p j to (columns m n s) ≡ columns m n s
unfolding rows_swapped
range_stop i p to m n j s h =
    test_cases (ltb j to)
    (λ t. let l : j < to = ltb-true j to t in column_stop (in_range i p to) m n j s (omega arith))
    (λ t. let l : to ≤ j = ltb-false j to t in each_id (in_range i p to) j (columns m n s) (λ k c g. rw (le-ltb k to (omega arith))))

-- a range that takes in all columns
pub range_all : (i p to : ℕ) (cs : Matrix) → length cs ≤ to → rows_swapped i p 0 to cs ≡ swap_in_all i p cs
unfolding rows_swapped swap_in_all
range_all i p to cs h = each_same (in_range i p to) (λ j c. swap_rows i p c) 0 cs (λ j c g u. rw (lt-ltb j to (omega arith)))

-- ---- the shape is kept
module _ (i : ℕ) where
  pub length_swap_in_all : (p : ℕ) (cs : Matrix) → length (swap_in_all i p cs) ≡ length cs
  unfolding swap_in_all
  length_swap_in_all p cs = length_each _ 0 cs

  pub rows_swap_in_all : (m p : ℕ) (cs : Matrix) → HasRows m cs → HasRows m (swap_in_all i p cs)
  unfolding swap_in_all
  rows_swap_in_all m p cs = each_rows m _ 0 cs (λ j c e. length_exchanged nan i p c ∙ e)

  pub length_rows_swapped : (p from to : ℕ) (cs : Matrix) → length (rows_swapped i p from to cs) ≡ length cs
  unfolding rows_swapped
  length_rows_swapped p from to cs = length_each _ from cs

  pub rows_rows_swapped : (m p from to : ℕ) (cs : Matrix) → HasRows m cs → HasRows m (rows_swapped i p from to cs)
  unfolding rows_swapped
  rows_rows_swapped m p from to cs =
      each_rows m (in_range i p to) from cs (λ j c e. cond_cases (λ (x : Column). length x ≡ m) (ltb j to) (λ t. length_exchanged nan i p c ∙ e) (λ t. e))

-- ---- from what the calls give

-- a column that was lent as a part and copied whole
copied_column : (i m n : ℕ) (s was l : List Float) → i < n → length s ≡ n * m → length was ≡ m → l ≡ copied (mid_of (i * m) (i * m + m - i * m) s) was
    → l ≡ column (columns m n s) i
copied_column i m n s was l h len fit copy =
    copy ∙ copied_whole (mid_of (i * m) (i * m + m - i * m) s) was (column_length m n i s h len ∙ sym fit) ∙ part_column m n i s h

-- a column of m entries written over column i
written : (i m n : ℕ) (s c new : List Float) → i < n → length s ≡ n * m → length new ≡ m → length c ≡ length (mid_of (i * m) (i * m + m - i * m) s)
    → c ≡ copied new (mid_of (i * m) (i * m + m - i * m) s) → columns m n (put_mid (i * m) (i * m + m - i * m) s c) ≡ set (columns m n s) i new
written i m n s c new h len fit kept made =
    column_lent (λ (x : Column). new) m n i s c h len kept
    (made ∙ copied_whole new (mid_of (i * m) (i * m + m - i * m) s) (fit ∙ sym (column_length m n i s h len)))

-- a column that is not there is not exchanged
pub swapped_none : (i j m n : ℕ) (s : List Float) → (i < n → j < n → ⊥) → columns m n s ≡ columns_swapped i j (columns m n s)
swapped_none i j m n s out = sym (exchanged_out [] i j (columns m n s) (λ hi hj. out (rw length_columns at hi) (rw length_columns at hj)))

-- Columns i and j were copied out to x and y, and each was written over the other.
module _ (i j m n : ℕ) (s x y x' y' c d : List Float) (hi : i < n) (hj : j < n) (len : length s ≡ n * m) (lx : length x ≡ m) (ly : length y ≡ m)
    (from-i : x' ≡ copied (mid_of (i * m) (i * m + m - i * m) s) x) (from-j : y' ≡ copied (mid_of (j * m) (j * m + m - j * m) s) y) where
  pub columns_exchanged : let s' = put_mid (i * m) (i * m + m - i * m) s c in
      length c ≡ length (mid_of (i * m) (i * m + m - i * m) s) → c ≡ copied y' (mid_of (i * m) (i * m + m - i * m) s)
      → length d ≡ length (mid_of (j * m) (j * m + m - j * m) s') → d ≡ copied x' (mid_of (j * m) (j * m + m - j * m) s')
      → columns m n (put_mid (j * m) (j * m + m - j * m) s' d) ≡ columns_swapped i j (columns m n s)
  columns_exchanged kc ec kd ed =
      let cs = columns m n s in
      let s' = put_mid (i * m) (i * m + m - i * m) s c in
      let x-is : x' ≡ column cs i = copied_column i m n s x x' hi len lx from-i in
      let y-is : y' ≡ column cs j = copied_column j m n s y y' hj len ly from-j in
      let len' : length s' ≡ n * m = same_len_mid (i * m) (i * m + m - i * m) s c kc ∙ len in
      let first : columns m n s' ≡ set cs i (column cs j) =
      written i m n s c y' hi len (ap length y-is ∙ columns_rows m n s len j (rw length_columns hj)) kc ec ∙ ap (set cs i) y-is in
      written j m n s' d x' hj len' (ap length x-is ∙ columns_rows m n s len i (rw length_columns hi)) kd ed
      ∙ (λ t. set (first t) j (x-is t))
      ∙ sym (exchanged_is [] i j cs (rw length_columns hi) (rw length_columns hj))
