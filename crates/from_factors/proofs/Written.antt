-- A loop that writes each column anew, whatever the column held; and what the columns of L and U are written by. By the laws of `each_from`, and by
-- cutting a column at its diagonal. Assumes nothing.
use mathlib.Core.Path.{◌≡◌, sym, ap, ap₂, ◌∙◌}
use mathlib.Core.Bool.{true}
use mathlib.Core.List.{[], ◌∷◌, ◌++◌, append-nil}
use Prim.Native.Nat.{ℕ, suc, ◌+◌, ◌-◌, ◌*◌, ◌≤◌, ◌<◌, min}
use native.Mathlib.Numerals.{add-one}
use native.Mathlib.Omega.{arith}
use borrow.Rule.Slice.PartMut.{mid_of, put_mid, mid_len, same_len_mid, Post-is}
use lib.ListN.{length, set, take, drop, length-replicate, drop_of_length-le}
use lib.Seq.{length-take-le, take-take, drop-cons, set_at}
use lib.Ieee.{nan}
use Rattle.numbers.specs.Each.{each_from, list_of}
use Rattle.numbers.specs.Numbers.{zero64, one64}
use Rattle.numbers.specs.Column.{Column, zeros}
use Rattle.blas.specs.Blas.{copied}
use Rattle.numbers.proofs.Each.{each_list}
use Rattle.blas.proofs.Rows.{copied_whole}
use Rattle.store.specs.Columns.{columns, flat, is_matrix}
use Rattle.store.proofs.Columns.{sized, length_columns, flat_columns, column_turn, column_stop}
use Rattle.from_factors.specs.Triangles.{lower_of, upper_of}

-- ---- a loop that writes f j to column j of the n columns of m entries that a slice holds: from column j on it would make the whole list
module _ (f : ℕ → Column) (m n : ℕ) where
  pub record Written (j : ℕ) (s : Column) : Type 0 where
    pub size : length s ≡ n * m
    pub left : each_from (λ i c. f i) j (columns m n s) ≡ list_of n f

  pub written_start : (s : Column) → is_matrix s m n ≡ true → Written 0 s
  written_start s h =
      record { size = (sized m n s h).size; left = each_list f (columns m n s) ∙ ap (λ (k : ℕ). list_of k f) (length_columns m n s) }

  pub written_turn : (j : ℕ) (s c : Column) → j < n → Written j s → length c ≡ length (mid_of (j * m) (j * m + m - j * m) s) → c ≡ f j
      → Written (j + 1) (put_mid (j * m) (j * m + m - j * m) s c)
  written_turn j s c h w len e =
      record { size = same_len_mid (j * m) (j * m + m - j * m) s c len ∙ w.size; left = column_turn (λ i x. f i) m n j s c h w.size len e ∙ w.left }

  pub written_end : (j : ℕ) (s : Column) → n ≤ j → Written j s → columns m n s ≡ list_of n f
  written_end j s h w = sym (column_stop (λ i c. f i) m n j s h) ∙ w.left

  pub written_flat : (j : ℕ) (s : Column) → n ≤ j → Written j s → s ≡ flat (list_of n f)
  written_flat j s h w = sym (flat_columns m n s w.size) ∙ ap flat (written_end j s h w)

-- ---- one column of L: a copy, zeros above the diagonal, and a one on it
pub lower_written : (j : ℕ) (src dst copy z : Column) → length src ≡ length dst → j < length dst → copy ≡ copied src dst → z ≡ zeros (length (take j copy))
    → set (z ++ drop j copy) j one64 ≡ lower_of j src
unfolding lower_of
lower_written j src dst copy z len h c e =
    let is : copy ≡ src = c ∙ copied_whole src dst len in
    let above : z ≡ zeros j = e ∙ ap (λ (x : Column). zeros (length (take j x))) is ∙ ap zeros (length-take-le j src (omega arith)) in
    ap₂ (λ (a x : Column). set (a ++ drop j x) j one64) above is
    ∙ ap (λ (x : Column). set (zeros j ++ x) j one64) (drop-cons src j nan (omega arith))
    ∙ set_at (zeros j) _ (drop (suc j) src) one64 j (length-replicate j zero64)
    ∙ ap (λ (k : ℕ). zeros j ++ one64 ∷ drop k src) (sym (add-one j))

-- ---- one column of U: a copy of the first rows, and zeros below the diagonal
module _ (j : ℕ) (src dst copy : Column) (fits : length dst ≤ length src) (c : copy ≡ copied (take (length dst) src) dst) where
  first_rows : copy ≡ take (length dst) src
  first_rows = c ∙ copied_whole (take (length dst) src) dst (length-take-le (length dst) src fits)

  -- the diagonal lies below the last row
  pub upper_whole : length dst ≤ j → copy ≡ upper_of (length dst) j src
  unfolding upper_of
  upper_whole h =
      let all : min (length dst) (j + 1) ≡ length dst = omega arith in
      let none : length dst - (j + 1) ≡ 0 = omega arith in
      first_rows ∙ sym (rw (all, none) (append-nil (take (length dst) src)))

  pub upper_written : (z : Column) → j < length dst → z ≡ zeros (length (mid_of (j + 1) (length copy - (j + 1)) copy))
      → put_mid (j + 1) (length copy - (j + 1)) copy z ≡ upper_of (length dst) j src
  unfolding upper_of
  upper_written z h e =
      let k = length dst in
      let len : length copy ≡ k = ap length first_rows ∙ length-take-le k src fits in
      let least : min k (j + 1) ≡ j + 1 = omega arith in
      let below : z ≡ zeros (k - (j + 1)) = e ∙ ap zeros (mid_len (j + 1) (length copy) copy (omega arith) ∙ ap (λ (i : ℕ). i - (j + 1)) len) in
      let after : drop (length copy - (j + 1)) (drop (j + 1) copy) ≡ [] =
      Post-is (j + 1) (length copy) copy (omega arith) ∙ drop_of_length-le copy {i = length copy} (omega arith) in
      let front : take (j + 1) copy ≡ take (min k (j + 1)) src =
      ap (take (j + 1)) first_rows ∙ take-take (j + 1) k src (omega arith) ∙ ap (λ (i : ℕ). take i src) (sym least) in
      ap₂ (λ (a b : Column). a ++ b) front (ap₂ (λ (a b : Column). a ++ b) below after ∙ append-nil (zeros (k - (j + 1))))
