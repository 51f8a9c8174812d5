-- The slot behind n columns, as the code of adding works in it: lent as a part it is the last column, its updates by the older columns are those of
-- the definition, and an exchange of rows in the older columns leaves it. Assumes nothing.
use mathlib.Core.Path.{◌≡◌, sym, ap, ap₂, ◌∙◌}
use mathlib.Core.Bool.{true, false, cond}
use mathlib.Core.List.{List, [], ◌∷◌, ◌++◌}
use Prim.Native.Nat.{ℕ, ◌+◌, ◌-◌, ◌*◌, ◌≤◌, min}
use native.Mathlib.Nat.{suc-mul}
use native.Mathlib.Numerals.{add-one}
use native.Mathlib.Omega.{arith}
use borrow.Author.Tests.{lt-ltb, le-ltb}
use borrow.Rule.Slice.PartMut.{mid_of, put_mid, same_len_mid}
use lib.Dec.{ltb}
use lib.ListN.{length, get_or, set, take, drop, length-drop, take-append-drop}
use lib.Seq.{set_at, get_or_at, length-take-le}
use Rattle.numbers.specs.Each.{turns_from}
use Rattle.numbers.specs.Column.{Column}
use Rattle.blas.specs.Blas.{swap_rows, copied}
use Rattle.numbers.proofs.Each.{each_snoc, each_same}
use Rattle.blas.proofs.Rows.{copied_whole}
use Rattle.store.specs.Columns.{columns, flat, HasRows, is_matrix, on_columns}
use Rattle.store.specs.Steps.{Matrix, column, swap_in_all, rows_swapped}
use Rattle.store.proofs.Columns.{sized, length_columns, columns_rows, flat_columns, columns_front, columns_snoc, part_column, column_length, column_lent}
use Rattle.store.proofs.Columns.{on_columns_lem}
use Rattle.store.proofs.Steps.{length_rows_swapped, rows_rows_swapped}
use Rattle.swap_list.specs.SwapList.{Swaps, pairs_of, held, good_list}
use Rattle.exchanges.specs.Permute.{permute, rows_permuted, in_order}
use Rattle.exchanges.proofs.OnColumns.{one_column}
use Rattle.swap_list.proofs.SwapList.{held_good}
use Rattle.elimination.specs.Adding.{update, reduced}
use Rattle.factors.specs.Factors.{factors_in}
use Rattle.updates.specs.Updates.{updated_at}
use Rattle.updates.proofs.Updates.{updates_last}

-- ---- the store with its slot
module _ (m n : ℕ) (s : Column) (len : length s ≡ (n + 1) * m) where
  split : (n * m ≤ length s) × (length (drop (n * m) s) ≡ m)
  split =
      let more : (n + 1) * m ≡ n * m + m = ap (λ (k : ℕ). k * m) (add-one n) ∙ suc-mul n m in
      (omega arith, omega (arith, length-drop (n * m) s))

  front : length (take (n * m) s) ≡ n * m
  front = length-take-le (n * m) s split.0

  whole : take (n * m) s ++ drop (n * m) s ≡ s
  whole = take-append-drop (n * m) s

  pub older : columns m n (take (n * m) s) ≡ columns m n s
  older = sym (ap (columns m n) (sym whole) ∙ columns_front m n (take (n * m) s) (drop (n * m) s) front)

  pub older_rows : HasRows m (columns m n s)
  older_rows = rw older at (columns_rows m n (take (n * m) s) front)

  -- the older columns, and what stands in the slot
  pub slot_columns : columns m (n + 1) s ≡ columns m n s ++ drop (n * m) s ∷ []
  slot_columns =
      ap (columns m (n + 1)) (sym whole)
      ∙ columns_snoc m n (take (n * m) s) (drop (n * m) s) front split.1
      ∙ ap (λ (cs : Matrix). cs ++ drop (n * m) s ∷ []) older

  pub older_flat : flat (columns m n s) ≡ take (n * m) s
  older_flat = ap flat (sym older) ∙ flat_columns m n (take (n * m) s) front

-- the slot lent as a part to a function that makes h of it
pub slot_lent : (h : Column → Column) (m n : ℕ) (s c x : Column) (cs : Matrix) → length s ≡ (n + 1) * m → length cs ≡ n → columns m (n + 1) s ≡ cs ++ x ∷ []
    → length c ≡ length (mid_of (n * m) (n * m + m - n * m) s) → c ≡ h (mid_of (n * m) (n * m + m - n * m) s)
    → columns m (n + 1) (put_mid (n * m) (n * m + m - n * m) s c) ≡ cs ++ h x ∷ []
slot_lent h m n s c x cs len wide is kept made =
    column_lent h m (n + 1) n s c (omega arith) len kept made
    ∙ ap (λ (ds : Matrix). set ds n (h (get_or ds n []))) is
    ∙ ap (λ (y : Column). set (cs ++ x ∷ []) n (h y)) (get_or_at cs x [] [] n wide)
    ∙ set_at cs x [] (h x) n wide

-- the slot as it is lent
pub slot_part : (m n : ℕ) (s x : Column) (cs : Matrix) → length cs ≡ n → columns m (n + 1) s ≡ cs ++ x ∷ [] → mid_of (n * m) (n * m + m - n * m) s ≡ x
slot_part m n s x cs wide is = part_column m (n + 1) n s (omega arith) ∙ ap (λ (ds : Matrix). column ds n) is ∙ get_or_at cs x [] [] n wide

-- ---- rows exchanged in the older columns alone
older_swapped : (i p : ℕ) (cs : Matrix) (x : Column) → rows_swapped i p 0 (length cs) (cs ++ x ∷ []) ≡ swap_in_all i p cs ++ x ∷ []
unfolding rows_swapped swap_in_all
older_swapped i p cs x =
    each_snoc (λ j c. cond (ltb j (length cs)) (swap_rows i p c) c) 0 cs x (omega arith)
    ∙ ap₂ (λ (ds : Matrix) (y : Column). ds ++ y ∷ [])
    (each_same _ (λ j c. swap_rows i p c) 0 cs (λ j c g u. rw (lt-ltb j (length cs) u)))
    (rw (le-ltb (length cs) (length cs) (omega arith)))

-- the same in a store u that has x in its slot, v being the store afterwards
pub older_exchanged : (m n p : ℕ) (u v : Column) (cs : Matrix) (x : Column) → length cs ≡ n → is_matrix u m (n + 1) ≡ true → columns m (n + 1) u ≡ cs ++ x ∷ []
    → v ≡ on_columns m (n + 1) (rows_swapped n p 0 n) u → columns m (n + 1) v ≡ swap_in_all n p cs ++ x ∷ []
older_exchanged m n p u v cs x wide fits is swapped =
    let ds = columns m (n + 1) u in
    ap (columns m (n + 1)) swapped
    ∙ on_columns_lem m (n + 1) (rows_swapped n p 0 n) u fits (length_rows_swapped n p 0 n ds ∙ length_columns m (n + 1) u)
    (rows_rows_swapped n m p 0 n ds (columns_rows m (n + 1) u (sized m (n + 1) u fits).size))
    ∙ ap (rows_swapped n p 0 n) is
    ∙ ap (λ (k : ℕ). rows_swapped n p 0 k (cs ++ x ∷ [])) (sym wide)
    ∙ older_swapped n p cs x

-- ---- the whole reduction, from what the calls give: the raw column copied to the slot, permuted there, and updated
module _ (m n pairs : ℕ) (s c : Column) (store : List ℕ) (fits : is_matrix s m (n + 1) ≡ true) (lc : length c ≡ m)
    (good : good_list store pairs m (min m n) ≡ true) where
  pub reduced_made : (c₁ c₂ u : Column)
      → let t = put_mid (n * m) (n * m + m - n * m) s c₁ in
      length c₁ ≡ length (mid_of (n * m) (n * m + m - n * m) s) → c₁ ≡ copied c (mid_of (n * m) (n * m + m - n * m) s)
      → length c₂ ≡ length (mid_of (n * m) (n * m + m - n * m) t)
      → c₂ ≡ on_columns m 1 (rows_permuted (in_order false (held pairs store))) (mid_of (n * m) (n * m + m - n * m) t)
      → columns m (n + 1) u ≡ turns_from (updated_at n) 0 (min m n) (columns m (n + 1) (put_mid (n * m) (n * m + m - n * m) t c₂))
      → columns m (n + 1) u ≡ columns m n s ++ reduced m (factors_in s m n store pairs) c ∷ []
  unfolding reduced in_order
  reduced_made c₁ c₂ u k₁ e₁ k₂ e₂ made =
      let cs = columns m n s in
      let swaps = pairs_of pairs store in
      let t = put_mid (n * m) (n * m + m - n * m) s c₁ in
      let h : Column → Column = on_columns m 1 (rows_permuted (held pairs store)) in
      let size = (sized m (n + 1) s fits).size in
      let wide : length cs ≡ n = length_columns m n s in
      let long : length c ≡ length (mid_of (n * m) (n * m + m - n * m) s) = lc ∙ sym (column_length m (n + 1) n s (omega arith) size) in
      let first : columns m (n + 1) t ≡ cs ++ c ∷ [] =
      slot_lent (λ x. c) m n s c₁ (drop (n * m) s) cs size wide (slot_columns m n s size) k₁ (e₁ ∙ copied_whole c (mid_of (n * m) (n * m + m - n * m) s)
      long) in
      let size' : length t ≡ (n + 1) * m = same_len_mid (n * m) (n * m + m - n * m) s c₁ k₁ ∙ size in
      let permuted : h c ≡ permute swaps c =
      one_column m (held pairs store) c (sized m (n + 1) s fits).rows_most lc ∙ ap (λ (p : Swaps). permute p c) (held_good m (min m n) pairs store good) in
      let second : columns m (n + 1) (put_mid (n * m) (n * m + m - n * m) t c₂) ≡ cs ++ permute swaps c ∷ [] =
      slot_lent h m n t c₂ c cs size' wide first k₂ e₂ ∙ ap (λ (y : Column). cs ++ y ∷ []) permuted in
      made
      ∙ ap₂ (λ (k : ℕ) (ds : Matrix). turns_from (updated_at k) 0 (min m n) ds) (sym wide) second
      ∙ updates_last cs (permute swaps c) 0 (min m n) (omega arith)
      ∙ ap (λ (k : ℕ). cs ++ turns_from (update cs) 0 (min m k) (permute swaps c) ∷ []) (sym wide)
