-- A column-major slice and the list of its columns: what lending one column as a part and taking it back does to that list, and how what is
-- shown of the columns becomes what is shown of the slice. By induction on the number of columns. Assumes nothing.
use mathlib.Core.Path.{◌≡◌, refl, sym, ap, ap₂, ◌∙◌}
use mathlib.Core.Bool.{true, false, cond, ◌&&◌}
use mathlib.Core.List.{List, [], ◌∷◌, ◌++◌, append_assoc, append-nil}
use Prim.Native.Nat.{ℕ, zero, suc, ◌+◌, ◌-◌, ◌*◌, ◌≤◌, ◌<◌}
use native.Mathlib.Nat.{suc-mul, zero-mul, add_comm, mul-le-mul_right, le_of_suc-le-suc, add-sub_cancel_left, not-suc-le-zero, sub-zero, zero-add, suc-add}
use native.Mathlib.Numerals.{add-one}
use native.Mathlib.Omega.{arith}
use borrow.Author.Tests.{leb-true, eqb-true, le-leb, eq-eqb}
use borrow.Rule.Slice.PartMut.{mid_of, put_mid, mid_len, set_mid_at}
use lib.Dec.{leb, eqb}
use lib.ListN.{length, get_or, set, take, drop, length-drop, length-append, length-set, take-append-drop}
use lib.Seq.{take_all, take-append-le, drop-append-le, take-add, drop-drop, take_at, drop_at, length-take-le, get_or-take, get_or-drop}
use Rattle.numbers.specs.Each.{each_from}
use Rattle.numbers.proofs.Choice.{and_first, and_second}
use Rattle.numbers.proofs.Each.{each_step, each_stop}
use Rattle.store.specs.Columns.{columns, flat, HasRows, is_matrix, on_columns}

-- ---- the test for a matrix
-- what the test says where it is passed
pub record Sized {A : Type 0} (m n : ℕ) (s : List A) : Type 0 where
  pub rows_most : m ≤ 64
  pub columns_most : n ≤ 64
  pub size : length s ≡ n * m

pub sized : {A : Type 0} (m n : ℕ) (s : List A) → is_matrix s m n ≡ true → Sized m n s
unfolding is_matrix
sized m n s h =
    let most = and_first (leb m 64 && leb n 64) (eqb (length s) (n * m)) h in
    record {
      rows_most = leb-true m 64 (and_first (leb m 64) (leb n 64) most);
      columns_most = leb-true n 64 (and_second (leb m 64) (leb n 64) most);
      size = eqb-true (length s) (n * m) (and_second (leb m 64 && leb n 64) (eqb (length s) (n * m)) h);
    }

pub is_matrix_lem : {A : Type 0} (m n : ℕ) (s : List A) → m ≤ 64 → n ≤ 64 → length s ≡ n * m → is_matrix s m n ≡ true
unfolding is_matrix
is_matrix_lem m n s hm hn len = rw (le-leb m 64 hm, le-leb n 64 hn, eq-eqb (length s) (n * m) len)

-- the test goes by the length alone
pub same_matrix : {A : Type 0} (m n : ℕ) (s t : List A) → length t ≡ length s → is_matrix t m n ≡ is_matrix s m n
unfolding is_matrix
same_matrix m n s t e = rw e

-- ---- one column

-- column j of n ends within n * m
pub column_end : (m n j : ℕ) → j < n → j * m + m ≤ n * m
column_end m n j h = rw (← suc-mul j m) (mul-le-mul_right m h)

-- column j of a store of n columns: it ends within the store, and as a part it has m entries
module _ {A : Type 0} (m n j : ℕ) (s : List A) (h : j < n) (len : length s ≡ n * m) where
  pub column_within : j * m + m ≤ length s
  column_within = rw len (column_end m n j h)

  pub column_length : length (mid_of (j * m) (j * m + m - j * m) s) ≡ m
  column_length = mid_len (j * m) (j * m + m) s column_within ∙ add-sub_cancel_left (j * m) m

-- the front of a scratch array, lent as its part from 0 to m
pub scratch_length : {A : Type 0} (l : List A) (m : ℕ) → m ≤ length l → length (take (m - 0) l) ≡ m
scratch_length l m h = length-take-le (m - 0) l (omega arith) ∙ sub-zero m

module _ {A : Type 0} where
  nothing : (s : List A) → length s ≡ 0 → s ≡ []
  nothing [] e = refl
  nothing (x ∷ s) e = absurd (omega (arith, e))

  rest_length : (m n : ℕ) (s : List A) → length s ≡ suc n * m → (m ≤ length s) × (length (drop m s) ≡ n * m)
  rest_length m n s len = (omega (arith, suc-mul n m), omega (arith, length-drop m s, suc-mul n m))

  pub length_columns : (m n : ℕ) (s : List A) → length (columns m n s) ≡ n
  unfolding columns
  length_columns m zero s = refl
  length_columns m (suc n) s = ap suc (length_columns m n (drop m s))

  pub flat_columns : (m n : ℕ) (s : List A) → length s ≡ n * m → flat (columns m n s) ≡ s
  unfolding columns flat
  flat_columns m zero s len = sym (nothing s (len ∙ zero-mul m))
  flat_columns m (suc n) s len = ap (λ (t : List A). take m s ++ t) (flat_columns m n (drop m s) (rest_length m n s len).1) ∙ take-append-drop m s

  pub columns_flat : (m : ℕ) (cs : List (List A)) → HasRows m cs → columns m (length cs) (flat cs) ≡ cs
  unfolding columns flat
  columns_flat m [] rows = refl
  columns_flat m (c ∷ cs) rows =
      let len : length c ≡ m = rows 0 (omega arith) in
      rw (take_at c (flat cs) m len, drop_at c (flat cs) m len, columns_flat m cs (λ j h. rows (suc j) (omega arith)))

  pub length_flat : (m : ℕ) (cs : List (List A)) → HasRows m cs → length (flat cs) ≡ length cs * m
  unfolding flat
  length_flat m [] rows = sym (zero-mul m)
  length_flat m (c ∷ cs) rows =
      let len : length c ≡ m = rows 0 (omega arith) in
      length-append c (flat cs) ∙ omega (arith, length_flat m cs (λ j h. rows (suc j) (omega arith)), suc-mul (length cs) m)

  jump : (j m : ℕ) (s : List A) → drop (suc j * m) s ≡ drop (j * m) (drop m s)
  jump j m s = ap (λ (k : ℕ). drop k s) (suc-mul j m ∙ add_comm (j * m) m) ∙ sym (drop-drop (j * m) m s)

  -- column j is the part that is lent
  pub column_at : (m n j : ℕ) (s : List A) → j < n → get_or (columns m n s) j [] ≡ mid_of (j * m) m s
  unfolding columns
  column_at m zero j s h = absurd (not-suc-le-zero h)
  column_at m (suc n) zero s h = ap (λ (k : ℕ). take m (drop k s)) (sym (zero-mul m))
  column_at m (suc n) (suc j) s h = column_at m n j (drop m s) (le_of_suc-le-suc h) ∙ ap (take m) (sym (jump j m s))

  -- the same, as the part from j * m to j * m + m
  pub part_column : (m n j : ℕ) (s : List A) → j < n → mid_of (j * m) (j * m + m - j * m) s ≡ get_or (columns m n s) j []
  part_column m n j s h = ap (λ (k : ℕ). mid_of (j * m) k s) (add-sub_cancel_left (j * m) m) ∙ sym (column_at m n j s h)

  pub columns_rows : (m n : ℕ) (s : List A) → length s ≡ n * m → HasRows m (columns m n s)
  columns_rows m n s len j h =
      let hj : j < n = rw length_columns at h in
      ap length (sym (part_column m n j s hj)) ∙ column_length m n j s hj len

  -- an entry by its place in the store
  pub entry_at : (m n j k : ℕ) (s : List A) (d : A) → j < n → k < m → get_or s (j * m + k) d ≡ get_or (get_or (columns m n s) j []) k d
  entry_at m n j k s d h l =
      sym (get_or-take m (drop (j * m) s) k d l ∙ get_or-drop (j * m) s k d) ∙ ap (λ (c : List A). get_or c k d) (sym (column_at m n j s h))

  put_suc : (j m : ℕ) (s c : List A) → put_mid (suc j * m) m s c ≡ take m s ++ put_mid (j * m) m (drop m s) c
  put_suc j m s c =
      (λ i. before i ++ (c ++ drop m (jump j m s i))) ∙ append_assoc (take m s) (take (j * m) (drop m s)) (c ++ drop m (drop (j * m) (drop m s)))
    where
      before : take (suc j * m) s ≡ take m s ++ take (j * m) (drop m s)
      before = ap (λ (k : ℕ). take k s) (suc-mul j m ∙ add_comm (j * m) m) ∙ take-add m (j * m) s

  -- the part that comes back is column j, and the other columns are as they were
  pub columns_put : (m n j : ℕ) (s c : List A) → j < n → length s ≡ n * m → length c ≡ m → columns m n (put_mid (j * m) m s c) ≡ set (columns m n s) j c
  unfolding columns
  columns_put m zero j s c h len lc = absurd (not-suc-le-zero h)
  columns_put m (suc n) zero s c h len lc =
      ap (λ (k : ℕ). columns m (suc n) (put_mid k m s c)) (zero-mul m)
      ∙ (λ i. take_at c (drop m s) m lc i ∷ columns m n (drop_at c (drop m s) m lc i))
  columns_put m (suc n) (suc j) s c h len lc =
      ap (columns m (suc n)) (put_suc j m s c)
      ∙ (λ i. take_at (take m s) rest m full i ∷ columns m n (drop_at (take m s) rest m full i))
      ∙ ap (λ (t : List (List A)). take m s ∷ t) (columns_put m n j (drop m s) c (le_of_suc-le-suc h) (rest_length m n s len).1 lc)
    where
      rest : List A
      rest = put_mid (j * m) m (drop m s) c

      full : length (take m s) ≡ m
      full = length-take-le m s (rest_length m n s len).0

  -- an entry written by its place in the store
  pub written_at : (m n j k : ℕ) (s : List A) (v : A) → j < n → k < m → length s ≡ n * m
      → columns m n (set s (j * m + k) v) ≡ set (columns m n s) j (set (get_or (columns m n s) j []) k v)
  written_at m n j k s v h l len =
      let full : length (mid_of (j * m) m s) ≡ m = ap length (sym (column_at m n j s h)) ∙ columns_rows m n s len j (rw length_columns h) in
      ap (columns m n) (sym (set_mid_at (j * m) m k s v (rw full l)))
      ∙ columns_put m n j s (set (mid_of (j * m) m s) k v) h len (length-set (mid_of (j * m) m s) k v ∙ full)
      ∙ ap (λ (c : List A). set (columns m n s) j (set c k v)) (sym (column_at m n j s h))

  -- column j was lent as the part from j * m to j * m + m to a function that makes f of it
  pub column_lent : (f : List A → List A) (m n j : ℕ) (s c : List A) → j < n → length s ≡ n * m
      → length c ≡ length (mid_of (j * m) (j * m + m - j * m) s) → c ≡ f (mid_of (j * m) (j * m + m - j * m) s)
      → columns m n (put_mid (j * m) (j * m + m - j * m) s c) ≡ set (columns m n s) j (f (get_or (columns m n s) j []))
  column_lent f m n j s c h len kept made =
      ap (λ (k : ℕ). columns m n (put_mid (j * m) k s c)) (add-sub_cancel_left (j * m) m)
      ∙ columns_put m n j s c h len (kept ∙ column_length m n j s h len)
      ∙ ap (set (columns m n s) j) (made ∙ ap f (part_column m n j s h))

  -- one turn of a loop that does so with each column, and its end
  pub column_turn : (f : ℕ → List A → List A) (m n j : ℕ) (s c : List A) → j < n → length s ≡ n * m
      → length c ≡ length (mid_of (j * m) (j * m + m - j * m) s) → c ≡ f j (mid_of (j * m) (j * m + m - j * m) s)
      → each_from f (j + 1) (columns m n (put_mid (j * m) (j * m + m - j * m) s c)) ≡ each_from f j (columns m n s)
  column_turn f m n j s c h len kept made =
      ap (each_from f (j + 1)) (column_lent (f j) m n j s c h len kept made)
      ∙ each_step f j (columns m n s) [] (omega (arith, length_columns m n s))

  pub column_stop : (f : ℕ → List A → List A) (m n j : ℕ) (s : List A) → n ≤ j → each_from f j (columns m n s) ≡ columns m n s
  column_stop f m n j s h = each_stop f j (columns m n s) (omega (arith, length_columns m n s))

-- ---- one column more
module _ {A : Type 0} where
  -- the columns of the front of a store
  pub columns_front : (m n : ℕ) (s z : List A) → length s ≡ n * m → columns m n (s ++ z) ≡ columns m n s
  unfolding columns
  columns_front m zero s z len = refl
  columns_front m (suc n) s z len =
      let rest = rest_length m n s len in
      ap₂ (λ (c : List A) (cs : List (List A)). c ∷ cs) (take-append-le m s z rest.0)
      (ap (columns m n) (drop-append-le m s z rest.0) ∙ columns_front m n (drop m s) z rest.1)

  -- the columns of two stores, one behind the other
  pub columns_split : (m k j : ℕ) (s t : List A) → length s ≡ k * m → columns m (k + j) (s ++ t) ≡ columns m k s ++ columns m j t
  unfolding columns
  columns_split m zero j s t len =
      let none : s ≡ [] = nothing s (len ∙ zero-mul m) in
      ap₂ (λ (i : ℕ) (l : List A). columns m i (l ++ t)) (zero-add j) none
  columns_split m (suc k) j s t len =
      let rest = rest_length m k s len in
      ap (λ (i : ℕ). columns m i (s ++ t)) (suc-add k j)
      ∙ ap₂ (λ (c : List A) (cs : List (List A)). c ∷ cs) (take-append-le m s t rest.0)
      (ap (columns m (k + j)) (drop-append-le m s t rest.0) ∙ columns_split m k j (drop m s) t rest.1)

  -- and with the column behind it
  pub columns_snoc : (m n : ℕ) (s c : List A) → length s ≡ n * m → length c ≡ m → columns m (n + 1) (s ++ c) ≡ columns m n s ++ c ∷ []
  unfolding columns
  columns_snoc m n s c len lc = ap (λ (k : ℕ). columns m k (s ++ c)) (add-one n) ∙ snoc_suc n s len
    where
      snoc_suc : (n : ℕ) (s : List A) → length s ≡ n * m → columns m (suc n) (s ++ c) ≡ columns m n s ++ c ∷ []
      snoc_suc zero s e =
          let none : s ≡ [] = nothing s (e ∙ zero-mul m) in
          ap (λ (l : List A). take m (l ++ c) ∷ []) none ∙ ap (λ (l : List A). l ∷ []) (take_all m c (omega arith))
      snoc_suc (suc n) s e =
          let rest = rest_length m n s e in
          ap₂ (λ (x : List A) (cs : List (List A)). x ∷ cs) (take-append-le m s c rest.0)
          (ap (columns m (suc n)) (drop-append-le m s c rest.0) ∙ snoc_suc n (drop m s) rest.1)

  pub flat_snoc : (cs : List (List A)) (c : List A) → flat (cs ++ c ∷ []) ≡ flat cs ++ c
  unfolding flat
  flat_snoc [] c = append-nil c
  flat_snoc (d ∷ cs) c = ap (λ (t : List A). d ++ t) (flat_snoc cs c) ∙ sym (append_assoc d (flat cs) c)

-- ---- a call that works on columns
module _ {A : Type 0} (m n : ℕ) (f : List (List A) → List (List A)) (s : List A) where
  -- a slice that is no matrix stays
  pub on_none : is_matrix s m n ≡ false → s ≡ on_columns m n f s
  unfolding on_columns
  on_none h = rw h

  pub on_flat : is_matrix s m n ≡ true → on_columns m n f s ≡ flat (f (columns m n s))
  unfolding on_columns
  on_flat h = rw h

  -- the work was done on the columns
  pub on_done : (t : List A) → is_matrix s m n ≡ true → length t ≡ length s → columns m n t ≡ f (columns m n s) → t ≡ on_columns m n f s
  on_done t h len e =
      sym (flat_columns m n t (len ∙ (sized m n s h).size)) ∙ ap flat e ∙ sym (on_flat h)

  -- only what is made of these columns counts
  pub on_same : (g : List (List A) → List (List A)) → f (columns m n s) ≡ g (columns m n s) → on_columns m n f s ≡ on_columns m n g s
  unfolding on_columns
  on_same g e = ap (λ (cs : List (List A)). cond (is_matrix s m n) (flat cs) s) e

  -- what a caller learns of the columns
  pub on_columns_lem : is_matrix s m n ≡ true → length (f (columns m n s)) ≡ n → HasRows m (f (columns m n s)) → columns m n (on_columns m n f s)
      ≡ f (columns m n s)
  on_columns_lem h len rows =
      ap (columns m n) (on_flat h) ∙ ap (λ (k : ℕ). columns m k (flat (f (columns m n s)))) (sym len) ∙ columns_flat m (f (columns m n s)) rows

-- work that keeps the columns' lengths keeps the rows
pub each_rows : {A : Type 0} (m : ℕ) (f : ℕ → List A → List A) (k : ℕ) (cs : List (List A)) → ((j : ℕ) (c : List A) → length c ≡ m → length (f j c) ≡ m)
    → HasRows m cs → HasRows m (each_from f k cs)
unfolding each_from
each_rows m f k [] keeps rows j h = rows j h
each_rows m f zero (c ∷ cs) keeps rows zero h = keeps 0 c (rows 0 (omega arith))
each_rows m f zero (c ∷ cs) keeps rows (suc j) h =
    each_rows m (λ i. f (suc i)) zero cs (λ i. keeps (suc i)) (λ i g. rows (suc i) (omega arith)) j (le_of_suc-le-suc h)
each_rows m f (suc k) (c ∷ cs) keeps rows zero h = rows 0 (omega arith)
each_rows m f (suc k) (c ∷ cs) keeps rows (suc j) h =
    each_rows m (λ i. f (suc i)) k cs (λ i. keeps (suc i)) (λ i g. rows (suc i) (omega arith)) j (le_of_suc-le-suc h)
