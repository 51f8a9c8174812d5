-- Step i on a column of the store that holds its multipliers too, number by number: one turn of the loop, its end, and what the columns are
-- afterwards, which is what both a step of factoring and adding's update cite. An update reads of the other column only the rows that are still to
-- come, so the two columns may even be one. Assumes nothing.
use mathlib.Core.Path.{◌≡◌, refl, sym, ap, ◌∙◌}
use mathlib.Core.Bool.{true}
use mathlib.Core.List.{List, []}
use Prim.Native.Nat.{ℕ, ◌+◌, ◌-◌, ◌*◌, ◌≤◌, ◌<◌, min}
use native.Mathlib.Nat.{ne_of_lt}
use native.Mathlib.Omega.{arith}
use borrow.Rule.Slice.PartMut.{mid_of, put_mid}
use borrow.Author.Tests.{ltb-true, ltb-false, eqb-true, eqb-false, eq-eqb}
use lib.Dec.{ltb, eqb}
use lib.ListN.{length, get_or, set, length-set, get_or-eq_default}
use lib.Seq.{get_or-set_same, get_or-set_other, set-get_or, set-set, set_out}
use lib.Ieee.{Float, nan, neg, add, mul, binary64}
use Rattle.numbers.specs.Column.{Column, entry}
use Rattle.blas.specs.Blas.{axpy_from}
use Rattle.numbers.proofs.Choice.{test_cases, cond_cases}
use Rattle.numbers.proofs.Each.{each_step, each_stop, each_same}
use Rattle.blas.proofs.Rows.{axpy_none}
use Rattle.store.specs.Columns.{columns, HasRows, is_matrix, on_columns}
use Rattle.store.specs.Steps.{Matrix, column}
use Rattle.one_step.specs.OneStep.{step_column, step_columns, stepped_in}
use Rattle.store.proofs.Columns.{sized, length_columns, columns_rows, entry_at, column_lent, on_columns_lem}
use Rattle.one_step.proofs.Shape.{length_step_column}

-- ---- one column of a list of columns replaced

-- an entry of a list in which place j was written anew
pub set_cases : {A : Type 0} (P : A → Type 0) (l : List A) (j k : ℕ) (a d : A) → j < length l → (k ≡ j → P a) → ((k ≡ j → ⊥) → P (get_or l k d))
    → P (get_or (set l j a) k d)
set_cases P l j k a d h same other =
    test_cases (eqb k j)
    (λ t. let e = eqb-true k j t in rw (ap (λ (x : ℕ). get_or (set l j a) x d) e ∙ get_or-set_same l j a d h) (same e))
    (λ t. let n = eqb-false k j t in rw (get_or-set_other l j k a d n) (other n))

-- ---- what is left of the update of column j by column i at row k
abbrev pub updating : Float → ℕ → ℕ → ℕ → Matrix → Matrix
updating u i j k cs = set cs j (axpy_from k u (column cs i) (column cs j))

-- an update reads of the other column only the rows from its first on
axpy_rest : (from : ℕ) (u : Float) (x z y : Column) → length x ≡ length y → length z ≡ length y → ((r : ℕ) → from ≤ r → entry x r ≡ entry z r)
    → axpy_from from u x y ≡ axpy_from from u z y
unfolding axpy_from
axpy_rest from u x z y lx lz same =
    rw (eq-eqb (length x) (length y) lx, eq-eqb (length z) (length y) lz)
    (each_same _ _ from y (λ r v h t. ap (λ (w : Float). add binary64 (mul binary64 u w) v) (same r h)))

axpy_turn : (k : ℕ) (u : Float) (x y : Column) → length x ≡ length y → k < length y
    → axpy_from (k + 1) u x (set y k (add binary64 (mul binary64 u (entry x k)) (entry y k))) ≡ axpy_from k u x y
unfolding axpy_from
axpy_turn k u x y len h =
    rw (eq-eqb (length x) (length y) len, length-set y k (add binary64 (mul binary64 u (entry x k)) (entry y k)), eq-eqb (length x) (length y) len)
    (each_step (λ r v. add binary64 (mul binary64 u (entry x r)) v) k y nan h)

module _ (u : Float) (i j k : ℕ) (cs : Matrix) (hj : j < length cs) (same : length (column cs i) ≡ length (column cs j)) (hk : k < length (column cs j)) where
  abbrev next : Column
  next = set (column cs j) k (add binary64 (mul binary64 u (entry (column cs i) k)) (entry (column cs j) k))

  -- below row k column i is as it was, even where it is column j
  below : (length (column (set cs j next) i) ≡ length next) × ((r : ℕ) → k + 1 ≤ r → entry (column (set cs j next) i) r ≡ entry (column cs i) r)
  below =
      set_cases (λ (x : Column). (length x ≡ length next) × ((r : ℕ) → k + 1 ≤ r → entry x r ≡ entry (column cs i) r)) cs j i next [] hj
      (λ e. (refl, λ r h. get_or-set_other (column cs j) k r _ nan (λ t. omega arith) ∙ ap (λ (x : ℕ). entry (column cs x) r) (sym e)))
      (λ n. (same ∙ sym (length-set (column cs j) k _), λ r h. refl))

  update_turn : updating u i j (k + 1) (set cs j next) ≡ updating u i j k cs
  update_turn =
      set-set cs j next _
      ∙ ap (set cs j)
      (ap (axpy_from (k + 1) u (column (set cs j next) i)) (get_or-set_same cs j next [] hj)
      ∙ axpy_rest (k + 1) u (column (set cs j next) i) (column cs i) next below.0 (same ∙ sym (length-set (column cs j) k _)) below.1
      ∙ axpy_turn k u (column cs i) (column cs j) same hk)

-- ---- the same in the store
module _ (i j m n : ℕ) (s : List Float) (hi : i < n) (hj : j < n) (len : length s ≡ n * m) where
  length_column : (c : ℕ) → c < n → length (column (columns m n s) c) ≡ m
  length_column c h = columns_rows m n s len c (rw length_columns h)

  -- the number copied
  pub within_start : i < m
      → updating (neg (get_or s (j * m + i) nan)) i j (i + 1) (columns m n s) ≡ set (columns m n s) j
      (step_column i (column (columns m n s) i) (column (columns m n s) j))
  unfolding step_column
  within_start hm = ap (λ (x : Float). updating (neg x) i j (i + 1) (columns m n s)) (entry_at m n j i s nan hj hm)

  -- one entry of column j, which was lent as its part, c being the part afterwards
  pub within_turn : (u : Float) (k : ℕ) (c : Column) → k < m
      → length c ≡ length (mid_of (j * m) (j * m + m - j * m) s)
      → c ≡ set (mid_of (j * m) (j * m + m - j * m) s) k (add binary64 (mul binary64 u (get_or s (i * m + k) nan))
      (entry (mid_of (j * m) (j * m + m - j * m) s) k))
      → updating u i j (k + 1) (columns m n (put_mid (j * m) (j * m + m - j * m) s c)) ≡ updating u i j k (columns m n s)
  within_turn u k c hk kept made =
      let cs = columns m n s in
      ap (λ (x : Matrix). updating u i j (k + 1) x)
      (column_lent (λ y. set y k (add binary64 (mul binary64 u (get_or s (i * m + k) nan)) (entry y k))) m n j s c hj len kept made
      ∙ ap (λ (x : Float). set cs j (set (column cs j) k (add binary64 (mul binary64 u x) (entry (column cs j) k)))) (entry_at m n i k s nan hi hk))
      ∙ update_turn u i j k cs (rw length_columns hj) (length_column i hi ∙ sym (length_column j hj)) (rw (length_column j hj) hk)

  pub within_stop : (u : Float) (k : ℕ) → m ≤ k → updating u i j k (columns m n s) ≡ columns m n s
  within_stop u k h =
      let cs = columns m n s in
      ap (set cs j) (axpy_none k u (column cs i) (column cs j) (rw (length_column j hj) h)) ∙ set-get_or cs j []

-- ---- what the call gives

-- a column that is not there updates nothing
stepped_none : (i : ℕ) (c : Column) → step_column i [] c ≡ c
unfolding step_column axpy_from
stepped_none i c =
    cond_cases (λ (x : Column). x ≡ c) (eqb 0 (length c)) (λ e. let z = eqb-true 0 (length c) e in each_stop _ (i + 1) c (omega arith)) (λ e. refl)

-- no column j is updated
pub within_no_column : (i j m n : ℕ) (s : List Float) → n ≤ j
    → columns m n s ≡ set (columns m n s) j (step_column i (column (columns m n s) i) (column (columns m n s) j))
within_no_column i j m n s h = sym (set_out (columns m n s) j _ (rw length_columns h))

module _ (i j m n : ℕ) (s : List Float) (fits : is_matrix s m n ≡ true) (hj : j < n) where
  full : (k : ℕ) → k < n → length (column (columns m n s) k) ≡ m
  full k h = columns_rows m n s (sized m n s fits).size k (rw length_columns h)

  -- nothing is below row i, or there is no column i
  pub within_no_row : min m n ≤ i → columns m n s ≡ set (columns m n s) j (step_column i (column (columns m n s) i) (column (columns m n s) j))
  unfolding step_column
  within_no_row h =
      let cs = columns m n s in
      let c = column cs j in
      let stays : step_column i (column cs i) c ≡ c =
      test_cases (ltb i n)
      (λ t. let l : i < n = ltb-true i n t in axpy_none (i + 1) _ (column cs i) c (omega (arith, full j hj)))
      (λ t. let l : n ≤ i = ltb-false i n t in ap (λ (x : Column). step_column i x c) (get_or-eq_default cs [] {n = i} (rw length_columns l))
      ∙ stepped_none i c) in
      sym (ap (set cs j) stays ∙ set-get_or cs j [])

  -- THE LAW of a step within one store: column j is stepped by column i, and the others are as they were
  pub within_columns : (t : List Float) → t ≡ on_columns m n (stepped_in i j) s
      → columns m n t ≡ set (columns m n s) j (step_column i (column (columns m n s) i) (column (columns m n s) j))
  within_columns t made =
      ap (columns m n) made ∙ on_columns_lem m n (stepped_in i j) s fits (length-set cs j c ∙ length_columns m n s) rows
    where
      cs : Matrix
      cs = columns m n s

      c : Column
      c = step_column i (column cs i) (column cs j)

      rows : HasRows m (set cs j c)
      rows k h =
          set_cases (λ (x : Column). length x ≡ m) cs j k c [] (rw length_columns hj)
          (λ e. length_step_column i (column cs i) (column cs j) ∙ full j hj)
          (λ d. full k (omega (arith, h, length-set cs j c, length_columns m n s)))

-- ---- the columns right of column i in turn
module _ (i j m n : ℕ) (s t : List Float) (hj : j < n)
    (made : columns m n t ≡ set (columns m n s) j (step_column i (column (columns m n s) i) (column (columns m n s) j))) where
  pub stepped_column : i < j → column (columns m n t) i ≡ column (columns m n s) i
  stepped_column h = ap (λ (cs : Matrix). column cs i) made ∙ get_or-set_other (columns m n s) j i _ [] (ne_of_lt h)

  pub stepped_turn : (l : Column) → column (columns m n s) i ≡ l → step_columns i l (j + 1) (columns m n t) ≡ step_columns i l j (columns m n s)
  unfolding step_columns
  stepped_turn l e =
      let cs = columns m n s in
      ap (step_columns i l (j + 1)) (made ∙ ap (λ (x : Column). set cs j (step_column i x (column cs j))) e)
      ∙ each_step (λ k c. step_column i l c) j cs [] (rw length_columns hj)
