-- One column updated by columns left of it: the updates within the matrix are those of the column by itself, and where no step was skipped four of them are
-- four steps. Then all columns right of a panel. Assumes nothing.
use mathlib.Core.Path.{◌≡◌, refl, sym, ap, ap₂, ◌∙◌, subst⁻¹}
use mathlib.Core.Logic.{◌⊎◌, inl, inr}
use mathlib.Core.Bool.{Bool, true, false, cond, not, ◌||◌}
use mathlib.Core.List.{[], ◌∷◌, ◌++◌}
use Prim.Native.Nat.{ℕ, zero, suc, ◌+◌, ◌-◌, ◌*◌, ◌≤◌, ◌<◌, min}
use native.Mathlib.Omega.{arith}
use borrow.Author.Tests.{not-true, lt-leb, le-leb}
use lib.ListN.{length, get_or, set, length-set, length-append, get_or-append}
use lib.Seq.{get_or-set_same, get_or-set_other, set-get_or, set-set, set_at, get_or_at}
use lib.Ieee.{Float, nan}
use Rattle.numbers.specs.Each.{each_from, turns_from}
use Rattle.numbers.specs.Numbers.{is_zero}
use Rattle.numbers.specs.Column.{Column, entry}
use Rattle.numbers.proofs.Each.{length_each, each_step, each_stop, each_same, each_id}
use Rattle.store.specs.Columns.{columns, is_matrix, on_columns, HasRows}
use Rattle.store.specs.Steps.{Matrix, column}
use Rattle.one_step.specs.OneStep.{step_column}
use Rattle.store.proofs.Columns.{sized, length_columns, columns_rows, entry_at, on_columns_lem, on_done, each_rows}
use Rattle.one_step.proofs.Within.{within_columns}
use Rattle.four_steps.specs.FourSteps.{step_by, four_steps, four_stepped, four_stepped_on}
use Rattle.four_steps.proofs.Within.{stepped_columns, on_column}
use Rattle.refusals.proofs.Tests.{neither}
use Rattle.elimination.specs.Adding.{update}
use Rattle.elimination.proofs.Own.{length_updates}
use Rattle.updates.specs.Updates.{updated_at, live, after_panel, updated_from}

-- ---- one update
module _ (m n i j : ℕ) (s : Column) (hi : i < j) (hj : j < n) (hm : i < m) where
  -- a zero on the packed diagonal
  pub update_none : (d : Float) → d ≡ get_or s (i * m + i) nan → is_zero d ≡ true → columns m n s ≡ updated_at j i (columns m n s)
  unfolding updated_at update
  update_none d is z =
      let cs = columns m n s in
      let zero_there : is_zero (entry (column cs i) i) ≡ true = ap is_zero (sym (is ∙ entry_at m n i i s nan (omega arith) hm)) ∙ z in
      rw zero_there (sym (set-get_or cs j []))

  -- the column is stepped within the store
  pub update_done : (d : Float) (t : Column) → d ≡ get_or s (i * m + i) nan → is_zero d ≡ false → is_matrix s m n ≡ true
      → t ≡ on_columns m n (λ cs. set cs j (step_column i (column cs i) (column cs j))) s → columns m n t ≡ updated_at j i (columns m n s)
  unfolding updated_at update
  update_done d t is z fits made =
      let cs = columns m n s in
      let some : is_zero (entry (column cs i) i) ≡ false = ap is_zero (sym (is ∙ entry_at m n i i s nan (omega arith) hm)) ∙ z in
      within_columns i j m n s fits hj t made ∙ rw some

-- ---- several, one after another
turns_same : {S : Type 0} (f g : ℕ → S → S) (i k : ℕ) (x : S) → ((q : ℕ) (y : S) → i ≤ q → q < i + k → f q y ≡ g q y) → turns_from f i k x ≡ turns_from g i k x
unfolding turns_from
turns_same f g i zero x e = refl
turns_same f g i (suc k) x e =
    ap (turns_from f (i + 1) k) (e i x (omega arith) (omega arith)) ∙ turns_same f g (i + 1) k (g i x) (λ q y h l. e q y (omega arith) (omega arith))

-- they go by the columns that they read
pub updates_same : (a b : Matrix) (i k : ℕ) (c : Column) → ((q : ℕ) → q < i + k → column a q ≡ column b q)
    → turns_from (update a) i k c ≡ turns_from (update b) i k c
unfolding update
updates_same a b i k c e =
    turns_same (update a) (update b) i k c (λ q y h l. ap (λ (x : Column). cond (is_zero (entry x q)) y (step_column q x y)) (e q l))

-- within the matrix, the column standing right of those that update it
pub updates_at : (cs : Matrix) (j i k : ℕ) → i + k ≤ j → j < length cs → turns_from (updated_at j) i k cs ≡ set cs j (turns_from (update cs) i k (column cs j))
unfolding turns_from updated_at
updates_at cs j i zero h hj = sym (set-get_or cs j [])
updates_at cs j i (suc k) h hj =
    let y = update cs i (column cs j) in
    let cs' = set cs j y in
    updates_at cs' j (i + 1) k (omega arith) (rw length-set hj)
    ∙ set-set cs j y _
    ∙ ap (set cs j)
    (ap (turns_from (update cs') (i + 1) k) (get_or-set_same cs j y [] hj)
    ∙ updates_same cs' cs (i + 1) k y (λ q l. get_or-set_other cs j q y [] (λ e. omega arith)))

-- the last column
pub updates_last : (cs : Matrix) (x : Column) (i k : ℕ) → i + k ≤ length cs
    → turns_from (updated_at (length cs)) i k (cs ++ x ∷ []) ≡ cs ++ turns_from (update cs) i k x ∷ []
updates_last cs x i k h =
    let n = length cs in
    let ds = cs ++ x ∷ [] in
    updates_at ds n i k h (omega (arith, length-append cs (x ∷ [])))
    ∙ ap (λ (c : Column). set ds n (turns_from (update ds) i k c)) (get_or_at cs x [] [] n refl)
    ∙ ap (set ds n) (updates_same ds cs i k x (λ q l. get_or-append cs (x ∷ []) [] q (omega arith)))
    ∙ set_at cs x [] (turns_from (update cs) i k x) n refl

-- ---- four at once
-- from what the tests of the four packed numbers give
pub live_found : (m n i : ℕ) (s : Column) (z0 z1 z2 z3 : Bool) → i + 4 ≤ m → i + 4 ≤ n → z0 ≡ is_zero (get_or s (i * m + i) nan)
    → z1 ≡ is_zero (get_or s ((i + 1) * m + (i + 1)) nan)
    → z2 ≡ is_zero (get_or s ((i + 2) * m + (i + 2)) nan) → z3 ≡ is_zero (get_or s ((i + 3) * m + (i + 3)) nan)
    → not ((z0 || z1) || (z2 || z3)) ≡ live i (columns m n s)
unfolding live
live_found m n i s z0 z1 z2 z3 hm hn e0 e1 e2 e3 =
    rw (
      e0 ∙ there i (omega arith) (omega arith),
      e1 ∙ there (i + 1) (omega arith) (omega arith),
      e2 ∙ there (i + 2) (omega arith) (omega arith),
      e3 ∙ there (i + 3) (omega arith) (omega arith),
    ) refl
  where
    there : (k : ℕ) → k < m → k < n → is_zero (get_or s (k * m + k) nan) ≡ is_zero (entry (column (columns m n s) k) k)
    there k km kn = ap is_zero (entry_at m n k k s nan kn km)

module _ (i : ℕ) (cs : Matrix) (ok : live i cs ≡ true) where
  alive : (is_zero (entry (column cs i) i) ≡ false) × (is_zero (entry (column cs (i + 1)) (i + 1)) ≡ false)
      × (is_zero (entry (column cs (i + 2)) (i + 2)) ≡ false) × (is_zero (entry (column cs (i + 3)) (i + 3)) ≡ false)
  unfolding live
  alive =
      let d0 = is_zero (entry (column cs i) i) in
      let d1 = is_zero (entry (column cs (i + 1)) (i + 1)) in
      let d2 = is_zero (entry (column cs (i + 2)) (i + 2)) in
      let d3 = is_zero (entry (column cs (i + 3)) (i + 3)) in
      let both = neither (d0 || d1) (d2 || d3) (not-true ((d0 || d1) || (d2 || d3)) ok) in
      let front = neither d0 d1 both.0 in
      let back = neither d2 d3 both.1 in
      (front.0, front.1, back.0, back.1)

  made : (q : ℕ) (c : Column) → is_zero (entry (column cs q) q) ≡ false → update cs q c ≡ step_by cs q c
  unfolding update step_by
  made q c z = rw z

  pub live_four : (c : Column) → turns_from (update cs) i 4 c ≡ four_steps i cs c
  unfolding turns_from four_steps
  live_four c =
      let two : i + 1 + 1 ≡ i + 2 = omega arith in
      let three : i + 1 + 1 + 1 ≡ i + 3 = omega arith in
      ap₂ (λ (p q : ℕ). update cs q (update cs p (update cs (i + 1) (update cs i c)))) two three
      ∙ made (i + 3) _ alive.3
      ∙ ap (step_by cs (i + 3)) (made (i + 2) _ alive.2 ∙ ap (step_by cs (i + 2)) (made (i + 1) _ alive.1 ∙ ap (step_by cs (i + 1)) (made i c alive.0)))

-- by the call of four steps
pub four_done : (m n i from : ℕ) (s : Column) → is_matrix s m n ≡ true → i + 4 ≤ m → i + 4 ≤ from → (t : Column) → live i (columns m n s) ≡ true
    → t ≡ on_columns m n (four_stepped m i from) s → columns m n t ≡ after_panel i 4 from (columns m n s)
unfolding after_panel
four_done m n i from s fits hm hf t ok made =
    stepped_columns i from m n s t fits hm hf made ∙ each_same _ _ from (columns m n s) (λ j c h l. sym (live_four i (columns m n s) ok c))

-- on one column alone
pub four_done_on : (m n i j : ℕ) (s : Column) → is_matrix s m n ≡ true → i + 4 ≤ m → i + 4 ≤ j → j < n → (t : Column) → live i (columns m n s) ≡ true
    → t ≡ on_columns m n (four_stepped_on m i j) s → columns m n t ≡ turns_from (updated_at j) i 4 (columns m n s)
four_done_on m n i j s fits hm right hj t ok made =
    let cs = columns m n s in
    on_column i j m n s t fits hm right hj made ∙ ap (set cs j) (sym (live_four i cs ok (column cs j))) ∙ sym (updates_at cs j i 4 right (rw length_columns hj))

-- on the last column, as one of those right of a panel
pub panel_last : (i k n : ℕ) (cs : Matrix) → length cs ≡ n + 1 → i + k ≤ n → after_panel i k n cs ≡ turns_from (updated_at n) i k cs
unfolding after_panel
panel_last i k n cs len right =
    let f : ℕ → Column → Column = λ j c. turns_from (update cs) i k c in
    sym (each_step f n cs [] (omega (arith, len)))
    ∙ each_stop f (n + 1) (set cs n (f n (column cs n))) (omega (arith, len, length-set cs n (f n (column cs n))))
    ∙ sym (updates_at cs n i k right (omega (arith, len)))

-- ---- every column right of a panel: one turn of the loop, its end, and the columns of the panel
module _ (m n i k j : ℕ) (s t : Column) (cs : Matrix) (right : i + k ≤ j) (hj : j < n) (same : (q : ℕ) → q < i + k → column (columns m n s) q ≡ column cs q)
    (stepped : columns m n t ≡ turns_from (updated_at j) i k (columns m n s)) where
  now_is : columns m n t ≡ set (columns m n s) j (turns_from (update cs) i k (column (columns m n s) j))
  now_is =
      let ds = columns m n s in
      stepped ∙ updates_at ds j i k right (rw length_columns hj) ∙ ap (set ds j) (updates_same ds cs i k (column ds j) same)

  pub panel_stays : (q : ℕ) → q < i + k → column (columns m n t) q ≡ column cs q
  panel_stays q h = ap (λ (ds : Matrix). column ds q) now_is ∙ get_or-set_other (columns m n s) j q _ [] (λ e. omega arith) ∙ same q h

  pub panel_turn : each_from (λ q c. turns_from (update cs) i k c) (j + 1) (columns m n t) ≡ each_from (λ q c. turns_from (update cs) i k c) j (columns m n s)
  panel_turn =
      ap (each_from (λ q c. turns_from (update cs) i k c) (j + 1)) now_is
      ∙ each_step (λ q c. turns_from (update cs) i k c) j (columns m n s) [] (rw length_columns hj)

-- ---- the calls
module _ (m n i to from : ℕ) (s : Column) where
  abbrev cs : Matrix
  cs = columns m n s

  rows_panel : length s ≡ n * m → HasRows m (after_panel i (to - i) from cs)
  unfolding after_panel
  rows_panel size =
      each_rows m (λ j c. turns_from (update cs) i (to - i) c) from cs (λ j c len. length_updates cs i (to - i) c ∙ len) (columns_rows m n s size)

  pub not_updated : min m from < to → cs ≡ updated_from m i to from cs
  unfolding updated_from
  not_updated h = rw (lt-leb to (min m from) h)

  pub updated_is : to ≤ min m from → updated_from m i to from cs ≡ after_panel i (to - i) from cs
  unfolding updated_from
  updated_is h = rw (le-leb to (min m from) h)

  -- no columns to update by, or none to update
  pub none_updated : to ≤ min m from → (to < i) ⊎ (n < from) → cs ≡ updated_from m i to from cs
  unfolding after_panel turns_from
  none_updated h (inl before) =
      let none : to - i ≡ 0 = omega arith in
      sym (updated_is h ∙ rw none (each_id (λ j c. c) from cs (λ j c l. refl)))
  none_updated h (inr behind) = sym (updated_is h ∙ each_stop _ from cs (omega (arith, length_columns m n s)))

  -- what a caller knows of the columns then
  pub updated_columns : (t : Column) → is_matrix s m n ≡ true → to ≤ m → to ≤ from → t ≡ on_columns m n (updated_from m i to from) s
      → columns m n t ≡ after_panel i (to - i) from cs
  unfolding after_panel
  updated_columns t fits hm hf made =
      let is = updated_is (omega arith) in
      let size = (sized m n s fits).size in
      ap (columns m n) made
      ∙ on_columns_lem m n (updated_from m i to from) s fits
      (ap length is ∙ length_each _ from cs ∙ length_columns m n s)
      (subst⁻¹ (λ (ds : Matrix). HasRows m ds) is (rows_panel size))
      ∙ is

-- the last column of m by n + 1
pub last_columns : (m n : ℕ) (s t : Column) → is_matrix s m (n + 1) ≡ true → t ≡ on_columns m (n + 1) (updated_from m 0 (min m n) n) s
    → columns m (n + 1) t ≡ turns_from (updated_at n) 0 (min m n) (columns m (n + 1) s)
last_columns m n s t fits made =
    let cs = columns m (n + 1) s in
    let all : min m n - 0 ≡ min m n = omega arith in
    updated_columns m (n + 1) 0 (min m n) n s t fits (omega arith) (omega arith) made
    ∙ ap (λ (k : ℕ). after_panel 0 k n cs) all
    ∙ panel_last 0 (min m n) n cs (length_columns m (n + 1) s) (omega arith)

pub last_made : (m n : ℕ) (s t : Column) → is_matrix s m (n + 1) ≡ true → length t ≡ length s
    → columns m (n + 1) t ≡ turns_from (updated_at n) 0 (min m n) (columns m (n + 1) s) → t ≡ on_columns m (n + 1) (updated_from m 0 (min m n) n) s
last_made m n s t fits kept made =
    let cs = columns m (n + 1) s in
    let all : min m n ≡ min m n - 0 = omega arith in
    on_done m (n + 1) (updated_from m 0 (min m n) n) s t fits kept
    (made
    ∙ sym (panel_last 0 (min m n) n cs (length_columns m (n + 1) s) (omega arith))
    ∙ ap (λ (k : ℕ). after_panel 0 k n cs) all
    ∙ sym (updated_is m (n + 1) 0 (min m n) n s (omega arith)))
