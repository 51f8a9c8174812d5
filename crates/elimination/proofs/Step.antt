-- One step of the elimination, column by column, and that it keeps the shape of the matrix. Assumes nothing.
use Prim.Native.Nat.{ℕ, zero, suc, ◌+◌, ◌≤◌, ◌<◌, min}
use native.Mathlib.Nat.{zero-add, add-zero}
use borrow.Author.Tests.{eqb-true, eqb-false}
use lib.Dec.{eqb}
use native.Mathlib.Omega.{arith}
use mathlib.Core.Path.{◌≡◌, refl, sym, ap, ap₂, ◌∙◌}
use mathlib.Core.Bool.{Bool, true, false}
use mathlib.Core.List.{[], ◌∷◌, ◌++◌}
use lib.ListN.{length, set, length-set, get_or-append}
use lib.Seq.{get_or-set_same, get_or-set_other, set-append_left}
use lib.Ieee.{nan}
use Rattle.numbers.specs.Each.{each_from, turns_from}
use Rattle.numbers.specs.Numbers.{is_zero}
use Rattle.numbers.specs.Column.{Column, entry}
use Rattle.min_max.specs.Pivot.{pivot_row}
use Rattle.blas.specs.Blas.{swap_rows}
use Rattle.numbers.proofs.Choice.{test_cases, cond_cases}
use Rattle.numbers.proofs.Each.{each_at, each_before, each_snoc, turns_last}
use Rattle.blas.proofs.Exchange.{other_first, get_d_exchanged}
use Rattle.blas.proofs.Rows.{length_scale, entry_scale_before}
use Rattle.store.specs.Columns.{HasRows}
use Rattle.store.specs.Steps.{Matrix, column, swap_in_all}
use Rattle.one_step.specs.OneStep.{step_column, step_columns, eliminated}
use Rattle.store.proofs.Steps.{length_swap_in_all, rows_swap_in_all}
use Rattle.one_step.proofs.Shape.{length_eliminated, rows_eliminated}
use Rattle.factors.specs.Factors.{Factors}
use Rattle.elimination.specs.Elimination.{multipliers, scaled, pivot_step, step, unfactored, eliminate}
use Rattle.factors.proofs.Swaps.{record_more}

-- ---- step i's pivot row, whether the step is skipped, and the column that it leaves at i
abbrev pub pivot_at : ℕ → Factors → ℕ
pivot_at i f = pivot_row i (column f.columns i)

abbrev pub skipped : ℕ → Factors → Bool
skipped i f = is_zero (entry (column f.columns i) (pivot_at i f))

abbrev pub packed : ℕ → ℕ → Factors → Column
packed i p f = multipliers i (swap_rows i p (column f.columns i))

pub length_multipliers : (i : ℕ) (c : Column) → length (multipliers i c) ≡ length c
unfolding multipliers
length_multipliers i c = length_scale (i + 1) _ c

-- a step, by cases
pub step_cases : (i : ℕ) (f : Factors) (P : Factors → Type 0)
    → (skipped i f ≡ true → P f) → (skipped i f ≡ false → P (pivot_step i (pivot_at i f) f)) → P (step i f)
unfolding step
step_cases i f P = cond_cases P (skipped i f)

-- ---- rows swapped in every column, and one column scaled
module _ (i p : ℕ) (cs : Matrix) where
  column_swapped : (j : ℕ) → j < length cs → column (swap_in_all i p cs) j ≡ swap_rows i p (column cs j)
  unfolding swap_in_all
  column_swapped j h = each_at (λ k c. swap_rows i p c) 0 cs j [] (omega arith) h

  pub swapped_snoc : (x : Column) → swap_in_all i p (cs ++ x ∷ []) ≡ swap_in_all i p cs ++ swap_rows i p x ∷ []
  unfolding swap_in_all
  swapped_snoc x = each_snoc (λ k c. swap_rows i p c) 0 cs x (omega arith)

module _ (i : ℕ) (cs : Matrix) where
  length_scaled : length (scaled i cs) ≡ length cs
  unfolding scaled
  length_scaled = length-set cs i _

  scaled_here : i < length cs → column (scaled i cs) i ≡ multipliers i (column cs i)
  unfolding scaled
  scaled_here h = get_or-set_same cs i _ [] h

  scaled_other : (j : ℕ) → (j ≡ i → ⊥) → column (scaled i cs) j ≡ column cs j
  unfolding scaled
  scaled_other j ne = get_or-set_other cs i j _ [] ne

  scaled_snoc : (x : Column) → i < length cs → scaled i (cs ++ x ∷ []) ≡ scaled i cs ++ x ∷ []
  unfolding scaled
  scaled_snoc x h =
      ap (λ (c : Column). set (cs ++ x ∷ []) i (multipliers i c)) (get_or-append cs (x ∷ []) [] i h) ∙ set-append_left cs (x ∷ []) i _ h

  rows_scaled : (m : ℕ) → HasRows m cs → HasRows m (scaled i cs)
  rows_scaled m rows j h =
      let hj : j < length cs = rw length_scaled at h in
      test_cases (eqb j i)
      (λ t.
      let e = eqb-true j i t in
      let hi : i < length cs = rw e at hj in
      rw e (ap length (scaled_here hi) ∙ length_multipliers i (column cs i) ∙ rows i hi))
      (λ t. ap length (scaled_other j (eqb-false j i t)) ∙ rows j hj)

-- ---- what the step with pivot row p makes of each column
module _ (i p : ℕ) (f : Factors) where
  pub length_pivot_step : length (pivot_step i p f).columns ≡ length f.columns
  unfolding pivot_step
  length_pivot_step = length_eliminated i _ ∙ length_scaled i _ ∙ length_swap_in_all i p f.columns

  pub rows_pivot_step : (m : ℕ) → HasRows m f.columns → HasRows m (pivot_step i p f).columns
  unfolding pivot_step
  rows_pivot_step m rows = rows_eliminated i m _ (rows_scaled i _ m (rows_swap_in_all i m p f.columns rows))

  -- before the last part of the step
  before : Matrix
  before = scaled i (swap_in_all i p f.columns)

  length_before : length before ≡ length f.columns
  unfolding before
  length_before = length_scaled i _ ∙ length_swap_in_all i p f.columns

  before_here : i < length f.columns → column before i ≡ packed i p f
  unfolding before
  before_here h = scaled_here i (swap_in_all i p f.columns) (rw length_swap_in_all h) ∙ ap (multipliers i) (column_swapped i p f.columns i h)

  before_other : (j : ℕ) → j < length f.columns → (j ≡ i → ⊥) → column before j ≡ swap_rows i p (column f.columns j)
  unfolding before
  before_other j h ne = scaled_other i (swap_in_all i p f.columns) j ne ∙ column_swapped i p f.columns j h

  pub step_left : (j : ℕ) → j < i → i < length f.columns → column (pivot_step i p f).columns j ≡ swap_rows i p (column f.columns j)
  unfolding pivot_step eliminated step_columns before
  step_left j h hi = each_before _ (i + 1) before j [] (omega arith) ∙ before_other j (omega arith) (λ e. omega arith)

  pub step_here : i < length f.columns → column (pivot_step i p f).columns i ≡ packed i p f
  unfolding pivot_step eliminated step_columns before
  step_here hi = each_before _ (i + 1) before i [] (omega arith) ∙ before_here hi

  pub step_right : (j : ℕ) → i < j → j < length f.columns
      → column (pivot_step i p f).columns j ≡ step_column i (packed i p f) (swap_rows i p (column f.columns j))
  unfolding pivot_step eliminated step_columns before
  step_right j h hj =
      each_at _ (i + 1) before j [] (omega arith) (rw length_before hj) ∙ ap₂ (step_column i) (before_here (omega arith)) (before_other j hj (λ e. omega arith))

  -- one more column to the right
  pub pivot_step_snoc : (x : Column) → i < length f.columns
      → (pivot_step i p (record { columns = f.columns ++ x ∷ []; swaps = f.swaps })).columns
      ≡ (pivot_step i p f).columns ++ step_column i (packed i p f) (swap_rows i p x) ∷ []
  unfolding pivot_step eliminated step_columns before
  pivot_step_snoc x h =
      let cs = f.columns in
      let y = swap_rows i p x in
      let l = packed i p f in
      let hb : i < length before = rw length_before h in
      let shape : scaled i (swap_in_all i p (cs ++ x ∷ [])) ≡ before ++ y ∷ [] =
      ap (scaled i) (swapped_snoc i p cs x) ∙ scaled_snoc i (swap_in_all i p cs) y (rw length_swap_in_all h) in
      let here : column (before ++ y ∷ []) i ≡ column before i = get_or-append before (y ∷ []) [] i hb in
      (λ t. each_from (λ j c. step_column i (column (shape t) i) c) (i + 1) (shape t))
      ∙ ap (λ (c : Column). each_from (λ j d. step_column i c d) (i + 1) (before ++ y ∷ [])) here
      ∙ each_snoc (λ j d. step_column i (column before i) d) (i + 1) before y (omega arith)
      ∙ ap (λ (c : Column). each_from (λ j d. step_column i (column before i) d) (i + 1) before ++ step_column i c y ∷ []) (before_here h)

-- the packed diagonal of a step that is not skipped is the pivot: of the column alone, and of a step
pub multipliers_diagonal : (k p : ℕ) (x : Column) → k < length x → p < length x → entry (multipliers k (swap_rows k p x)) k ≡ entry x p
unfolding multipliers
multipliers_diagonal k p x kx px =
    entry_scale_before (k + 1) _ (swap_rows k p x) k (omega arith) ∙ get_d_exchanged nan k p x k kx px ∙ ap (entry x) (other_first k p)

pub packed_diagonal : (m k p : ℕ) (f : Factors) → HasRows m f.columns → k < m → p < m → k < length f.columns
    → entry (packed k p f) k ≡ entry (column f.columns k) p
packed_diagonal m k p f rows km pm kn = multipliers_diagonal k p (column f.columns k) (rw (rows k kn) km) (rw (rows k kn) pm)

-- ---- the steps one after another
-- c turns, then d more
pub turns_join : {S : Type 0} (f : ℕ → S → S) (i c d : ℕ) (s : S) → turns_from f (i + c) d (turns_from f i c s) ≡ turns_from f i (c + d) s
unfolding turns_from
turns_join f i zero d s = ap₂ (λ (j k : ℕ). turns_from f j k s) (add-zero i) (sym (zero-add d))
turns_join f i (suc c) d s =
    let e : i + suc c ≡ i + 1 + c = omega arith in
    let g : suc c + d ≡ suc (c + d) = omega arith in
    ap (λ (j : ℕ). turns_from f j d (turns_from f (i + 1) c (f i s))) e ∙ turns_join f (i + 1) c d (f i s) ∙ ap (λ (k : ℕ). turns_from f i k s) (sym g)

-- the steps 0 to k - 1
abbrev pub steps : ℕ → Factors → Factors
steps k f = turns_from step 0 k f

pub steps_next : (k : ℕ) (f : Factors) → steps (suc k) f ≡ step k (steps k f)
steps_next k f = turns_last step 0 k f ∙ ap (λ (i : ℕ). step i (steps k f)) (zero-add k)

-- what every step keeps
pub steps_keep : (P : Factors → Type 0) → ((i : ℕ) (f : Factors) → P f → P (step i f)) → (i c : ℕ) (f : Factors) → P f → P (turns_from step i c f)
unfolding turns_from
steps_keep P keeps i zero f h = h
steps_keep P keeps i (suc c) f h = steps_keep P keeps (i + 1) c (step i f) (keeps i f h)

pub length_turns : (i k : ℕ) (f : Factors) → length (turns_from step i k f).columns ≡ length f.columns
length_turns i k f =
    steps_keep (λ g. length g.columns ≡ length f.columns)
    (λ j g e. step_cases j g (λ h. length h.columns ≡ length f.columns) (λ s. e) (λ s. length_pivot_step j (pivot_at j g) g ∙ e)) i k f refl

pub rows_turns : (m i k : ℕ) (f : Factors) → HasRows m f.columns → HasRows m (turns_from step i k f).columns
rows_turns m i k f rows =
    steps_keep (λ g. HasRows m g.columns)
    (λ j g r. step_cases j g (λ h. HasRows m h.columns) (λ s. r) (λ s. rows_pivot_step j (pivot_at j g) g m r)) i k f rows

-- no swap is lost
pub swaps_turns : (i k : ℕ) (f : Factors) → length f.swaps ≤ length (turns_from step i k f).swaps
unfolding pivot_step
swaps_turns i k f =
    steps_keep (λ g. length f.swaps ≤ length g.swaps)
    (λ j g e. step_cases j g (λ h. length f.swaps ≤ length h.swaps) (λ s. e) (λ s. let more = record_more j (pivot_at j g) g.swaps in omega arith)) i
    k f (omega arith)

pub length_steps : (k : ℕ) (f : Factors) → length (steps k f).columns ≡ length f.columns
length_steps k f = length_turns 0 k f

pub rows_steps : (m k : ℕ) (f : Factors) → HasRows m f.columns → HasRows m (steps k f).columns
rows_steps m k f rows = rows_turns m 0 k f rows

-- ---- the shape of the elimination's factors
pub length_eliminate : (m : ℕ) (a : Matrix) → length (eliminate m a).columns ≡ length a
unfolding eliminate
length_eliminate m a = length_steps (min m (length a)) (unfactored a)

pub rows_eliminate : (m : ℕ) (a : Matrix) → HasRows m a → HasRows m (eliminate m a).columns
unfolding eliminate
rows_eliminate m a rows = rows_steps m (min m (length a)) (unfactored a) rows
