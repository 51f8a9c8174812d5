-- The number of toss-ups as the steps count it, and that a widened matrix has those of the matrix and the new column's own. The columns before the new one
-- stand at each step as they stand without it (`step_widen`). Assumes nothing.
use mathlib.Core.Path.{◌≡◌, refl, sym, ap, ap₂, ◌∙◌}
use mathlib.Core.Bool.{Bool, true, cond}
use mathlib.Core.List.{[], ◌∷◌, ◌++◌}
use Prim.Native.Nat.{ℕ, zero, suc, ◌+◌, ◌-◌, ◌*◌, ◌≤◌, ◌<◌, min}
use native.Mathlib.Nat.{min-zero, add-zero, zero-add, add_assoc}
use native.Mathlib.Numerals.{add-one}
use native.Mathlib.Omega.{arith}
use borrow.Author.Tests.{ltb-true, ltb-false}
use borrow.Rule.Slice.PartMut.{mid_of}
use lib.Dec.{ltb}
use lib.ListN.{length, length-append, get_or-append}
use lib.Seq.{get_or_at}
use Rattle.numbers.specs.Each.{turns_from}
use Rattle.numbers.specs.Numbers.{is_zero}
use Rattle.numbers.specs.Column.{Column, entry}
use Rattle.min_max.specs.Pivot.{pivot_row}
use Rattle.min_max.specs.TossUp.{toss_up}
use Rattle.numbers.proofs.Choice.{test_cases, cond_cases}
use Rattle.min_max.proofs.TossUp.{zero_toss_up, none_toss_up}
use Rattle.store.specs.Columns.{columns, HasRows}
use Rattle.store.specs.Steps.{Matrix, column}
use Rattle.store.proofs.Columns.{length_columns, part_column}
use Rattle.factors.specs.Factors.{Factors}
use Rattle.elimination.specs.Elimination.{step, unfactored, eliminate}
use Rattle.elimination.specs.Adding.{widen, reduced}
use Rattle.elimination.specs.TossUps.{toss_at, toss_from, toss_ups, own_toss_up}
use Rattle.elimination.proofs.Own.{length_reduced}
use Rattle.elimination.proofs.Step.{length_eliminate, pivot_at, step_cases, length_pivot_step, steps}
use Rattle.elimination.proofs.Widen.{pass_on, step_widen, steps_upto}

-- ---- one column
pub toss_most : (i : ℕ) (c : Column) → toss_at i c ≤ 1
unfolding toss_at
toss_most i c = cond_cases (λ (k : ℕ). k ≤ 1) (toss_up i c) (λ t. omega arith) (λ t. omega arith)

pub toss_skipped : (i : ℕ) (c : Column) → is_zero (entry c (pivot_row i c)) ≡ true → toss_at i c ≡ 0
unfolding toss_at
toss_skipped i c z = rw (zero_toss_up i c z)

toss_past : (i : ℕ) (c : Column) → length c ≤ i → toss_at i c ≡ 0
unfolding toss_at
toss_past i c h = rw (none_toss_up i c h)

-- of a column that is lent as a part, from what the search and the count give
pub toss_found : (m n i : ℕ) (s : Column) (tossed : Bool) (own : ℕ) → i < n → tossed ≡ toss_up i (mid_of (i * m) (i * m + m - i * m) s) → own ≡ cond tossed 1 0
    → own ≡ toss_at i (column (columns m n s) i)
unfolding toss_at
toss_found m n i s tossed own h toss counted = counted ∙ ap (λ (b : Bool). cond b 1 0) (toss ∙ ap (toss_up i) (part_column m n i s h))

-- ---- the steps as the loop counts them: one turn, the end, the beginning
pub toss_turn : (i n : ℕ) (f : Factors) → i < n → toss_from i (n - i) f ≡ toss_at i (column f.columns i) + toss_from (i + 1) (n - (i + 1)) (step i f)
unfolding toss_from
toss_turn i n f h = let e : n - i ≡ suc (n - (i + 1)) = omega arith in ap (λ (k : ℕ). toss_from i k f) e

pub toss_done : (i n : ℕ) (f : Factors) → n ≤ i → toss_from i (n - i) f ≡ 0
unfolding toss_from
toss_done i n f h = let e : n - i ≡ 0 = omega arith in ap (λ (k : ℕ). toss_from i k f) e

pub toss_begin : (m n : ℕ) (s : Column) → toss_from 0 (min m n - 0) (unfactored (columns m n s)) ≡ toss_ups m (columns m n s)
unfolding toss_ups
toss_begin m n s =
    let e : min m n - 0 ≡ min m (length (columns m n s)) = omega (arith, length_columns m n s) in
    ap (λ (k : ℕ). toss_from 0 k (unfactored (columns m n s))) e

pub toss_empty : (m : ℕ) (s : Column) → toss_ups m (columns m 0 s) ≡ 0
unfolding toss_ups toss_from columns
toss_empty m s = ap (λ (k : ℕ). toss_from 0 k (unfactored [])) (min-zero m)

-- ---- one column more
length_step : (i : ℕ) (f : Factors) → length (step i f).columns ≡ length f.columns
length_step i f = step_cases i f (λ g. length g.columns ≡ length f.columns) (λ t. refl) (λ t. length_pivot_step i (pivot_at i f) f)

-- to the right of the columns that are counted it does not count
pub toss_front : (k i : ℕ) (f : Factors) (x : Column) → i + k ≤ length f.columns → toss_from i k (widen f x) ≡ toss_from i k f
unfolding toss_from
toss_front zero i f x h = refl
toss_front (suc k) i f x h =
    let here : i < length f.columns = omega arith in
    ap₂ (λ (c : Column) (g : Factors). toss_at i c + toss_from (i + 1) k g) (get_or-append f.columns (x ∷ []) [] i here) (step_widen i f x here)
    ∙ ap (λ (j : ℕ). toss_at i (column f.columns i) + j) (toss_front k (i + 1) (step i f) (pass_on i f x) (rw (length_step i f) (omega arith)))

-- those of c steps, and of d more
pub toss_join : (c i d : ℕ) (f : Factors) → toss_from i (c + d) f ≡ toss_from i c f + toss_from (i + c) d (turns_from step i c f)
unfolding toss_from turns_from
toss_join zero i d f = ap₂ (λ (k j : ℕ). toss_from j k f) (zero-add d) (sym (add-zero i)) ∙ sym (zero-add _)
toss_join (suc c) i d f =
    let first = toss_at i (column f.columns i) in
    let g = turns_from step (i + 1) c (step i f) in
    let all : suc c + d ≡ suc (c + d) = omega arith in
    let e : i + 1 + c ≡ i + suc c = omega arith in
    ap (λ (k : ℕ). toss_from i k f) all
    ∙ ap (λ (j : ℕ). first + j) (toss_join c (i + 1) d (step i f))
    ∙ sym (add_assoc first (toss_from (i + 1) c (step i f)) (toss_from (i + 1 + c) d g))
    ∙ ap (λ (j : ℕ). first + toss_from (i + 1) c (step i f) + toss_from j d g) e

-- the last of the steps
toss_last : (k i : ℕ) (f : Factors) → toss_from i (suc k) f ≡ toss_from i k f + toss_at (i + k) (column (turns_from step i k f).columns (i + k))
unfolding toss_from
toss_last k i f =
    ap (λ (c : ℕ). toss_from i c f) (sym (add-one k)) ∙ toss_join k i 1 f
    ∙ ap (λ (j : ℕ). toss_from i k f + j) (add-zero (toss_at (i + k) (column (turns_from step i k f).columns (i + k))))

module _ (m : ℕ) (a : Matrix) (c : Column) (rows : HasRows m a) (len : length c ≡ m) where
  abbrev f : Factors
  f = eliminate m a

  abbrev n : ℕ
  n = length a

  wide : length f.columns ≡ n
  wide = length_eliminate m a

  grows : length (a ++ c ∷ []) ≡ n + 1
  grows = length-append a (c ∷ [])

  -- THEOREM. The toss-ups of the widened matrix are those of the matrix and the new column's own.
  pub toss_widened : toss_ups m (a ++ c ∷ []) ≡ toss_ups m a + own_toss_up m f c
  unfolding toss_ups own_toss_up
  toss_widened =
      test_cases (ltb n m)
      (λ t.
      let h : n < m = ltb-true n m t in
      let all : min m (length (a ++ c ∷ [])) ≡ suc n = omega (arith, grows) in
      let upto : min m n ≡ n = omega arith in
      let there : column (steps n (unfactored (a ++ c ∷ []))).columns n ≡ reduced m f c =
      ap (λ (k : ℕ). column (steps k (unfactored (a ++ c ∷ []))).columns n) (sym upto)
      ∙ ap (λ (g : Factors). column g.columns n) (steps_upto m a c rows)
      ∙ get_or_at f.columns (reduced m f c) [] [] n wide in
      ap (λ (k : ℕ). toss_from 0 k (unfactored (a ++ c ∷ []))) all
      ∙ toss_last n 0 (unfactored (a ++ c ∷ []))
      ∙ ap₂ (λ (j k : ℕ). j + toss_at k (column (steps n (unfactored (a ++ c ∷ []))).columns k))
      (toss_front n 0 (unfactored a) c (omega arith) ∙ ap (λ (k : ℕ). toss_from 0 k (unfactored a)) (sym upto)) (zero-add n)
      ∙ ap₂ (λ (k : ℕ) (x : Column). toss_from 0 (min m n) (unfactored a) + toss_at k x) (sym wide) there)
      (λ t.
      let h : m ≤ n = ltb-false n m t in
      let all : min m (length (a ++ c ∷ [])) ≡ min m n = omega (arith, grows) in
      let short : length (reduced m f c) ≤ length f.columns = rw (length_reduced m f c, len, wide) h in
      ap (λ (k : ℕ). toss_from 0 k (unfactored (a ++ c ∷ []))) all
      ∙ toss_front (min m n) 0 (unfactored a) c (omega arith)
      ∙ sym (add-zero (toss_from 0 (min m n) (unfactored a)))
      ∙ ap (λ (j : ℕ). toss_from 0 (min m n) (unfactored a) + j) (sym (toss_past (length f.columns) (reduced m f c) short)))
