-- The steps of the code on the slices, and the steps of the elimination on the columns: from what each call gives. Assumes nothing.
use mathlib.Core.Path.{◌≡◌, refl, sym, ap, ◌∙◌}
use mathlib.Core.Bool.{true, false, cond}
use mathlib.Core.List.{List, []}
use Prim.Native.Nat.{ℕ, ◌+◌, ◌-◌, ◌*◌, ◌≤◌, ◌<◌, min}
use native.Mathlib.Omega.{arith}
use borrow.Rule.Slice.PartMut.{mid_of, put_mid, same_len_mid}
use borrow.Author.Tests.{lt-ltb, le-ltb}
use lib.Dec.{eqb, ltb}
use lib.ListN.{length, get_or, set}
use lib.Ieee.{Float, nan, binary64, div}
use Rattle.numbers.specs.Each.{turns_from}
use Rattle.numbers.specs.Numbers.{one64, is_zero}
use Rattle.numbers.specs.Column.{Column, entry}
use Rattle.min_max.specs.Pivot.{pivot_row}
use Rattle.blas.specs.Blas.{scale_from}
use Rattle.numbers.proofs.Choice.{cond_cases}
use Rattle.min_max.proofs.Pivot.{pivot_from, pivot_to}
use Rattle.store.specs.Columns.{columns, is_matrix, on_columns}
use Rattle.store.specs.Steps.{Matrix, column, swap_in_all, rows_swapped}
use Rattle.one_step.specs.OneStep.{eliminated}
use Rattle.store.proofs.Columns.{sized, same_matrix, length_columns, columns_rows, part_column, column_length, entry_at, column_lent, on_columns_lem}
use Rattle.store.proofs.Columns.{on_none, on_done}
use Rattle.store.proofs.Steps.{range_all, length_rows_swapped, rows_rows_swapped}
use Rattle.one_step.proofs.Shape.{length_eliminated, rows_eliminated}
use Rattle.swap_list.specs.SwapList.{with_pair}
use Rattle.factors.specs.Factors.{Factors, store_of}
use Rattle.elimination.specs.Elimination.{multipliers, scaled, pivot_step, step, unfactored, eliminate}
use Rattle.lu.specs.PlainStep.{step_on, plain_step}
use Rattle.lu.specs.Inner.{Held}
use Rattle.elimination.proofs.Step.{pivot_at, skipped}
use Rattle.factors.proofs.Swaps.{Recorded, store_record, count_record}

module _ (m n i p : ℕ) (s : Column) (fits : is_matrix s m n ≡ true) (hm : i < m) (hn : i < n) where
  size_of : length s ≡ n * m
  size_of = (sized m n s fits).size

  swapped_columns : (t : Column) → t ≡ on_columns m n (rows_swapped i p 0 n) s → columns m n t ≡ swap_in_all i p (columns m n s)
  swapped_columns t e =
      let cs = columns m n s in
      ap (columns m n) e
      ∙ on_columns_lem m n (rows_swapped i p 0 n) s fits (length_rows_swapped i p 0 n cs ∙ length_columns m n s)
      (rows_rows_swapped i m p 0 n cs (columns_rows m n s size_of))
      ∙ range_all i p n cs (omega (arith, length_columns m n s))

  -- t is s with its rows swapped, c column i of t with its multipliers, and u the store with the columns to the right updated
  pub gauss_done : (t c u : Column) → length t ≡ length s → t ≡ on_columns m n (rows_swapped i p 0 n) s
      → length c ≡ length (mid_of (i * m) (i * m + m - i * m) t)
      → c ≡ scale_from (i + 1) (div binary64 one64 (get_or t (i * m + i) nan)) (mid_of (i * m) (i * m + m - i * m) t)
      → u ≡ on_columns m n (eliminated i) (put_mid (i * m) (i * m + m - i * m) t c)
      → columns m n u ≡ eliminated i (scaled i (swap_in_all i p (columns m n s)))
  unfolding scaled multipliers
  gauss_done t c u lt swapped kept made stepped =
      let size : length t ≡ n * m = lt ∙ size_of in
      let v = put_mid (i * m) (i * m + m - i * m) t c in
      let lv : length v ≡ length s = same_len_mid (i * m) (i * m + m - i * m) t c kept ∙ lt in
      let fv : is_matrix v m n ≡ true = same_matrix m n s v lv ∙ fits in
      let d = get_or t (i * m + i) nan in
      let pivot : d ≡ entry (column (columns m n t) i) i = entry_at m n i i t nan hn hm in
      let cv : columns m n v ≡ scaled i (columns m n t) =
      column_lent (scale_from (i + 1) (div binary64 one64 d)) m n i t c hn size kept made
      ∙ ap (λ (x : Float). set (columns m n t) i (scale_from (i + 1) (div binary64 one64 x) (column (columns m n t) i))) pivot in
      let cs = columns m n v in
      ap (columns m n) stepped
      ∙ on_columns_lem m n (eliminated i) v fv (length_eliminated i cs ∙ length_columns m n v) (rows_eliminated i m cs (columns_rows m n v (lv ∙ size_of)))
      ∙ ap (eliminated i) (cv ∙ ap (scaled i) (swapped_columns t swapped))

  -- the pivot row that was found in the part that is column i, and the number there
  module _ (row : p ≡ pivot_row i (mid_of (i * m) (i * m + m - i * m) s)) where
    pub found : p ≡ pivot_row i (column (columns m n s) i)
    found = row ∙ ap (pivot_row i) (part_column m n i s hn)

    pub pivot_within : (i ≤ p) × (p < m)
    pivot_within =
        let part = mid_of (i * m) (i * m + m - i * m) s in
        let len : length part ≡ m = column_length m n i s hn size_of in
        let to : pivot_row i part < length part = pivot_to i part (rw len hm) in
        (rw row (pivot_from i part), rw row (rw len at to))

    pub pivot_number : get_or s (i * m + p) nan ≡ entry (column (columns m n s) i) p
    pivot_number = entry_at m n i p s nan hn pivot_within.1

    -- a zero there is a zero pivot
    pub pivot_zero_there : (d : Float) → d ≡ get_or s (i * m + p) nan → is_zero d ≡ true
        → is_zero (entry (column (columns m n s) i) (pivot_row i (column (columns m n s) i))) ≡ true
    pivot_zero_there d is z = ap is_zero (sym (is ∙ pivot_number ∙ ap (entry (column (columns m n s) i)) found)) ∙ z

-- ---- one step by itself, on the columns alone
module _ (m n i : ℕ) (s : Column) where
  pub plain_none : is_matrix s m n ≡ false → s ≡ plain_step s m n i
  unfolding plain_step
  plain_none e = cond_cases (λ (t : Column). s ≡ t) (ltb i (min m n)) (λ _. on_none m n (step_on i) s e) (λ _. refl)

  pub plain_past : min m n ≤ i → s ≡ plain_step s m n i
  unfolding plain_step
  plain_past h = rw (le-ltb i (min m n) h)

  module _ (fits : is_matrix s m n ≡ true) (hm : i < m) (hn : i < n) (p : ℕ) (row : p ≡ pivot_row i (mid_of (i * m) (i * m + m - i * m) s)) where
    abbrev cs : Matrix
    cs = columns m n s

    zero_is : is_zero (get_or s (i * m + p) nan) ≡ is_zero (entry (column cs i) (pivot_row i (column cs i)))
    zero_is = ap is_zero (pivot_number m n i p s fits hm hn row) ∙ ap (λ (k : ℕ). is_zero (entry (column cs i) k)) (found m n i p s fits hm hn row)

    pub plain_skipped : is_zero (get_or s (i * m + p) nan) ≡ true → s ≡ plain_step s m n i
    unfolding plain_step step
    plain_skipped z = rw (lt-ltb i (min m n) (omega arith)) (on_done m n (step_on i) s s fits refl (rw (sym zero_is ∙ z, step_on)))

    pub plain_done : (u : Column) → is_zero (get_or s (i * m + p) nan) ≡ false → length u ≡ length s
        → columns m n u ≡ eliminated i (scaled i (swap_in_all i p cs)) → u ≡ plain_step s m n i
    unfolding plain_step step pivot_step
    plain_done u z len made =
        rw (lt-ltb i (min m n) (omega arith))
        (on_done m n (step_on i) s u fits len
        (rw (sym zero_is ∙ z, step_on) (made ∙ ap (λ (k : ℕ). eliminated i (scaled i (swap_in_all i k cs))) (found m n i p s fits hm hn row))))

-- ---- one step on the slices
module _ (m n i : ℕ) (f : Factors) (s : Column) (store : List ℕ) (pairs p : ℕ) (d : Float) (h : Held s m n store pairs f)
    (row : p ≡ pivot_row i (column (columns m n s) i)) (number : d ≡ entry (column (columns m n s) i) p) where
  row_is : p ≡ pivot_at i f
  row_is = row ∙ ap (λ cs. pivot_row i (column cs i)) h.is_columns

  number_is : d ≡ entry (column f.columns i) (pivot_at i f)
  number_is = number ∙ (λ t. entry (column (h.is_columns t) i) (row_is t))

  pub step_skipped : is_zero d ≡ true → Held s m n store pairs (step i f)
  unfolding step
  step_skipped z = let e : skipped i f ≡ true = ap is_zero (sym number_is) ∙ z in rw e h

  pub step_done : (t : Column) (store' : List ℕ) (pairs' : ℕ) → is_zero d ≡ false → pairs < 64 → length t ≡ length s
      → columns m n t ≡ eliminated i (scaled i (swap_in_all i p (columns m n s))) → Recorded i p pairs pairs' store store'
      → Held t m n store' pairs' (step i f)
  unfolding step pivot_step
  step_done t store' pairs' z room len made rec =
      let e : skipped i f ≡ false = ap is_zero (sym number_is) ∙ z in
      let few : length f.swaps < 64 = rw h.is_pairs at room in
      rw e
      (record {
        size = len ∙ h.size;
        is_columns = made ∙ (λ x. eliminated i (scaled i (swap_in_all i (row_is x) (h.is_columns x))));
        is_store =
            rec.store ∙ (λ x. cond (eqb (row_is x) i) (h.is_store x) (with_pair (h.is_pairs x) i (row_is x) (h.is_store x)))
            ∙ store_record f.swaps i (pivot_at i f) few;
        is_pairs = rec.count ∙ (λ x. cond (eqb (row_is x) i) (h.is_pairs x) (h.is_pairs x + 1)) ∙ count_record f.swaps i (pivot_at i f) few;
      })

-- ---- before the first step
module _ (m n : ℕ) (s : Column) where
  pub held_unfactored : (store : List ℕ) → length s ≡ n * m → store ≡ store_of [] → Held s m n store 0 (unfactored (columns m n s))
  held_unfactored store size empty = record { size = size; is_columns = refl; is_store = empty; is_pairs = refl }

  pub steps_begin : turns_from step 0 (min m n - 0) (unfactored (columns m n s)) ≡ eliminate m (columns m n s)
  unfolding eliminate
  steps_begin =
      let e : min m n - 0 ≡ min m (length (columns m n s)) = omega (arith, length_columns m n s) in
      ap (λ (k : ℕ). turns_from step 0 k (unfactored (columns m n s))) e
