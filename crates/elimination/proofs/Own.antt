-- What adding a column makes of the factors, in the order in which the code does it: the reduced column's own step on that column alone, then the
-- exchange of two rows in the older columns, and the next pair. So only the new column changes and, with a swap, two rows of the older ones.
-- By the step on the last column. Assumes nothing.
use mathlib.Core.Path.{◌≡◌, refl, sym, ap, ap₂, ◌∙◌}
use mathlib.Core.Bool.{true, false, cond}
use mathlib.Core.List.{[], ◌∷◌, ◌++◌}
use Prim.Native.Nat.{ℕ, zero, suc, ◌+◌, ◌≤◌}
use native.Mathlib.Omega.{arith}
use borrow.Author.Tests.{ltb-false, eq-eqb}
use lib.Dec.{ltb}
use lib.ListN.{length, set, drop_of_length-le, length-append, get_or-eq_default}
use lib.Seq.{get_or-append_seam, set-append_seam}
use lib.Ieee.{nan, eq, binary64, div}
use Rattle.numbers.specs.Each.{turns_from}
use Rattle.numbers.specs.Numbers.{one64, is_zero}
use Rattle.numbers.specs.Column.{Column, entry}
use Rattle.min_max.specs.Pivot.{search_from, pivot_row}
use Rattle.min_max.proofs.Pivot.{pivot_from}
use Rattle.blas.specs.Blas.{swap_rows, scale_from}
use Rattle.numbers.proofs.Choice.{cond_cases, test_cases}
use Rattle.numbers.proofs.Each.{each_id, each_stop}
use Rattle.blas.proofs.Exchange.{exchanged_self, length_exchanged}
use Rattle.store.specs.Steps.{Matrix, column, swap_in_all}
use Rattle.one_step.specs.OneStep.{step_columns, eliminated}
use Rattle.store.proofs.Steps.{length_swap_in_all}
use Rattle.one_step.proofs.Shape.{length_step_column}
use Rattle.swap_list.specs.SwapList.{Swaps}
use Rattle.exchanges.proofs.Permute.{length_permute}
use Rattle.factors.specs.Factors.{Factors, record_swap}
use Rattle.elimination.specs.Elimination.{multipliers, scaled, pivot_step, step}
use Rattle.elimination.specs.Adding.{widen, update, reduced, add_column}
use Rattle.elimination.specs.Own.{own_row, own_column}
use Rattle.elimination.proofs.Step.{swapped_snoc, length_multipliers}

-- the factors with rows n and p of the older columns exchanged and recorded, and the column x behind them
abbrev pub joined : ℕ → ℕ → Factors → Column → Factors
joined n p f x = record { columns = swap_in_all n p f.columns ++ x ∷ []; swaps = record_swap n p f.swaps }

-- a row exchanged with itself, and recorded so, is none
pub swap_none : (n : ℕ) (cs : Matrix) → swap_in_all n n cs ≡ cs
unfolding swap_in_all
swap_none n cs = each_id _ 0 cs (λ j c h. exchanged_self nan n c)

record_none : (n : ℕ) (swaps : Swaps) → record_swap n n swaps ≡ swaps
unfolding record_swap
record_none n swaps = rw (eq-eqb n n refl)

joined_none : (n : ℕ) (f : Factors) (x : Column) → joined n n f x ≡ widen f x
joined_none n f x = λ i. record { columns = swap_none n f.columns i ++ x ∷ []; swaps = record_none n f.swaps i }

-- ---- step n on n columns and one more
module _ (f : Factors) (x : Column) where
  here : column (f.columns ++ x ∷ []) (length f.columns) ≡ x
  here = get_or-append_seam f.columns x [] []

  last_pivot : (p : ℕ)
      → pivot_step (length f.columns) p (widen f x) ≡ joined (length f.columns) p f
      (multipliers (length f.columns) (swap_rows (length f.columns) p x))
  unfolding pivot_step scaled eliminated step_columns
  last_pivot p =
      let n = length f.columns in
      let cs = swap_in_all n p f.columns in
      let y = swap_rows n p x in
      let len : length cs ≡ n = length_swap_in_all n p f.columns in
      let at_y : column (cs ++ y ∷ []) n ≡ y = ap (λ (k : ℕ). column (cs ++ y ∷ []) k) (sym len) ∙ get_or-append_seam cs y [] [] in
      let scaled-last : scaled n (swap_in_all n p (f.columns ++ x ∷ [])) ≡ cs ++ multipliers n y ∷ [] =
      ap (scaled n) (swapped_snoc n p f.columns x)
      ∙ ap₂ (λ (k : ℕ) (c : Column). set (cs ++ y ∷ []) k (multipliers n c)) (sym len) at_y
      ∙ set-append_seam cs y [] (multipliers n y) in
      let all : length (cs ++ multipliers n y ∷ []) ≤ n + 1 = omega (arith, length-append cs (multipliers n y ∷ []), len) in
      ap (λ (ds : Matrix). record { columns = ds; swaps = record_swap n p f.swaps })
      (ap (eliminated n) scaled-last ∙ each_stop _ (n + 1) (cs ++ multipliers n y ∷ []) all)

  -- the step, by the pivot that column n has from row n on
  last_step : step (length f.columns) (widen f x) ≡ joined (length f.columns) (own_row (length f.columns) x) f (own_column (length f.columns) x)
  unfolding step own_row own_column
  last_step =
      let n = length f.columns in
      let p = pivot_row n x in
      ap (λ (c : Column). cond (is_zero (entry c (pivot_row n c))) (widen f x) (pivot_step n (pivot_row n c) (widen f x))) here
      ∙ test_cases (is_zero (entry x p)) (λ t. rw t (sym (joined_none n f x))) (λ t. rw t (last_pivot p))

-- ---- a column with no row n has no step of its own
module _ (n : ℕ) (x : Column) (short : length x ≤ n) where
  no_pivot : pivot_row n x ≡ n
  unfolding pivot_row search_from
  no_pivot = ap (search_from _ n (suc n)) (drop_of_length-le x {i = suc n} (omega arith))

  not_zero : is_zero (entry x (pivot_row n x)) ≡ false
  unfolding is_zero eq
  not_zero = ap (λ (k : ℕ). is_zero (entry x k)) no_pivot ∙ ap is_zero (get_or-eq_default x nan {n = n} short)

  pub own_none : (own_row n x ≡ n) × (own_column n x ≡ x)
  unfolding own_row own_column multipliers scale_from
  own_none =
      let t = not_zero in (
        rw t no_pivot,
        rw t
            (each_stop _ (n + 1) (swap_rows n (pivot_row n x) x) (rw (ap (λ (k : ℕ). swap_rows n k x) no_pivot ∙ exchanged_self nan n x) (omega arith))
            ∙ ap (λ (k : ℕ). swap_rows n k x) no_pivot
            ∙ exchanged_self nan n x),
      )

-- a column's own pivot row is not above it
pub own_from : (n : ℕ) (x : Column) → n ≤ own_row n x
unfolding own_row
own_from n x = cond_cases (λ (p : ℕ). n ≤ p) (is_zero (entry x (pivot_row n x))) (λ t. omega arith) (λ t. pivot_from n x)

pub length_own : (n : ℕ) (x : Column) → length (own_column n x) ≡ length x
unfolding own_column
length_own n x =
    let p = pivot_row n x in
    cond_cases (λ (c : Column). length c ≡ length x) (is_zero (entry x p)) (λ t. refl)
    (λ t. length_multipliers n (swap_rows n p x) ∙ length_exchanged nan n p x)

-- ---- from what the calls give: p is the row that was found, d the number there
module _ (n p : ℕ) (x : Column) (found : p ≡ pivot_row n x) where
  pub own_skipped : is_zero (entry x p) ≡ true → (n ≡ own_row n x) × (x ≡ own_column n x)
  unfolding own_row own_column
  own_skipped z = let t : is_zero (entry x (pivot_row n x)) ≡ true = rw found at z in rw t (refl, refl)

  pub own_done : (y z : Column) → is_zero (entry x p) ≡ false → y ≡ swap_rows n p x → z ≡ scale_from (n + 1) (div binary64 one64 (entry y n)) y
      → (p ≡ own_row n x) × (z ≡ own_column n x)
  unfolding own_row own_column multipliers
  own_done y z some swapped scaled =
      let t : is_zero (entry x (pivot_row n x)) ≡ false = rw found at some in
      let y-is : y ≡ swap_rows n (pivot_row n x) x = swapped ∙ ap (λ (k : ℕ). swap_rows n k x) found in
      rw t (found, scaled ∙ ap (λ (c : Column). scale_from (n + 1) (div binary64 one64 (entry c n)) c) y-is)

pub length_updates : (cs : Matrix) (i k : ℕ) (c : Column) → length (turns_from (update cs) i k c) ≡ length c
unfolding turns_from update
length_updates cs i zero c = refl
length_updates cs i (suc k) c =
    length_updates cs (i + 1) k (update cs i c)
    ∙ cond_cases (λ (x : Column). length x ≡ length c) (is_zero (entry (column cs i) i)) (λ e. refl) (λ e. length_step_column i (column cs i) c)

pub length_reduced : (m : ℕ) (f : Factors) (c : Column) → length (reduced m f c) ≡ length c
unfolding reduced
length_reduced m f c = length_updates f.columns 0 _ _ ∙ length_permute f.swaps c

-- THEOREM. Adding a column changes nothing but the new column and, with a swap, two rows of the older ones and the next pair.
pub adding_joins : (m : ℕ) (f : Factors) (c : Column) → length c ≡ m
    → let n = length f.columns in
    let x = reduced m f c in
    add_column m f c ≡ joined n (own_row n x) f (own_column n x)
unfolding add_column
adding_joins m f c len =
    let n = length f.columns in
    let x = reduced m f c in
    test_cases (ltb n m)
    (λ t. rw t (last_step f x))
    (λ t.
    let short : length x ≤ n = rw (length_reduced m f c ∙ len) (ltb-false n m t) in
    let none = own_none n x short in
    rw t (sym (joined_none n f x) ∙ ap₂ (λ (k : ℕ) (y : Column). joined n k f y) (sym none.0) (sym none.1)))
