-- Factoring a matrix with one more column, and adding that column to the factors of the matrix, are one. After k steps the new column is what
-- the packed factors of k steps make of it; a step's exchange of rows below the earlier columns commutes with their updates (`axpy_swap`).
-- Over all floats, finite or not. Assumes nothing.
use Prim.Native.Nat.{ℕ, zero, suc, ◌+◌, ◌≤◌, ◌<◌, min}
use native.Mathlib.Omega.{arith}
use mathlib.Core.Path.{◌≡◌, refl, sym, ap, ◌∙◌}
use mathlib.Core.Bool.{Bool, true, false, cond}
use mathlib.Core.List.{[], ◌∷◌, ◌++◌}
use borrow.Author.Tests.{ltb-true, ltb-false, eqb-true}
use lib.Dec.{ltb, eqb}
use lib.ListN.{length, drop, get_or-append, length-append}
use lib.Seq.{drop-append-le, drop-length}
use lib.Ieee.{nan, neg}
use Rattle.numbers.specs.Each.{turns_from}
use Rattle.numbers.specs.Numbers.{is_zero}
use Rattle.numbers.specs.Column.{Column, entry}
use Rattle.blas.specs.Blas.{swap_rows}
use Rattle.numbers.proofs.Choice.{cond_cases, cond_both, cond_map}
use Rattle.numbers.proofs.Each.{turns_last}
use Rattle.blas.proofs.Exchange.{exchanged_self, exchanged_above}
use Rattle.min_max.proofs.Pivot.{pivot_from, pivot_to, pivot_zero}
use Rattle.blas.proofs.Rows.{axpy_swap}
use Rattle.store.specs.Columns.{HasRows}
use Rattle.store.specs.Steps.{Matrix, column}
use Rattle.one_step.specs.OneStep.{step_column}
use Rattle.swap_list.specs.SwapList.{Swaps}
use Rattle.exchanges.specs.Permute.{permuted_by, permute}
use Rattle.exchanges.proofs.Permute.{permute_append}
use Rattle.factors.specs.Factors.{Factors, record_swap}
use Rattle.elimination.specs.Elimination.{pivot_step, step, unfactored, eliminate}
use Rattle.elimination.specs.Adding.{widen, update, reduced, add_column}
use Rattle.elimination.proofs.Step.{pivot_at, skipped, packed, packed_diagonal, step_left, step_here, pivot_step_snoc, steps, steps_next}
use Rattle.elimination.proofs.Step.{length_turns, rows_turns, swaps_turns, length_steps}

-- ---- permuting by the swaps behind the first h, where one was recorded
permute_record : (h i p : ℕ) (swaps : Swaps) (c : Column) → h ≤ length swaps
    → permute (drop h (record_swap i p swaps)) c ≡ swap_rows i p (permute (drop h swaps) c)
unfolding record_swap permuted_by
permute_record h i p swaps c few =
    cond_cases (λ (s : Swaps). permute (drop h s) c ≡ swap_rows i p (permute (drop h swaps) c)) (eqb p i)
    (λ e. rw (eqb-true p i e) (sym (exchanged_self nan i (permute (drop h swaps) c))))
    (λ e. ap (λ (s : Swaps). permute s c) (drop-append-le h swaps ((i, p) ∷ []) few) ∙ permute_append (drop h swaps) ((i, p) ∷ []) c)

-- ---- updating by k columns of the factors, from column i on
unfoldable pub updates : Matrix → ℕ → ℕ → Column → Column
updates cs i k c = turns_from (update cs) i k c

updates_next : (cs : Matrix) (i k : ℕ) (c : Column) → updates cs i (suc k) c ≡ update cs (i + k) (updates cs i k c)
unfolding updates
updates_next cs i k c = turns_last (update cs) i k c

-- Rows r and p, neither above row r, exchanged in a column left of r and in the column that is updated by it.
module _ (r p j : ℕ) (a b : Matrix) (rp : r ≤ p) (jr : j < r) (e : column b j ≡ swap_rows r p (column a j)) where
  -- row j stays
  row_stays : (c : Column) → entry (swap_rows r p c) j ≡ entry c j
  row_stays c = exchanged_above nan r p c j jr (omega arith)

  update_swap : (c : Column) → update b j (swap_rows r p c) ≡ swap_rows r p (update a j c)
  unfolding update step_column
  update_swap c =
      let l = column a j in
      let z : entry (column b j) j ≡ entry l j = ap (λ (x : Column). entry x j) e ∙ row_stays l in
      rw (z, e, row_stays c, axpy_swap (j + 1) r p (neg (entry c j)) l c (omega arith) (omega arith))
      (cond_map (swap_rows r p) (is_zero (entry l j)) c (step_column j l c))

-- the same for columns left of r, one after another
updates_swap : (r p i k : ℕ) (a b : Matrix) (c : Column) → r ≤ p → i + k ≤ r → ((j : ℕ) → j < r → column b j ≡ swap_rows r p (column a j))
    → updates b i k (swap_rows r p c) ≡ swap_rows r p (updates a i k c)
unfolding updates turns_from
updates_swap r p i zero a b c rp kr e = refl
updates_swap r p i (suc k) a b c rp kr e =
    updates_next b i k (swap_rows r p c)
    ∙ ap (update b (i + k)) (updates_swap r p i k a b c rp (omega arith) e)
    ∙ update_swap r p (i + k) a b rp (omega arith) (e (i + k) (omega arith)) (updates a i k c)
    ∙ ap (swap_rows r p) (sym (updates_next a i k c))

-- ---- what step i makes of a column x right of i
pub pass_on : ℕ → Factors → Column → Column
pass_on i f x = cond (skipped i f) x (step_column i (packed i (pivot_at i f) f) (swap_rows i (pivot_at i f) x))

pivot_step_widen : (i p : ℕ) (f : Factors) (x : Column) → i < length f.columns
    → pivot_step i p (widen f x) ≡ widen (pivot_step i p f) (step_column i (packed i p f) (swap_rows i p x))
unfolding pivot_step
pivot_step_widen i p f x h = ap (λ (cs : Matrix). factors cs (record_swap i p f.swaps)) (pivot_step_snoc i p f x h)
  where
    factors : Matrix → Swaps → Factors
    factors cs s = record { columns = cs; swaps = s }

cond_widen : (t : Bool) (f g : Factors) (x y : Column) → cond t (widen f x) (widen g y) ≡ widen (cond t f g) (cond t x y)
cond_widen true f g x y = refl
cond_widen false f g x y = refl

pub step_widen : (i : ℕ) (f : Factors) (x : Column) → i < length f.columns → step i (widen f x) ≡ widen (step i f) (pass_on i f x)
unfolding step pass_on
step_widen i f x h =
    rw (get_or-append f.columns (x ∷ []) [] i h, pivot_step_widen i (pivot_at i f) f x h)
    (cond_widen (skipped i f) f (pivot_step i (pivot_at i f) f) x (step_column i (packed i (pivot_at i f) f) (swap_rows i (pivot_at i f) x)))

-- ---- a column right of theirs after the steps i to i + k - 1, which recorded the swaps behind the first h: what the packed factors make of it
unfoldable pub after_steps : ℕ → ℕ → ℕ → Factors → Column → Column
after_steps i k h f c = updates f.columns i k (permute (drop h f.swaps) c)

module _ (m i k h : ℕ) (f : Factors) (c : Column) (rows : HasRows m f.columns) (km : i + k < m) (kn : i + k < length f.columns)
    (few : h ≤ length f.swaps) where
  -- a skipped step: the packed diagonal is zero, and nothing is done
  after_skipped : skipped (i + k) f ≡ true → after_steps i (suc k) h f c ≡ after_steps i k h f c
  unfolding after_steps update
  after_skipped z =
      updates_next f.columns i k (permute (drop h f.swaps) c) ∙ rw (pivot_zero (i + k) (column f.columns (i + k)) z)

  after_pivot : skipped (i + k) f ≡ false
      → after_steps i (suc k) h (pivot_step (i + k) (pivot_at (i + k) f) f) c ≡ step_column (i + k) (packed (i + k) (pivot_at (i + k) f) f)
      (swap_rows (i + k) (pivot_at (i + k) f) (after_steps i k h f c))
  unfolding after_steps update pivot_step
  after_pivot z =
      let a = f.columns in
      let r = i + k in
      let p = pivot_at r f in
      let b = (pivot_step r p f).columns in
      let kx : r < length (column a r) = rw (rows r kn) km in
      let pm : p < m = rw (rows r kn) at (pivot_to r (column a r) kx) in
      let here : column b r ≡ packed r p f = step_here r p f kn in
      let u : updates b i k (permute (drop h (record_swap r p f.swaps)) c) ≡ swap_rows r p (updates a i k (permute (drop h f.swaps) c)) =
      ap (updates b i k) (permute_record h r p f.swaps c few)
      ∙ updates_swap r p i k a b (permute (drop h f.swaps) c) (pivot_from r (column a r)) (omega arith) (λ j l. step_left r p f j l kn) in
      let nz : is_zero (entry (packed r p f) r) ≡ false = rw (packed_diagonal m r p f rows km pm kn) z in
      updates_next b i k (permute (drop h (record_swap r p f.swaps)) c) ∙ rw (u, here, nz)

  after_step : after_steps i (suc k) h (step (i + k) f) c ≡ pass_on (i + k) f (after_steps i k h f c)
  unfolding pass_on step
  after_step = cond_both (λ (g : Factors) (x : Column). after_steps i (suc k) h g c ≡ x) (skipped (i + k) f) after_skipped after_pivot

-- THEOREM. Steps on a widened matrix are the steps on the matrix, and the new column is what their packed factors make of it.
module _ (m : ℕ) (f : Factors) (c : Column) (rows : HasRows m f.columns) where
  pub steps_widen : (i k : ℕ) → i + k ≤ m → i + k ≤ length f.columns
      → turns_from step i k (widen f c) ≡ widen (turns_from step i k f) (after_steps i k (length f.swaps) (turns_from step i k f) c)
  unfolding turns_from after_steps updates permuted_by
  steps_widen i zero km kn = ap (λ (s : Swaps). widen f (permute s c)) (sym (drop-length f.swaps))
  steps_widen i (suc k) km kn =
      let g = turns_from step i k f in
      let kg : i + k < length g.columns = rw (length_turns i k f) (omega arith) in
      turns_last step i k (widen f c)
      ∙ ap (step (i + k)) (steps_widen i k (omega arith) (omega arith))
      ∙ step_widen (i + k) g (after_steps i k (length f.swaps) g c) kg
      ∙ ap (widen (step (i + k) g)) (sym (after_step m i k (length f.swaps) g c (rows_turns m i k f rows) (omega arith) kg (swaps_turns i k f)))
      ∙ ap (λ (e : Factors). widen e (after_steps i (suc k) (length f.swaps) e c)) (sym (turns_last step i k f))

module _ (m : ℕ) (a : Matrix) (c : Column) (rows : HasRows m a) where
  -- the columns of the factors are as many as the matrix has, so adding updates by as many as were eliminated
  adding_reduces : reduced m (eliminate m a) c ≡ after_steps 0 (min m (length a)) 0 (eliminate m a) c
  unfolding eliminate reduced after_steps updates
  adding_reduces =
      ap (λ n. turns_from (update (eliminate m a).columns) 0 (min m n) (permute (eliminate m a).swaps c)) (length_steps (min m (length a)) (unfactored a))

  -- after the steps that the matrix has by itself
  pub steps_upto : steps (min m (length a)) (unfactored (a ++ c ∷ [])) ≡ widen (eliminate m a) (reduced m (eliminate m a) c)
  unfolding eliminate
  steps_upto = steps_widen m (unfactored a) c rows 0 (min m (length a)) (omega arith) (omega arith) ∙ ap (widen (eliminate m a)) (sym adding_reduces)

  -- Factoring the widened matrix afresh gives the factors and the swaps that adding the column gives.
  pub widened : eliminate m (a ++ c ∷ []) ≡ add_column m (eliminate m a) c
  unfolding eliminate add_column
  widened =
      let n = length a in
      let k = min m n in
      let f = steps k (unfactored a) in
      let grows : length (a ++ c ∷ []) ≡ n + 1 = length-append a (c ∷ []) in
      let same : length f.columns ≡ n = length_steps k (unfactored a) in
      let upto : steps k (unfactored (a ++ c ∷ [])) ≡ widen f (reduced m f c) = steps_upto in
      cond_cases (λ g. eliminate m (a ++ c ∷ []) ≡ g) (ltb (length f.columns) m)
      (λ e.
      let h : length f.columns < m = ltb-true _ _ e in
      let one_more : min m (length (a ++ c ∷ [])) ≡ suc k = omega arith in
      let last : k ≡ length f.columns = omega arith in
      ap (λ j. steps j (unfactored (a ++ c ∷ []))) one_more
      ∙ steps_next k (unfactored (a ++ c ∷ []))
      ∙ ap (step k) upto
      ∙ ap (λ j. step j (widen f (reduced m f c))) last)
      (λ e.
      let h : m ≤ length f.columns = ltb-false _ _ e in
      let no_more : min m (length (a ++ c ∷ [])) ≡ k = omega arith in
      ap (λ j. steps j (unfactored (a ++ c ∷ []))) no_more ∙ upto)
