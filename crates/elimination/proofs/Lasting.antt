-- The elimination never makes a matrix finite again: where the columns are finite after a step, they were before it. So a final result that is finite
-- has only finite ones before it (document 01, "Refusal numbers": "a running infinity or NaN never becomes finite again"). Assumes nothing.
use mathlib.Core.Path.{◌≡◌, refl, sym, ap, ◌∙◌}
use mathlib.Core.Bool.{true, false}
use mathlib.Core.List.{[], ◌∷◌}
use Prim.Native.Nat.{ℕ, ◌≤◌, ◌<◌, min}
use native.Mathlib.Omega.{arith}
use borrow.Author.Tests.{eqb-true, eqb-false}
use lib.Dec.{ltb, eqb}
use lib.ListN.{length, length-append}
use lib.Seq.{get_or-set_same, get_or-set_other, get_or_at}
use Rattle.numbers.specs.Numbers.{is_zero}
use Rattle.numbers.specs.Column.{Column, entry}
use Rattle.finite.specs.Finite.{all_finite}
use Rattle.numbers.proofs.Choice.{test_cases, cond_cases}
use Rattle.finite.proofs.Finite.{finite_swap}
use Rattle.numbers.proofs.Lasting.{lasting}
use Rattle.finite.proofs.Lasting.{scale_finite}
use Rattle.numbers.proofs.First.{passed_before, passed_then}
use Rattle.store.specs.Columns.{flat}
use Rattle.store.specs.Steps.{Matrix, column}
use Rattle.store.proofs.Lasting.{column_finite, columns_finite, swap_in_all_finite}
use Rattle.one_step.proofs.Lasting.{step_column_finite, eliminated_finite}
use Rattle.exchanges.specs.Permute.{permute}
use Rattle.exchanges.proofs.Finite.{finite_permute}
use Rattle.factors.specs.Factors.{Factors}
use Rattle.elimination.specs.Elimination.{multipliers, scaled, pivot_step, step, unfactored, eliminate}
use Rattle.elimination.specs.Reason.{finite_in}
use Rattle.elimination.specs.Adding.{widen, update, reduced, add_column}
use Rattle.elimination.proofs.Step.{pivot_at, step_cases, step_here, steps}

pub multipliers_finite : (i : ℕ) (c : Column) → all_finite (multipliers i c) ≡ true → all_finite c ≡ true
unfolding multipliers
multipliers_finite i c = scale_finite _ _ c

pub scaled_finite : (i : ℕ) (cs : Matrix) → all_finite (flat (scaled i cs)) ≡ true → all_finite (flat cs) ≡ true
unfolding scaled
scaled_finite i cs e = columns_finite cs λ j h.
    let done = column_finite (scaled i cs) e j in
    test_cases (eqb j i)
    (λ t.
    let same = eqb-true j i t in
    let hi : i < length cs = rw same at h in
    rw same (multipliers_finite i (column cs i) (rw (same, get_or-set_same cs i (multipliers i (column cs i)) [] hi) at done)))
    (λ t. rw (get_or-set_other cs i j (multipliers i (column cs i)) [] (eqb-false j i t)) at done)

pub pivot_step_finite : (i p : ℕ) (f : Factors) → finite_in (pivot_step i p f) ≡ true → finite_in f ≡ true
unfolding pivot_step
pivot_step_finite i p f e = swap_in_all_finite i p f.columns (scaled_finite i _ (eliminated_finite i _ e))

-- THEOREM. Where the columns are finite after a step, they were before it.
pub step_finite : (i : ℕ) (f : Factors) → finite_in (step i f) ≡ true → finite_in f ≡ true
step_finite i f = step_cases i f (λ g. finite_in g ≡ true → finite_in f ≡ true) (λ s e. e) (λ s. pivot_step_finite i (pivot_at i f) f)

-- the same forwards: once some number is not finite, some number never is
pub step_lasting : (i : ℕ) (f : Factors) → finite_in f ≡ false → finite_in (step i f) ≡ false
step_lasting i f = lasting (finite_in f) (finite_in (step i f)) (step_finite i f)

-- THEOREM. Where the elimination's result is finite, so are the columns after every step, and those it began with.
pub steps_finite : (m k : ℕ) (a : Matrix) → k ≤ min m (length a) → finite_in (eliminate m a) ≡ true → finite_in (steps k (unfactored a)) ≡ true
unfolding eliminate
steps_finite m k a h = passed_then finite_in step step_finite 0 k (min m (length a)) (unfactored a) h

pub steps_lasting : (m k : ℕ) (a : Matrix) → k ≤ min m (length a) → finite_in (steps k (unfactored a)) ≡ false → finite_in (eliminate m a) ≡ false
steps_lasting m k a h = lasting (finite_in (steps k (unfactored a))) (finite_in (eliminate m a)) (steps_finite m k a h)

-- ---- adding a column: where the column is finite when added, it was in every state before
pub update_finite : (cs : Matrix) (i : ℕ) (c : Column) → all_finite (update cs i c) ≡ true → all_finite c ≡ true
unfolding update
update_finite cs i c =
    cond_cases (λ (x : Column). all_finite x ≡ true → all_finite c ≡ true) (is_zero (entry (column cs i) i)) (λ t e. e)
    (λ t. step_column_finite i (column cs i) c)

pub reduced_finite : (m : ℕ) (f : Factors) (c : Column) → all_finite (reduced m f c) ≡ true → all_finite c ≡ true
unfolding reduced
reduced_finite m f c e =
    sym (finite_permute f.swaps c) ∙ passed_before all_finite (update f.columns) (update_finite f.columns) 0 _ (permute f.swaps c) e

-- THEOREM. Where the added column is finite, so is the reduced one, and so was the raw one.
pub added_finite : (m : ℕ) (f : Factors) (c : Column) → all_finite (column (add_column m f c).columns (length f.columns)) ≡ true
    → all_finite (reduced m f c) ≡ true
unfolding add_column
added_finite m f c =
    let n = length f.columns in
    let x = reduced m f c in
    let w = widen f x in
    let last : column w.columns n ≡ x = get_or_at f.columns x [] [] n refl in
    let here : n < length w.columns = rw (length-append f.columns (x ∷ [])) (omega arith) in
    cond_cases (λ (g : Factors). all_finite (column g.columns n) ≡ true → all_finite x ≡ true) (ltb n m)
    (λ t. step_cases n w (λ g. all_finite (column g.columns n) ≡ true → all_finite x ≡ true)
    (λ s e. rw last at e)
    (λ s e. ap all_finite (sym last) ∙ sym (finite_swap n (pivot_at n w) (column w.columns n)) ∙ multipliers_finite n _
    (ap all_finite (sym (step_here n (pivot_at n w) w here)) ∙ e)))
    (λ t e. rw last at e)
