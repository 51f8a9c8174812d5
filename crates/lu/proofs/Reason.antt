-- The first stored result that is not finite: there is none exactly when the elimination's factors are finite; else the number named is not finite, everything
-- stored before it is, and it stands below the step's row in a column not left of the step's. Assumes nothing.
use mathlib.Core.Path.{◌≡◌, refl, sym, ap, ◌∙◌, subst}
use mathlib.Core.Bool.{true, false, cond, true≢false}
use mathlib.Core.List.{List, []}
use mathlib.Core.Option.{Option, none, some}
use Prim.Native.Nat.{ℕ, suc, ◌+◌, ◌≤◌, ◌<◌, min}
use native.Mathlib.Nat.{le_of_suc-le-suc, lt_of_not-le}
use native.Mathlib.Omega.{arith}
use borrow.Author.Tests.{ltb-true, ltb-false, eqb-true, eqb-false}
use lib.Dec.{ltb, eqb}
use lib.ListN.{length, length-set}
use lib.Seq.{get_or-set_same, get_or-set_other}
use lib.Ieee.Scale.{finite}
use Rattle.numbers.specs.Column.{Column, entry}
use Rattle.finite.specs.Finite.{all_finite}
use Rattle.numbers.proofs.Choice.{test_cases}
use Rattle.numbers.proofs.Each.{each_at, each_before}
use Rattle.finite.proofs.Finite.{finite_entry, finite_swap}
use Rattle.blas.proofs.Rows.{entry_scale_before, entry_axpy_before}
use Rattle.numbers.proofs.First.{passed_then, turn_cases}
use Rattle.store.specs.Columns.{columns, flat, HasRows}
use Rattle.store.specs.Steps.{Matrix, column, swap_in_all}
use Rattle.one_step.specs.OneStep.{step_column, step_columns, eliminated}
use Rattle.store.specs.First.{column_of, row_of}
use Rattle.store.proofs.Columns.{length_columns, flat_columns}
use Rattle.store.proofs.Steps.{length_swap_in_all, rows_swap_in_all}
use Rattle.store.proofs.Lasting.{column_finite}
use Rattle.store.proofs.First.{FirstIn, first_in, first_one}
use Rattle.exchanges.proofs.Finite.{exchange_finite}
use Rattle.factors.specs.Factors.{Factors}
use Rattle.elimination.specs.Elimination.{multipliers, scaled, pivot_step, step, unfactored, eliminate}
use Rattle.elimination.specs.Reason.{Place, finite_in, place_of, first_reason}
use Rattle.refusals.specs.Outcome.{number_of}
use Rattle.lu.specs.Factoring.{factoring_refusal, factoring}
use Rattle.elimination.proofs.Step.{pivot_at, step_cases, step_left, length_pivot_step, rows_pivot_step, steps, steps_next, length_steps, rows_steps}
use Rattle.lu.proofs.Shape.{factors_of, ok, size, shape, accepted_is, settled_number}
use Rattle.elimination.proofs.Lasting.{step_finite, steps_finite}

-- ---- what step i stores: in the rows up to i, and in the columns left of i, a step that is not skipped only swaps rows
module _ (i : ℕ) where
  above_scaled : (cs : Matrix) (j r : ℕ) → j < length cs → r ≤ i → entry (column (scaled i cs) j) r ≡ entry (column cs j) r
  unfolding scaled multipliers
  above_scaled cs j r hj hr =
      let l = multipliers i (column cs i) in
      test_cases (eqb j i)
      (λ t.
      let e = eqb-true j i t in
      let hi : i < length cs = rw e at hj in
      rw e (ap (λ (c : Column). entry c r) (get_or-set_same cs i l [] hi) ∙ entry_scale_before (i + 1) _ (column cs i) r (omega arith)))
      (λ t. ap (λ (c : Column). entry c r) (get_or-set_other cs i j l [] (eqb-false j i t)))

  above_eliminated : (cs : Matrix) (j r : ℕ) → j < length cs → r ≤ i → entry (column (eliminated i cs) j) r ≡ entry (column cs j) r
  unfolding eliminated step_columns step_column
  above_eliminated cs j r hj hr =
      test_cases (ltb j (i + 1))
      (λ t. ap (λ (c : Column). entry c r) (each_before _ (i + 1) cs j [] (ltb-true j (i + 1) t)))
      (λ t.
      ap (λ (c : Column). entry c r) (each_at _ (i + 1) cs j [] (ltb-false j (i + 1) t) hj)
      ∙ entry_axpy_before (i + 1) _ (column cs i) (column cs j) r (omega arith))

  module _ (p : ℕ) (f : Factors) where
    abbrev pub swapped : Matrix
    swapped = swap_in_all i p f.columns

    pub step_above : (j r : ℕ) → j < length f.columns → r ≤ i → entry (column (pivot_step i p f).columns j) r ≡ entry (column swapped j) r
    unfolding pivot_step scaled
    step_above j r hj hr =
        let hs : j < length swapped = rw length_swap_in_all hj in
        above_eliminated (scaled i swapped) j r (rw length-set hs) hr ∙ above_scaled swapped j r hs hr

    -- after a step on finite columns, what is not finite was stored by it
    pub stored : (m j r : ℕ) → HasRows m f.columns → finite_in f ≡ true → i < length f.columns → FirstIn (pivot_step i p f).columns j r → (i ≤ j) × (i < r)
    stored m j r rows ok hi first =
        let g = pivot_step i p f in
        let hj : j < length f.columns = rw length_pivot_step at first.wide in
        let still : all_finite (flat swapped) ≡ true = exchange_finite false i p f.columns ∙ ok in
        let long : length (column g.columns j) ≡ length (column swapped j) =
        rows_pivot_step i p f m rows j first.wide ∙ sym (rows_swap_in_all i m p f.columns rows j (rw length_swap_in_all hj)) in (
          le_of_suc-le-suc (lt_of_not-le λ (h : j < i).
              let c = column f.columns j in
              let whole : all_finite (column g.columns j) ≡ true = rw (step_left i p f j h hi) (finite_swap i p c ∙ column_finite f.columns ok j) in
              true≢false (sym (finite_entry (column g.columns j) r whole first.long) ∙ first.fails)),
          lt_of_not-le (λ (h : r ≤ i).
              let here : finite (entry (column swapped j) r) ≡ true =
              finite_entry (column swapped j) r (column_finite swapped still j) (rw long at first.long) in
              true≢false (sym (rw (step_above j r hj h) here) ∙ first.fails)),
        )

-- ---- the first stored result that is not finite
-- what its place p says: the columns were finite up to its step, and right after it the number there is the first, column by column, that is not
pub record Explained (m : ℕ) (a : Matrix) (p : Place) : Type 0 where
  pub in_time : p.step < min m (length a)
  pub steps_before : (k : ℕ) → k ≤ p.step → finite_in (steps k (unfactored a)) ≡ true
  pub first : FirstIn (step p.step (steps p.step (unfactored a))).columns p.column p.row
  pub right : p.step ≤ p.column
  pub under : p.step < p.row

module _ (m : ℕ) (a : Matrix) (rows : HasRows m a) (ok : all_finite (flat a) ≡ true) where
  explained : (k : ℕ) → k < min m (length a) → finite_in (steps k (unfactored a)) ≡ true → finite_in (step k (steps k (unfactored a))) ≡ false
      → Explained m a (place_of k (step k (steps k (unfactored a))))
  explained k h now then =
      let f = steps k (unfactored a) in
      let first = first_in (step k f).columns then in
      let place =
      step_cases k f (λ g. finite_in g ≡ false → FirstIn g.columns (column_of g.columns)
      (row_of g.columns) → (k ≤ column_of g.columns) × (k < row_of g.columns))
      (λ s e g. absurd (true≢false (sym now ∙ e)))
      (λ s e g. stored k (pivot_at k f) f m _ _ (rows_steps m k (unfactored a) rows) now (rw (length_steps k (unfactored a)) (omega arith)) g) then first in
      record {
        in_time = h;
        steps_before = λ j l. passed_then finite_in step step_finite 0 j k (unfactored a) l now;
        first = first;
        right = place.0;
        under = place.1;
      }

  -- THEOREM. Of the first stored result that is not finite, by cases: there is none and the factors are finite, or they are not and its place is as
  -- `Explained` says.
  pub reason_cases : (P : Option Place → Type 0) → (finite_in (eliminate m a) ≡ true → P none)
      → ((p : Place) → finite_in (eliminate m a) ≡ false → Explained m a p → P (some p)) → P (first_reason m a)
  unfolding first_reason eliminate
  reason_cases P all first =
      turn_cases finite_in step step_finite (λ i f. some (place_of i f)) none P (min m (length a)) (unfactored a) ok all
      (λ k h now then end. first (place_of k (step k (steps k (unfactored a)))) end (explained k h now then))

  -- "it answers 'no reason' exactly when the call it explains would be accepted"
  pub reason_none : (first_reason m a ≡ none → finite_in (eliminate m a) ≡ true) × (finite_in (eliminate m a) ≡ true → first_reason m a ≡ none)
  reason_none =
      reason_cases (λ o. (o ≡ none → finite_in (eliminate m a) ≡ true) × (finite_in (eliminate m a) ≡ true → o ≡ none))
      (λ e. (λ _. e, λ _. refl)) (λ p e x. (λ n. absurd (let z : ◌≡◌ {A = ℕ} 0 1 = cc in omega arith), λ t. absurd (true≢false (sym t ∙ e))))

  pub reason_some : (p : Place) → first_reason m a ≡ some p → Explained m a p
  reason_some p =
      reason_cases (λ o. o ≡ some p → Explained m a p)
      (λ e n. absurd (let z : ◌≡◌ {A = ℕ} 0 1 = cc in omega arith)) (λ q e x s. (let same : q ≡ p = cc in rw same at x))

module _ (m : ℕ) (a : Matrix) where
  step_least : (p q : Place) → Explained m a p → Explained m a q → q.step ≤ p.step
  step_least p q x y = le_of_suc-le-suc (lt_of_not-le λ (h : p.step < q.step).
      let g = step p.step (steps p.step (unfactored a)) in
      let fine : finite_in g ≡ true = ap finite_in (sym (steps_next p.step (unfactored a))) ∙ y.steps_before (suc p.step) h in
      true≢false (sym (finite_entry (column g.columns p.column) p.row (column_finite g.columns fine p.column)
      x.first.long) ∙ x.first.fails))

  -- THEOREM. `Explained` holds of one place only.
  pub explained_one : (p q : Place) → Explained m a p → Explained m a q → p ≡ q
  explained_one p q x y =
      let same : p.step ≡ q.step = omega (arith, step_least p q x y, step_least q p y x) in
      let after : ℕ → Matrix = λ k. (step k (steps k (unfactored a))).columns in
      let both = first_one (after q.step) p.column p.row q.column q.row
      (subst (λ (k : ℕ). FirstIn (after k) p.column p.row) same x.first) y.first in
      λ i. record { step = same i; column = both.0 i; row = both.1 i }

-- ---- the call
module _ (m n : ℕ) (a out : Column) (store : List ℕ) (none_before : factoring_refusal a m n out store ≡ 0) where
  whole_finite : all_finite (flat (columns m n a)) ≡ true
  whole_finite = ap all_finite (flat_columns m n a (size m n a out store none_before)) ∙ (ok m n a out store none_before).numbers

  -- refusal 7 is given exactly where the factors are not finite
  seven : number_of (factoring a m n out store).answer ≡ cond (finite_in (factors_of m n a)) 0 7
  seven = settled_number m n a out store none_before

  -- THEOREM. Of a factoring that passes the tests, by cases: it is accepted and there is no reason, or it gives 7 and the place is as `Explained` says.
  pub factoring_cases : (P : ℕ → Option Place → Type 0) → P 0 none → ((p : Place) → Explained m (columns m n a) p → P 7 (some p))
      → P (number_of (factoring a m n out store).answer) (first_reason m (columns m n a))
  factoring_cases P accepted refused =
      reason_cases m (columns m n a) (shape m n a out store none_before) whole_finite (P (number_of (factoring a m n out store).answer))
      (λ e. rw (seven, e) accepted) (λ p e x. rw (seven, e) (refused p x))

  -- THEOREM. In an accepted factoring the columns are finite after every step.
  pub accepted_steps : number_of (factoring a m n out store).answer ≡ 0 → (k : ℕ) → k ≤ min m n → finite_in (steps k (unfactored (columns m n a))) ≡ true
  accepted_steps e k h =
      steps_finite m k (columns m n a) (rw (length_columns m n a) h) (accepted_is m n a out store none_before e).1
