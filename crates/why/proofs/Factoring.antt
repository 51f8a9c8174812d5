-- The explanation of a factoring, from what `factor` answered: accepted and no result overflows; refused by its tests; or refused with 7, and then the matrix
-- is worked on once more. By the cases of the call. Assumes nothing.
use mathlib.Core.Path.{◌≡◌, refl, sym, ap, ◌∙◌}
use mathlib.Core.Bool.{true}
use mathlib.Core.List.{List}
use mathlib.Core.Option.{Option, none, some}
use Prim.Native.Nat.{ℕ, suc, ◌*◌, ◌<◌, min}
use native.Mathlib.Omega.{arith}
use borrow.Author.Tests.{eqb-true, eqb-false}
use lib.Dec.{eqb}
use lib.ListN.{length}
use Rattle.numbers.specs.Column.{Column, zeros}
use Rattle.finite.specs.Finite.{all_finite}
use Rattle.numbers.proofs.Choice.{test_cases}
use Rattle.store.specs.Columns.{columns, flat, is_matrix}
use Rattle.store.proofs.Columns.{sized, flat_columns, length_columns}
use Rattle.store.proofs.First.{FirstIn}
use Rattle.blas.specs.Blas.{copied}
use Rattle.blas.proofs.Rows.{copied_whole}
use Rattle.std.proofs.Common.{Option as Maybe, Some, None, Result, Ok, Err}
use Rattle.refusals.specs.declared.Refusal.{Refusal}
use Rattle.refusals.specs.declared.Refusal.TheVariants.{Overflow}
use Rattle.refusals.specs.Outcome.{Outcome, done, refused, number, number_of, leaving}
use Rattle.refusals.proofs.Outcomes.{tested_none, tested_some, only_overflow}
use Rattle.refusals.proofs.Cases.{first_among, never_both}
use Rattle.factors.specs.declared.Record.{Record}
use Rattle.factors.specs.Factors.{slices, Factoring}
use Rattle.elimination.specs.Elimination.{step, unfactored, eliminate}
use Rattle.elimination.specs.Reason.{Place, first_reason}
use Rattle.elimination.proofs.Step.{steps, steps_next, length_steps, rows_steps}
use Rattle.lu.specs.declared.Factored.{Factored}
use Rattle.lu.specs.Factoring.{factoring_tests, factoring_refusal, settled, factoring, factored, factoring_answer}
use Rattle.lu.proofs.Told.{Passed, passed, told_accepted, told_refused}
use Rattle.lu.proofs.Shape.{factors_of, no_refusal, ok, size, shape, accepted_is, settled_number}
use Rattle.lu.proofs.Reason.{reason_some, factoring_cases}
use Rattle.why.specs.declared.WhyFactor.{WhyFactor}
use Rattle.why.specs.declared.WhyFactor.TheVariants.{Refused}
use Rattle.why.specs.Results.{first_overflow}
use Rattle.why.specs.Factoring.{factoring_results}
use Rattle.why.specs.Why.{Told, told_number, overflowed, told_factor, explain_factoring}
use Rattle.why.proofs.Results.{First, first_named}
use Rattle.why.proofs.Steps.{results_reason}

overflowed_place : (o : Option Place) → (overflowed o).place ≡ o
unfolding overflowed
overflowed_place none = refl
overflowed_place (some p) = refl

overflowed_none : (o : Option Place) → (overflowed o).number ≡ 0 → overflowed o ≡ told_number 0
unfolding overflowed
overflowed_none none e = refl
overflowed_none (some p) e = absurd (omega (arith, e))

module _ (m n : ℕ) (a out : Column) (store : List ℕ) where
  abbrev refusal : ℕ
  refusal = factoring_refusal a m n out store

  abbrev answer : Outcome Record
  answer = (factoring a m n out store).answer

  -- ---- past the tests
  module _ (none_before : refusal ≡ 0) where
    whole_finite : all_finite (flat (columns m n a)) ≡ true
    whole_finite = ap all_finite (flat_columns m n a (size m n a out store none_before)) ∙ (ok m n a out store none_before).numbers

    pub results_first : first_overflow (factoring_results m (columns m n a)) ≡ first_reason m (columns m n a)
    results_first = results_reason m (columns m n a) (shape m n a out store none_before) whole_finite

    explained_by : explain_factoring a m n out store ≡ overflowed (first_overflow (factoring_results m (columns m n a)))
    unfolding explain_factoring
    explained_by = tested_none refusal told_number _ none_before

    -- the number that is told is the call's own
    told_number_lem : (explain_factoring a m n out store).number ≡ number_of answer
    unfolding overflowed
    told_number_lem =
        ap (λ (t : Told Place). t.number) (explained_by ∙ ap overflowed results_first)
        ∙ factoring_cases m n a out store none_before (λ k o. (overflowed o).number ≡ k) refl (λ p x. refl)

  -- refused by the tests
  module _ (some-before : refusal ≡ 0 → ⊥) where
    pub explained_refused : explain_factoring a m n out store ≡ told_number refusal
    unfolding explain_factoring
    explained_refused = tested_some refusal told_number _ some-before

    refused_is : factoring a m n out store ≡ leaving (slices out store) refusal
    unfolding factoring
    refused_is = tested_some refusal (leaving (slices out store)) _ some-before

  -- THEOREM. The explanation has the number of the call that it explains: so there is no reason exactly where that is accepted, and bad input is answered by
  -- the same number as there.
  pub same_number : (explain_factoring a m n out store).number ≡ number_of answer
  same_number =
      test_cases (eqb refusal 0) (λ t. told_number_lem (eqb-true refusal 0 t))
      (λ t.
      let ne = eqb-false refusal 0 t in
      ap (λ (x : Told Place). x.number) (explained_refused ne) ∙ sym (ap (λ (o : Factoring). number_of o.answer) (refused_is ne)))

  -- a place is told past the tests alone
  told_past : (p : Place) → (explain_factoring a m n out store).place ≡ some p → refusal ≡ 0
  told_past p e =
      test_cases (eqb refusal 0) (eqb-true refusal 0)
      (λ t. absurd
      (let none_told : none ≡ some p = sym (ap (λ (x : Told Place). x.place) (explained_refused (eqb-false refusal 0 t))) ∙ e in
      let z : ◌≡◌ {A = ℕ} 0 1 = cc in omega arith))

  first_told : (p : Place) → (explain_factoring a m n out store).place ≡ some p → first_overflow (factoring_results m (columns m n a)) ≡ some p
  first_told p e = sym (overflowed_place _) ∙ sym (ap (λ (x : Told Place). x.place) (explained_by (told_past p e))) ∙ e

  -- THEOREM. The place that is told is that of a stored result that is not finite, and every result stored before it is.
  pub named_first : (p : Place) → (explain_factoring a m n out store).place ≡ some p → First (factoring_results m (columns m n a)) p
  named_first p e = first_named _ p (first_told p e)

  -- THEOREM. It is a place of the matrix, and a step of its elimination.
  pub place_within : (p : Place) → (explain_factoring a m n out store).place ≡ some p → (p.step < min m n) × (p.column < n) × (p.row < m)
  place_within p e =
      let none_before = told_past p e in
      let cs = columns m n a in
      let rows = shape m n a out store none_before in
      let x = reason_some m cs rows (whole_finite none_before) p (sym (results_first none_before) ∙ first_told p e) in
      let next : steps (suc p.step) (unfactored cs) ≡ step p.step (steps p.step (unfactored cs)) = steps_next p.step (unfactored cs) in
      let first : FirstIn (steps (suc p.step) (unfactored cs)).columns p.column p.row = rw next x.first in
      let wide : length (steps (suc p.step) (unfactored cs)).columns ≡ n = length_steps (suc p.step) (unfactored cs) ∙ length_columns m n a in
      let long = rows_steps m (suc p.step) (unfactored cs) rows p.column first.wide in
      (rw (length_columns m n a) at x.in_time, omega (arith, wide, first.wide), omega (arith, long, first.long))

  -- ---- from what the call gives
  module _ (made : Result Factored Refusal) (e : factored made ≡ factoring_answer a m n out store) where
    -- accepted
    pub no_reason : (f : Factored) → made ≡ Ok f → told_factor None ≡ explain_factoring a m n out store
    unfolding factoring_answer told_factor
    no_reason f is =
        let accepted : answer ≡ done f.told = (told_accepted _ answer f.told f.toss_ups (sym (ap factored is) ∙ e)).0 in
        let none_before = no_refusal m n a out store (ap number_of accepted) in
        let zero : (explain_factoring a m n out store).number ≡ 0 = same_number ∙ ap number_of accepted in
        sym (told_none none_before zero)
      where
        told_none : refusal ≡ 0 → (explain_factoring a m n out store).number ≡ 0 → explain_factoring a m n out store ≡ told_number 0
        told_none h z =
            let by = explained_by h in
            by ∙ overflowed_none _ (sym (ap (λ (x : Told Place). x.number) by) ∙ z)

    -- refused, for something else than an overflow: by the tests
    module _ (r : Refusal) (is : made ≡ Err r) where
      refused_answer : answer ≡ refused (number r)
      unfolding factoring_answer
      refused_answer = told_refused _ answer (number r) (sym (ap factored is) ∙ e)

      number_is : number_of answer ≡ number r
      number_is = ap number_of refused_answer

      -- past the tests there is no other refusal than 7
      only_seven : refusal ≡ 0 → number r ≡ 7
      only_seven none_before =
          let settles = settled_number m n a out store none_before in
          test_cases (all_finite (flat (factors_of m n a).columns))
          (λ t.
          let accepted = accepted_is m n a out store none_before (settles ∙ (rw t)) in
          never_both _ (number r) (sym (ap (λ (o : Factoring). o.answer) accepted.0) ∙ refused_answer))
          (λ t. sym number_is ∙ settles ∙ (rw t))

      pub bad_input : (r ≡ Overflow → ⊥) → told_factor (Some (Refused r)) ≡ explain_factoring a m n out store
      unfolding told_factor
      bad_input ne =
          test_cases (eqb refusal 0)
          (λ t. absurd (ne (only_overflow r (only_seven (eqb-true refusal 0 t)))))
          (λ t.
          let some-before = eqb-false refusal 0 t in
          let same : number r ≡ refusal = sym number_is ∙ ap (λ (o : Factoring). number_of o.answer) (refused_is some-before) in
          ap told_number same ∙ sym (explained_refused some-before))

    -- no test has the number 7, so an overflow is one of the work, past the tests
    module _ (is : made ≡ Err Overflow) where
      pub past_tests : refusal ≡ 0
      unfolding factoring_refusal
      past_tests =
          test_cases (eqb refusal 0) (λ t. eqb-true refusal 0 t)
          (λ t.
          let some-before = eqb-false refusal 0 t in
          let is-seven : refusal ≡ 7 = sym (ap (λ (o : Factoring). number_of o.answer) (refused_is some-before)) ∙ number_is Overflow is in
          absurd (first_among (λ k. k ≡ 7 → ⊥) (factoring_tests a m n out store) (λ z. omega (arith, z))
          (λ z. omega (arith, z), (λ z. omega (arith, z), (λ z. omega (arith, z), tt))) is-seven))

      -- then `factor` left zeros; the matrix is copied over them, its overflow is looked for, and the slice is zeroed again
      its : Passed m n a out store
      its = passed m n a out store past_tests

      left_zeros : (factoring a m n out store).left.factors ≡ zeros (n * m)
      unfolding factoring settled
      left_zeros =
          let settles = settled_number m n a out store past_tests in
          rw (tested_none refusal (leaving (slices out store)) (settled m n (eliminate m (columns m n a))) past_tests)
          (test_cases (all_finite (flat (factors_of m n a).columns))
          (λ t. absurd (let zero : 7 ≡ 0 = sym (number_is Overflow is) ∙ settles ∙ (rw t) in omega arith)) (λ t. rw t))

      -- t is the slice after the copy over what was left, and u at the end
      module _ (out' t : Column) (kept : length out' ≡ length out) (copy : t ≡ copied a out') where
        copy_is : t ≡ a
        copy_is = copy ∙ copied_whole a out' ((sized m n a its.matrix).size ∙ sym (kept ∙ (sized m n out its.slice).size))

        pub copy_ready : (is_matrix t m n ≡ true) × (all_finite t ≡ true)
        copy_ready = (ap (λ (s : Column). is_matrix s m n) copy_is ∙ its.matrix, ap all_finite copy_is ∙ its.numbers)

        pub overflow_told : (r : Maybe WhyFactor) → told_factor r ≡ overflowed (first_overflow (factoring_results m (columns m n t)))
            → told_factor r ≡ explain_factoring a m n out store
        overflow_told r told =
            told ∙ ap (λ (x : Column). overflowed (first_overflow (factoring_results m (columns m n x)))) copy_is ∙ sym (explained_by past_tests)

        pub zeroed_again : (k : ℕ) (v : Column) → k ≡ length t → v ≡ zeros k → v ≡ (factoring a m n out store).left.factors
        zeroed_again k v long made =
            made ∙ ap zeros (long ∙ ap length copy_is ∙ (sized m n a its.matrix).size) ∙ sym left_zeros
