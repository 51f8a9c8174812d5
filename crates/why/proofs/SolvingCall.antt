-- The explanation of a solve, from what `solve` answered: accepted and no result overflows; refused by its tests, for 6 with the lowest dead column; or refused
-- with 7, and then the sides are worked on once more. By the cases of the call. Assumes nothing.
use mathlib.Core.Path.{◌≡◌, refl, sym, ap, ◌∙◌}
use mathlib.Core.Bool.{Bool, true, false, not, cond}
use mathlib.Core.List.{List}
use mathlib.Core.Logic.{⊎_elim}
use mathlib.Core.Option.{Option, none, some, map}
use Prim.Native.Nat.{ℕ, ◌+◌, ◌*◌, ◌≤◌, ◌<◌}
use native.Mathlib.Omega.{arith}
use borrow.Author.Tests.{eqb-true, eqb-false, ne_eqb}
use lib.Dec.{eqb}
use lib.ListN.{length, take, length-replicate}
use lib.Seq.{take_all}
use Rattle.numbers.specs.Numbers.{zero64}
use Rattle.numbers.specs.Column.{Column, zeros}
use Rattle.finite.specs.Finite.{all_finite}
use Rattle.numbers.proofs.Choice.{test_cases, cond_cases, and_first, and_second}
use Rattle.numbers.proofs.Each.{length_each}
use Rattle.store.specs.Columns.{columns, flat, HasRows, is_matrix}
use Rattle.store.specs.Steps.{Matrix}
use Rattle.store.proofs.Columns.{sized, columns_rows, length_columns}
use Rattle.blas.specs.Blas.{copied}
use Rattle.blas.proofs.Rows.{copied_whole}
use Rattle.dead_columns.specs.Dead.{dead_from, dead_in, dead_of}
use Rattle.dead_columns.proofs.Dead.{held_dead}
use Rattle.std.proofs.Common.{Option as Maybe, Some, None, Result, Ok, Err}
use Rattle.refusals.specs.declared.Refusal.{Refusal}
use Rattle.refusals.specs.declared.Refusal.TheVariants.{Singular, Overflow}
use Rattle.refusals.specs.Outcome.{outcome, number, number_of, Call, leaving}
use Rattle.refusals.specs.Refusals.{seventh}
use Rattle.refusals.proofs.Outcomes.{tested_none, tested_some, never_0, only_singular, only_overflow}
use Rattle.refusals.proofs.Cases.{first_among}
use Rattle.swap_list.specs.SwapList.{pairs_of, good_list}
use Rattle.solve.specs.Calls.{zero_on_diagonal}
use Rattle.triangular_passes.specs.Triangular.{solved_from}
use Rattle.solve.specs.Reason.{Stored, lowest_zero}
use Rattle.solve.proofs.Reason.{zero_cases}
use Rattle.factors.specs.declared.Record.{Record}
use Rattle.factors.specs.Held.{held_tests, held_refusal}
use Rattle.factors.proofs.Held.{Passed, passed, square_matrix, square_list}
use Rattle.from_factors.specs.Solving.{solved, solved_all, solved_by, solve_asks, solving}
use Rattle.from_factors.specs.Reason.{swapped_sides, lower_sides, solve_reason}
use Rattle.from_factors.proofs.Dead.{before, six_passed, six_zero}
use Rattle.from_factors.proofs.Reason.{sides_size, sides_finite, seven, solve_none, solve_cases}
use Rattle.why.specs.declared.WhySolve.{WhySolve}
use Rattle.why.specs.declared.WhySolve.TheVariants.{Refused, Singular as SingularAt}
use Rattle.why.specs.Results.{first_overflow}
use Rattle.why.specs.Solving.{Spot}
use Rattle.why.specs.Inner.{column_or}
use Rattle.why.specs.Why.{Told, told_number, overflowed, told_solve, refused_solving, results_of, explain_solving}
use Rattle.why.proofs.Results.{First, first_named}
use Rattle.why.proofs.Solving.{spot_of, results_solving}

overflowed_place : (o : Option Spot) → (overflowed o).place ≡ o
unfolding overflowed
overflowed_place none = refl
overflowed_place (some p) = refl

module _ (r : Record) (factors : Column) (store : List ℕ) (k : ℕ) (b x : Column) where
  abbrev n : ℕ
  n = r.rows

  abbrev refusal : ℕ
  refusal = held_refusal factors store r (solve_asks b n k x)

  abbrev call : Call (Unit {0}) Column
  call = solving factors store r b k x

  abbrev results : Option Spot
  results = first_overflow (results_of factors store r (columns n k b))

  -- ---- past the tests
  module _ (none_before : refusal ≡ 0) where
    pub explained_by : explain_solving factors store r b k x ≡ overflowed results
    unfolding explain_solving
    explained_by = tested_none refusal (refused_solving factors n) _ none_before

    rows : HasRows n (columns n k b)
    rows = columns_rows n k b (sides_size r factors store k b x none_before)

    abbrev made : Matrix
    made = solved_all solved n (columns n n factors) (pairs_of r.pairs store) (columns n k b)

    -- the results, by the reason
    results_are : results ≡ map spot_of (solve_reason n (columns n n factors) (pairs_of r.pairs store) (columns n k b))
    results_are = results_solving n (columns n n factors) (pairs_of r.pairs store) (columns n k b) rows (sides_finite r factors store k b x none_before)

    told_number_lem : (explain_solving factors store r b k x).number ≡ number_of call.answer
    unfolding overflowed
    told_number_lem =
        let none_is = solve_none n (columns n n factors) (pairs_of r.pairs store) (columns n k b) rows (sides_finite r factors store k b x none_before) in
        ap (λ (t : Told Spot). t.number) (explained_by ∙ ap overflowed results_are)
        ∙ by_reason (solve_reason n (columns n n factors) (pairs_of r.pairs store) (columns n k b)) none_is.0 none_is.1
        ∙ sym (seven r factors store k b x none_before)
      where
        by_reason : (o : Option Stored) → (o ≡ none → all_finite (flat made) ≡ true) → (all_finite (flat made) ≡ true → o ≡ none)
            → (overflowed (map spot_of o)).number ≡ cond (all_finite (flat made)) 0 7
        by_reason none fine back = rw (fine refl) refl
        by_reason (some p) fine back =
            test_cases (all_finite (flat made))
            (λ t. absurd (let e = back t in let z : ◌≡◌ {A = ℕ} 0 1 = cc in omega arith)) (λ t. rw t)

  -- ---- refused by the tests
  module _ (some-before : refusal ≡ 0 → ⊥) where
    pub explained_refused : explain_solving factors store r b k x ≡ refused_solving factors n refusal
    unfolding explain_solving
    explained_refused = tested_some refusal (refused_solving factors n) _ some-before

    refused_is : call ≡ leaving x refusal
    unfolding solving
    refused_is = tested_some refusal (leaving x) _ some-before

  -- THEOREM. The explanation has the number of the call that it explains: so there is no reason exactly where that is accepted, and bad input is answered by
  -- the same number as there.
  pub same_number : (explain_solving factors store r b k x).number ≡ number_of call.answer
  unfolding refused_solving
  same_number =
      test_cases (eqb refusal 0) (λ t. told_number_lem (eqb-true refusal 0 t))
      (λ t.
      let ne = eqb-false refusal 0 t in
      ap (λ (e : Told Spot). e.number) (explained_refused ne) ∙ sym (ap (λ (o : Call (Unit {0}) Column). number_of o.answer) (refused_is ne)))

  -- a place is told past the tests alone
  told_past : (p : Spot) → (explain_solving factors store r b k x).place ≡ some p → refusal ≡ 0
  unfolding refused_solving
  told_past p e =
      test_cases (eqb refusal 0) (eqb-true refusal 0)
      (λ t. absurd
      (let none_told : none ≡ some p = sym (ap (λ (q : Told Spot). q.place) (explained_refused (eqb-false refusal 0 t))) ∙ e in
      let z : ◌≡◌ {A = ℕ} 0 1 = cc in omega arith))

  first_told : (p : Spot) → (explain_solving factors store r b k x).place ≡ some p → results ≡ some p
  first_told p e = sym (overflowed_place _) ∙ sym (ap (λ (q : Told Spot). q.place) (explained_by (told_past p e))) ∙ e

  -- THEOREM. The place that is told is that of a stored result that is not finite, and every result stored before it is.
  pub named_first : (p : Spot) → (explain_solving factors store r b k x).place ≡ some p → First (results_of factors store r (columns n k b)) p
  named_first p e = first_named _ p (first_told p e)

  -- THEOREM. It is a right-hand column and a row of the sides.
  pub spot_within : (p : Spot) → (explain_solving factors store r b k x).place ≡ some p → (p.column < k) × (p.row < n)
  unfolding solved_from
  spot_within p e =
      let h = told_past p e in
      let cs = columns n n factors in
      let swaps = pairs_of r.pairs store in
      let bs = columns n k b in
      let wide : length bs ≡ k = length_columns n k b in
      let swapped : length (swapped_sides swaps bs) ≡ length bs = length_each _ 0 bs in
      let lower : length (lower_sides n cs swaps bs) ≡ length (swapped_sides swaps bs) = length_each _ 0 (swapped_sides swaps bs) in
      solve_cases n cs swaps bs (rows h) (sides_finite r factors store k b x h) (λ o. map spot_of o ≡ some p → (p.column < k) × (p.row < n))
      (λ _ none_told. absurd (let z : ◌≡◌ {A = ℕ} 0 1 = cc in omega arith))
      (λ q _ stored told.
      let same : spot_of q ≡ p = cc in
      rw (sym same)
      (⊎_elim
      (λ low. (omega (arith, low.wide), low.first.long))
      (λ up. (omega (arith, up.1.wide), up.1.first.long)) stored))
      (sym (results_are h) ∙ first_told p e)

  -- THEOREM. The column that is told is one of the matrix.
  pub column_within : (j : ℕ) → (explain_solving factors store r b k x).column ≡ some j → j < n
  unfolding refused_solving overflowed
  column_within j e =
      test_cases (eqb refusal 0)
      (λ t. absurd (never_column results (sym (ap (λ (q : Told Spot). q.column) (explained_by (eqb-true refusal 0 t))) ∙ e)))
      (λ t.
      let told : cond (eqb refusal 6) (lowest_zero 0 (columns n n factors)) none ≡ some j =
      sym (ap (λ (q : Told Spot). q.column) (explained_refused (eqb-false refusal 0 t))) ∙ e in
      cond_cases (λ (o : Option ℕ). o ≡ some j → j < n) (eqb refusal 6)
      (λ six.
      zero_cases (λ o. o ≡ some j → j < n) 0 (columns n n factors)
      (λ _ none_told. absurd (let z : ◌≡◌ {A = ℕ} 0 1 = cc in omega arith))
      (λ i h _ _ _ is. (let same : 0 + i ≡ j = cc in omega (arith, length_columns n n factors))))
      (λ other none_told. absurd (let z : ◌≡◌ {A = ℕ} 0 1 = cc in omega arith)) told)
    where
      never_column : (o : Option Spot) → (overflowed o).column ≡ some j → ⊥
      never_column none d = let z : ◌≡◌ {A = ℕ} 0 1 = cc in omega arith
      never_column (some p) d = let z : ◌≡◌ {A = ℕ} 0 1 = cc in omega arith

  -- ---- from what `solve` answered
  module _ (answer : Result (Unit {0}) Refusal) (e : outcome answer ≡ call.answer) where
    pub no_reason : (done : Unit {0}) → answer ≡ Ok done → told_solve None ≡ explain_solving factors store r b k x
    unfolding told_solve overflowed
    no_reason done is =
        let zero : number_of call.answer ≡ 0 = ap number_of (sym e ∙ ap outcome is) in
        test_cases (eqb refusal 0)
        (λ t.
        let by = explained_by (eqb-true refusal 0 t) in
        sym (by ∙ none_told results (sym (ap (λ (e : Told Spot). e.number) by) ∙ same_number ∙ zero)))
        (λ t. let ne = eqb-false refusal 0 t in absurd (ne (sym (ap (λ (o : Call (Unit {0}) Column). number_of o.answer) (refused_is ne)) ∙ zero)))
      where
        none_told : (o : Option Spot) → (overflowed o).number ≡ 0 → overflowed o ≡ told_number 0
        none_told none e = refl
        none_told (some p) e = absurd (omega (arith, e))

    module _ (kind : Refusal) (is : answer ≡ Err kind) where
      number_is : number kind ≡ number_of call.answer
      number_is = ap number_of (sym (ap outcome is) ∙ e)

      -- past the tests it is an overflow
      past_kind : refusal ≡ 0 → kind ≡ Overflow
      past_kind h =
          let settles = number_is ∙ seven r factors store k b x h in
          test_cases (all_finite (flat (solved_all solved n (columns n n factors) (pairs_of r.pairs store) (columns n k b))))
          (λ t. absurd (never_0 kind (settles ∙ (rw t)))) (λ t. only_overflow kind (settles ∙ (rw t)))

      -- a refusal of the tests
      test_number : (refusal ≡ 0 → ⊥) → number kind ≡ refusal
      test_number ne = number_is ∙ ap (λ (o : Call (Unit {0}) Column). number_of o.answer) (refused_is ne)

      by_tests : (kind ≡ Overflow → ⊥) → (number kind ≡ refusal) × (refusal ≡ 0 → ⊥)
      by_tests other =
          test_cases (eqb refusal 0) (λ t. absurd (other (past_kind (eqb-true refusal 0 t)))) (λ t. let ne = eqb-false refusal 0 t in (test_number ne, ne))

      -- a bad input, and not a singular matrix
      pub bad_input : (kind ≡ Singular → ⊥) → (kind ≡ Overflow → ⊥) → told_solve (Some (Refused kind)) ≡ explain_solving factors store r b k x
      unfolding told_solve refused_solving
      bad_input other last =
          let by = by_tests last in
          let plain : refused_solving factors n (number kind) ≡ told_number (number kind) =
          rw (ne_eqb (number kind) 6 (λ six. other (only_singular kind six))) in
          sym (explained_refused by.1 ∙ ap (refused_solving factors n) (sym by.0) ∙ plain)

    -- ---- singular
    module _ (is : answer ≡ Err Singular) where
      by : (6 ≡ refusal) × (refusal ≡ 0 → ⊥)
      by = by_tests Singular is (λ z. let e : 6 ≡ 7 = ap number z in omega arith)

      refused_six : refusal ≡ 6
      refused_six = sym by.0

      its : Passed factors store r (before factors store r (solve_asks b n k x) refl refl)
      its = six_passed factors store r (solve_asks b n k x) refl refl refused_six

      pub six_matrix : is_matrix factors n n ≡ true
      six_matrix = square_matrix factors store r _ refl its

      -- so some column is dead, and the lowest of them is told
      some_dead : dead_from 0 (columns n n factors) ≡ 0 → ⊥
      unfolding zero_on_diagonal dead_in
      some_dead none-dead =
          let zero = six_zero factors store r (solve_asks b n k x) refl refl refused_six in
          let all : take n (columns n n factors) ≡ columns n n factors = take_all n (columns n n factors) (omega (arith, length_columns n n factors)) in
          let count : dead_of factors n n ≡ 0 = held_dead n n factors six_matrix ∙ ap (dead_from 0) all ∙ none-dead in
          let z : ◌≡◌ {A = Bool} true false = sym zero ∙ ap (λ (c : ℕ). not (eqb c 0)) count in
          let e : ◌≡◌ {A = ℕ} 0 1 = cc in
          omega arith

      pub singular : (j : ℕ) → j ≡ column_or n (lowest_zero 0 (columns n n factors)) → told_solve (Some (SingularAt j)) ≡ explain_solving factors store r b k x
      unfolding told_solve refused_solving
      singular j found =
          let told : refused_solving factors n 6 ≡ record { number = 6; column = some j; place = none } =
          ap (λ (o : Option ℕ). record { number = 6; column = o; place = none }) lowest in
          sym (explained_refused by.1 ∙ ap (refused_solving factors n) refused_six ∙ told)
        where
          lowest : lowest_zero 0 (columns n n factors) ≡ some j
          lowest =
              (zero_cases (λ o. j ≡ column_or n o → o ≡ some j) 0 (columns n n factors) (λ none-dead e. absurd (some_dead none-dead))
              (λ i h some-here zero first e. ap (λ (q : ℕ). some q) (sym e))) found

    -- ---- overflow: the tests are past, and `solve` left zeros
    module _ (is : answer ≡ Err Overflow) where
      pub past_tests : refusal ≡ 0
      unfolding held_refusal
      past_tests =
          test_cases (eqb refusal 0) (λ t. eqb-true refusal 0 t)
          (λ t.
          let is-seven : refusal ≡ 7 = sym (test_number Overflow is (eqb-false refusal 0 t)) in
          absurd (first_among (λ j. j ≡ 7 → ⊥) (held_tests factors store r (solve_asks b n k x)) (λ z. omega (arith, z)) (
            λ z. omega (arith, z),
            (
              λ z. omega (arith, z),
              (
                λ z. omega (arith, z),
                (
                  λ z. omega (arith, z),
                  (
                    λ z. omega (arith, z),
                    (λ z. omega (arith, z), (λ z. omega (arith, z), tt)),
                  ),
                ),
              ),
            ),
          ) is-seven))

      own : Passed factors store r (solve_asks b n k x)
      own = passed factors store r (solve_asks b n k x) past_tests

      sides : is_matrix b n k ≡ true
      sides = and_first (is_matrix b n k) (is_matrix x n k) own.lengths

      result : is_matrix x n k ≡ true
      result = and_second (is_matrix b n k) (is_matrix x n k) own.lengths

      left_zeros : call.left ≡ zeros (length (solved_by solved factors store r (columns n k b)))
      unfolding solving seventh
      left_zeros =
          let settles = number_is Overflow is ∙ seven r factors store k b x past_tests in
          rw (tested_none refusal (leaving x) (seventh (solved_by solved factors store r (columns n k b))) past_tests)
          (test_cases (all_finite (solved_by solved factors store r (columns n k b)))
          (λ t. absurd (let zero : 7 ≡ 0 = settles ∙ (rw t) in omega arith)) (λ t. rw t))

      -- y is the slice after `solve`, t after the copy
      module _ (y t : Column) (y-is : y ≡ call.left) (kept : length y ≡ length x) (copy : t ≡ copied b y) where
        copy_is : t ≡ b
        copy_is = copy ∙ copied_whole b y ((sized n k b sides).size ∙ sym (kept ∙ (sized n k x result).size))

        pub ready : ((is_matrix factors n n ≡ true) × (is_matrix t n k ≡ true) × (1 ≤ n)) × ((good_list store r.pairs n n ≡ true) × (all_finite t ≡ true))
        ready = (
          (square_matrix factors store r _ refl own, ap (λ (s : Column). is_matrix s n k) copy_is ∙ sides, own.rows.at_least),
          (square_list factors store r _ refl own, ap all_finite copy_is ∙ own.numbers),
        )

        pub overflow_told : (a : Maybe WhySolve) → told_solve a ≡ overflowed (first_overflow (results_of factors store r (columns n k t)))
            → told_solve a ≡ explain_solving factors store r b k x
        overflow_told a told =
            told ∙ ap (λ (c : Column). overflowed (first_overflow (results_of factors store r (columns n k c)))) copy_is ∙ sym (explained_by past_tests)

        pub zeroed_again : (j : ℕ) (v : Column) → j ≡ length t → v ≡ zeros j → v ≡ call.left
        zeroed_again j v long made =
            let size : length x ≡ k * n = (sized n k x result).size in
            let as_long : j ≡ length y = long ∙ ap length copy_is ∙ (sized n k b sides).size ∙ sym (kept ∙ size) in
            let zeros_long : length y ≡ length (solved_by solved factors store r (columns n k b)) = ap length (y-is ∙ left_zeros) ∙ length-replicate _ zero64 in
            made ∙ ap zeros (as_long ∙ zeros_long) ∙ sym left_zeros
