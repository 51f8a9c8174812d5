-- The number of dead columns (document 02, request 7) says what the diagonal says, once it has been compared: the invertible test answers whether no zero
-- stands there, and refusal 6 is given exactly where one does. By the tests in their order. Assumes nothing.
use mathlib.Core.Path.{◌≡◌, refl, sym, ap, ◌∙◌}
use mathlib.Core.Bool.{Bool, true, false, not, ◌&&◌}
use mathlib.Core.List.{List, [], ◌∷◌}
use Prim.Native.Nat.{ℕ, suc}
use native.Mathlib.Omega.{arith}
use borrow.Author.Tests.{eqb-true, eqb-false}
use lib.Dec.{eqb}
use lib.ListN.{take}
use Rattle.numbers.specs.Column.{Column}
use Rattle.numbers.proofs.Choice.{test_cases}
use Rattle.dead_columns.specs.Dead.{dead_of}
use Rattle.dead_columns.proofs.Dead.{held_dead}
use Rattle.refusals.specs.Outcome.{done, refused, first_holding}
use Rattle.refusals.proofs.Outcomes.{Numbered, none_first, tested_none, tested_some}
use Rattle.refusals.proofs.Cases.{Each, first_among, first_behind}
use Rattle.solve.specs.Calls.{zero_on_diagonal}
use Rattle.factors.specs.declared.Record.{Record}
use Rattle.factors.specs.declared.Asks.{Asks}
use Rattle.factors.specs.Held.{held_tests, held_refusal}
use Rattle.factors.proofs.Held.{Passed, passed, passes, same}
use Rattle.from_factors.specs.Determinant.{square_asks, inverse_test}

twice : (t : Bool) → t ≡ not (not t)
twice true = refl
twice false = refl

module _ (factors : Column) (store : List ℕ) (r : Record) where
  -- past the tests of a square matrix, the number is not 0 exactly where a zero stands on the diagonal
  pub dead_zero : (asks : Asks) → asks.square ≡ true → Passed factors store r asks → zero_on_diagonal factors r.rows ≡ not (eqb r.dead 0)
  unfolding zero_on_diagonal
  dead_zero asks square p =
      let e = same factors store r asks square p in
      let there = ap (λ (k : ℕ). dead_of factors r.rows k) e ∙ held_dead r.rows r.columns factors p.matrix ∙ sym p.dead in
      ap (λ (k : ℕ). not (eqb k 0)) there

  -- THEOREM. Past the tests the invertible test answers whether no zero stands on the diagonal.
  pub invertible_is : held_refusal factors store r square_asks ≡ 0 → inverse_test factors store r ≡ done (not (zero_on_diagonal factors r.rows))
  unfolding inverse_test
  invertible_is none =
      tested_none _ refused _ none ∙ ap done (twice (eqb r.dead 0) ∙ ap not (sym (dead_zero square_asks refl (passed factors store r square_asks none))))

  -- ---- refusal 6, of a call that asks for a square matrix and solves
  module _ (asks : Asks) (square : asks.square ≡ true) (solves : asks.solves ≡ true) where
    -- THEOREM. Where no test holds, no zero stands on the diagonal.
    pub passed_nonzero : held_refusal factors store r asks ≡ 0 → zero_on_diagonal factors r.rows ≡ false
    passed_nonzero none =
        let p = passed factors store r asks none in
        dead_zero asks square p ∙ (rw solves at p.solvable)

    -- the same call without the last test
    abbrev pub before : Asks
    before =
        record {
          square = asks.square;
          solves = false;
          sizes = asks.sizes;
          lengths = asks.lengths;
          list = asks.list;
          numbers = asks.numbers;
        }

    -- the tests ahead of the last one; none of their numbers is 0 or 6
    abbrev ahead : List (ℕ × Bool)
    ahead = take 6 (held_tests factors store r asks)

    numbered : Numbered ahead
    numbered = (ne 0, (ne 1, (ne 2, (ne 3, (ne 4, (ne 8, tt))))))
      where
        ne : (k : ℕ) → suc k ≡ 0 → ⊥
        ne k e = omega (arith, e)

    others : Each (λ k. k ≡ 6 → ⊥) ahead
    others = (
      λ e. omega (arith, e),
      (
        λ e. omega (arith, e),
        (λ e. omega (arith, e), (λ e. omega (arith, e), (λ e. omega (arith, e), (λ e. omega (arith, e), tt)))),
      ),
    )

    -- so where 6 is given, none of them holds
    earlier : held_refusal factors store r asks ≡ 6 → held_refusal factors store r before ≡ 0
    unfolding held_refusal
    earlier e =
        let last : List (ℕ × Bool) = (6, asks.solves && not (eqb r.dead 0)) ∷ [] in
        test_cases (eqb (first_holding ahead) 0)
        (λ t. first_behind ahead ((6, false) ∷ []) numbered ∙ tested_none (first_holding ahead) (λ k. k) (first_holding ((6, false) ∷ []))
        (eqb-true (first_holding ahead) 0 t) ∙ none)
        (λ t.
        let is = first_behind ahead last numbered ∙ tested_some (first_holding ahead) (λ k. k) (first_holding last) (eqb-false (first_holding ahead) 0 t) in
        absurd (first_among (λ k. k ≡ 6 → ⊥) ahead (λ z. omega (arith, z)) others (sym is ∙ e)))
      where
        none : first_holding ((6, false) ∷ []) ≡ 0
        none = none_first ((6, false) ∷ []) (refl, tt)

    -- so it passes them
    pub six_passed : held_refusal factors store r asks ≡ 6 → Passed factors store r before
    six_passed e = passed factors store r before (earlier e)

    -- THEOREM. Where 6 is given, one does.
    pub six_zero : held_refusal factors store r asks ≡ 6 → zero_on_diagonal factors r.rows ≡ true
    six_zero e =
        let p = six_passed e in
        test_cases (eqb r.dead 0)
        (λ t. absurd (omega (arith, e, passes factors store r asks (solvable p t))))
        (λ t. dead_zero before square p ∙ ap not t)
      where
        solvable : Passed factors store r before → eqb r.dead 0 ≡ true → Passed factors store r asks
        solvable p t =
            record {
              rows = p.rows;
              cols = p.cols;
              sizes = p.sizes;
              shape = p.shape;
              matrix = p.matrix;
              room = p.room;
              lengths = p.lengths;
              list = p.list;
              list_asked = p.list_asked;
              finite = p.finite;
              numbers = p.numbers;
              dead = p.dead;
              solvable = rw (solves, t);
            }
