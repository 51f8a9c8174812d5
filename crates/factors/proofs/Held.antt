-- What a call on factors knows where its tests pass, and that such a call passes them: both by the tests in their order. Assumes nothing.
use mathlib.Core.Path.{◌≡◌, refl, sym, ap, ◌∙◌}
use mathlib.Core.Bool.{Bool, true, false, not, ◌&&◌, ◌||◌}
use mathlib.Core.List.{List}
use Prim.Native.Nat.{ℕ, suc, ◌<◌, min}
use native.Mathlib.Omega.{arith}
use borrow.Author.Tests.{eqb-true, eq-eqb, not-false, lt-leb}
use lib.Dec.{eqb, leb}
use lib.ListN.{length}
use Rattle.numbers.specs.Column.{Column}
use Rattle.finite.specs.Finite.{all_finite}
use Rattle.numbers.proofs.Choice.{test_cases, and_first, and_second}
use Rattle.store.specs.Columns.{columns, is_matrix}
use Rattle.dead_columns.specs.Dead.{dead_in}
use Rattle.dead_columns.proofs.Dead.{held_dead}
use Rattle.refusals.specs.Outcome.{first_holding}
use Rattle.refusals.specs.Refusals.{outside}
use Rattle.refusals.proofs.Outcomes.{Numbered, first_none, none_first}
use Rattle.refusals.proofs.Tests.{neither, Inside, inside, not_outside}
use Rattle.swap_list.specs.SwapList.{good_list}
use Rattle.factors.specs.declared.Record.{Record}
use Rattle.factors.specs.declared.Asks.{Asks}
use Rattle.factors.specs.Held.{held_tests, held_refusal}

module _ (factors : Column) (store : List ℕ) (r : Record) (asks : Asks) where
  pub record Passed : Type 0 where
    pub rows : Inside 1 r.rows
    pub cols : Inside 0 r.columns
    pub sizes : asks.sizes ≡ true
    pub shape : (asks.square && not (eqb r.rows r.columns)) ≡ false
    pub matrix : is_matrix factors r.rows r.columns ≡ true
    pub room : length store ≡ 128
    pub lengths : asks.lengths ≡ true
    pub list : good_list store r.pairs r.rows (min r.rows r.columns) ≡ true
    pub list_asked : asks.list ≡ true
    pub finite : all_finite factors ≡ true
    pub numbers : asks.numbers ≡ true
    pub dead : r.dead ≡ dead_in r.rows (columns r.rows r.columns factors)
    pub solvable : (asks.solves && not (eqb r.dead 0)) ≡ false

  numbered : Numbered (held_tests factors store r asks)
  numbered = (some 0, (some 1, (some 2, (some 3, (some 4, (some 8, (some 5, tt)))))))
    where
      some : (k : ℕ) → suc k ≡ 0 → ⊥
      some k e = omega (arith, e)

  pub passed : held_refusal factors store r asks ≡ 0 → Passed
  unfolding held_refusal
  passed e =
      let m = r.rows in
      let n = r.columns in
      let fit = is_matrix factors m n in
      let room = eqb (length store) 128 in
      let good = good_list store r.pairs m (min m n) in
      let t = first_none (held_tests factors store r asks) numbered e in
      let sizes = neither (outside 1 m || outside 0 n) (not asks.sizes) t.0 in
      let both = neither (outside 1 m) (outside 0 n) sizes.0 in
      let lengths = not-false (fit && room && asks.lengths) t.1.1.0 in
      let two = and_first (fit && room) asks.lengths lengths in
      let list = not-false (good && asks.list) t.1.1.1.0 in
      let numbers = not-false (all_finite factors && asks.numbers) t.1.1.1.1.0 in
      record {
        rows = inside 1 m both.0;
        cols = inside 0 n both.1;
        sizes = not-false asks.sizes sizes.1;
        shape = t.1.0;
        matrix = and_first fit room two;
        room = eqb-true (length store) 128 (and_second fit room two);
        lengths = and_second (fit && room) asks.lengths lengths;
        list = and_first good asks.list list;
        list_asked = and_second good asks.list list;
        finite = and_first (all_finite factors) asks.numbers numbers;
        numbers = and_second (all_finite factors) asks.numbers numbers;
        dead = eqb-true _ _ (not-false _ t.1.1.1.1.1.0) ∙ held_dead m n factors (and_first fit room two);
        solvable = t.1.1.1.1.1.1.0;
      }

  pub passes : Passed → held_refusal factors store r asks ≡ 0
  unfolding held_refusal
  passes p =
      let sizes = not_outside 1 r.rows p.rows.at_least p.rows.at_most in
      let columns = not_outside 0 r.columns p.cols.at_least p.cols.at_most in
      let room = eq-eqb (length store) 128 p.room in
      let dead = eq-eqb r.dead _ (p.dead ∙ sym (held_dead r.rows r.columns factors p.matrix)) in
      none_first (held_tests factors store r asks) (
        rw (sizes, columns, p.sizes),
        (
          p.shape,
          (
            rw (p.matrix, room, p.lengths),
            (rw (p.list, p.list_asked), (rw (p.finite, p.numbers), (rw dead, (p.solvable, tt)))),
          ),
        ),
      )

-- a square matrix has as many rows as columns, so a call that asks for one knows its factors and its list by the rows alone
pub square_is : (m n : ℕ) → (true && not (eqb m n)) ≡ false → m ≡ n
square_is m n e = eqb-true m n (not-false (eqb m n) e)

module _ (factors : Column) (store : List ℕ) (r : Record) (asks : Asks) (is : asks.square ≡ true) (p : Passed factors store r asks) where
  pub same : r.rows ≡ r.columns
  same = square_is r.rows r.columns (rw is at p.shape)

  pub square_matrix : is_matrix factors r.rows r.rows ≡ true
  square_matrix = ap (λ (n : ℕ). is_matrix factors r.rows n) same ∙ p.matrix

  pub square_list : good_list store r.pairs r.rows r.rows ≡ true
  square_list =
      let least : r.rows ≡ min r.rows r.columns = let e = same in omega arith in
      ap (λ (n : ℕ). good_list store r.pairs r.rows n) least ∙ p.list

-- a matrix has no more than 64 columns
pub too_wide : (m n : ℕ) (s : Column) → 64 < n → is_matrix s m n ≡ false
unfolding is_matrix
too_wide m n s h = let more = lt-leb n 64 h in test_cases (leb m 64) (λ t. rw (t, more)) (λ t. rw t)

-- where a further length differs, the factors are not looked at
and_false : (t u : Bool) → u ≡ false → (t && u) ≡ false
and_false true u e = e
and_false false u e = refl

pub unread : (a b : Column) (store : List ℕ) (r : Record) (asks : Asks) → asks.lengths ≡ false → held_refusal a store r asks ≡ held_refusal b store r asks
unfolding held_refusal first_holding
unread a b store r asks e = rw (and_false _ asks.lengths e, and_false _ asks.lengths e)
