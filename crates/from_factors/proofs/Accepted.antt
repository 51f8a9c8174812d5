-- What an accepted factoring hands on: its factors and swaps are those of the elimination, the pairs of its store are the recorded swaps, and its
-- record, factors and store pass the tests of every call that takes them. From its answer alone: no test held before the work, all of the result is
-- finite, and the recorded pairs rise. Assumes nothing.
use mathlib.Core.Path.{◌≡◌, sym, ap, ◌∙◌}
use mathlib.Core.Bool.{true, false, not, ◌&&◌}
use mathlib.Core.List.{List}
use Prim.Native.Nat.{ℕ, ◌≤◌, min}
use native.Mathlib.Omega.{arith}
use borrow.Author.Tests.{eq-eqb}
use lib.Dec.{eqb}
use Rattle.numbers.specs.Column.{Column}
use Rattle.numbers.proofs.Choice.{test_cases}
use Rattle.store.specs.Columns.{columns, flat}
use Rattle.store.proofs.Columns.{is_matrix_lem, columns_flat}
use Rattle.dead_columns.specs.Dead.{dead_in}
use Rattle.refusals.specs.Outcome.{done}
use Rattle.swap_list.specs.SwapList.{pairs_of}
use Rattle.factors.specs.declared.Record.{Record}
use Rattle.factors.specs.declared.Asks.{Asks}
use Rattle.factors.specs.Factors.{Factors, store_of, record_for, Factoring}
use Rattle.factors.specs.Held.{held_refusal}
use Rattle.factors.proofs.Held.{passes}
use Rattle.factors.proofs.Swaps.{length_store, pairs_store}
use Rattle.elimination.specs.Elimination.{eliminate}
use Rattle.elimination.proofs.Recorded.{rising_good}
use Rattle.lu.specs.Factoring.{accepted_as, factoring}
use Rattle.lu.proofs.Told.{passed}
use Rattle.lu.proofs.Shape.{factors_of, wide, shape_f, size_f, rising, few}
use Rattle.adding.proofs.Afresh.{Given, accepted_given}

module _ (m n : ℕ) (a out : Column) (store : List ℕ) (told : Record) (ok : (factoring a m n out store).answer ≡ done told) where
  abbrev f : Factors
  f = factors_of m n a

  abbrev given : Given m n a out store told
  given = accepted_given m n a out store told ok

  -- THEOREM. An accepted factoring leaves the factors and the swaps of the elimination.
  pub accepted_is : factoring a m n out store ≡ accepted_as m n (eliminate m (columns m n a))
  accepted_is = given.is

  -- THEOREM. The columns of its factors are those of the elimination, and the pairs of its store are the recorded swaps.
  pub accepted_columns : columns m n (factoring a m n out store).left.factors ≡ (eliminate m (columns m n a)).columns
  accepted_columns =
      ap (λ (o : Factoring). columns m n o.left.factors) accepted_is
      ∙ ap (λ (k : ℕ). columns m k (flat f.columns)) (sym (wide m n a out store given.none))
      ∙ columns_flat m f.columns (shape_f m n a out store given.none)

  pub accepted_pairs : pairs_of told.pairs (factoring a m n out store).left.store ≡ (eliminate m (columns m n a)).swaps
  accepted_pairs = rw (given.told_is, accepted_is) (pairs_store f.swaps)

  -- what a call may ask
  module _ (asks : Asks) (square : asks.square ≡ true → m ≡ n) (solves : asks.solves ≡ false) (sizes : asks.sizes ≡ true) (lengths : asks.lengths ≡ true)
      (list : asks.list ≡ true) (numbers : asks.numbers ≡ true) where
    shape : (asks.square && not (eqb m n)) ≡ false
    shape = test_cases asks.square (λ t. rw (t, eq-eqb m n (square t))) (λ t. rw t)

    held_columns : columns m n (flat f.columns) ≡ f.columns
    held_columns =
        ap (λ (k : ℕ). columns m k (flat f.columns)) (sym (wide m n a out store given.none)) ∙ columns_flat m f.columns
        (shape_f m n a out store given.none)

    made_passes : held_refusal (flat f.columns) (store_of f.swaps) (record_for m n f) asks ≡ 0
    made_passes =
        let s = passed m n a out store given.none in
        let most : min m n ≤ 64 = omega (arith, s.rows.at_most) in
        passes (flat f.columns) (store_of f.swaps) (record_for m n f) asks
        (record {
          rows = s.rows;
          cols = s.cols;
          sizes = sizes;
          shape = shape;
          matrix = is_matrix_lem m n (flat f.columns) s.rows.at_most s.cols.at_most (size_f m n a out store given.none);
          room = length_store f.swaps (few m n a out store given.none);
          lengths = lengths;
          list = rising_good m (min m n) f.swaps most (rising m n a out store given.none);
          list_asked = list;
          finite = given.finite;
          numbers = numbers;
          dead = ap (dead_in m) (sym held_columns);
          solvable = rw solves;
        })

    -- THEOREM. Its record, factors and store pass the tests of a call that asks for no solve, and for a square matrix only where it is one.
    pub accepted_passes : let o = factoring a m n out store in held_refusal o.left.factors o.left.store told asks ≡ 0
    accepted_passes = rw (given.told_is, accepted_is) made_passes
