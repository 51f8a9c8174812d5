-- By the test for one row and the test for room. Assumes nothing.
use mathlib.Core.Path.{refl}
use native.Mathlib.Omega.{arith}
use borrow.Author.Tests.{eq-eqb, ne_eqb, lt-ltb, le-ltb}
use lib.ListN.{length-set}
use Rattle.swap_list.specs.SwapList.{with_pair}
use Rattle.factors.specs.Factors.{takes_pair, pairs_with, store_with}
use Rattle.factors.proofs.record_swap.Goals as goal

pub returns-then-piv-i : goal.returns-then-piv-i
unfolding pairs_with store_with takes_pair
returns-then-piv-i c = record { value = rw (eq-eqb _ _ c.if-piv-i.true) refl; swaps_after = rw (eq-eqb _ _ c.if-piv-i.true) refl }

pub returns-then-swaps-pairs : goal.returns-then-swaps-pairs
unfolding pairs_with store_with takes_pair
returns-then-swaps-pairs c =
    record {
      value = rw (ne_eqb _ _ c.if-piv-i.false, le-ltb _ _ c.if-swaps-pairs.true) refl;
      swaps_after = rw (ne_eqb _ _ c.if-piv-i.false, le-ltb _ _ c.if-swaps-pairs.true) refl;
    }

pub bounds-swaps-pairs-2 : goal.bounds-swaps-pairs-2
bounds-swaps-pairs-2 c = simp length-set (omega arith)

pub returns : goal.returns
unfolding pairs_with store_with takes_pair with_pair
returns c =
    record {
      value = rw (ne_eqb _ _ c.if-piv-i.false, lt-ltb _ _ c.if-swaps-pairs.false) refl;
      swaps_after = rw (ne_eqb _ _ c.if-piv-i.false, lt-ltb _ _ c.if-swaps-pairs.false) refl;
    }
