-- Those before pair k being good or not, what is left to test from there on gives the whole answer. Assumes nothing.
use Prim.Native.Nat.{◌*◌}
use mathlib.Core.Path.{◌∙◌}
use native.Mathlib.Omega.{arith}
use borrow.Author.Tests.{le-leb, lt-leb}
use lib.ListN.{length}
use Rattle.swap_list.specs.SwapList.{holds, good_list}
use Rattle.swap_list.proofs.SwapList.{good_turn, good_end}
use Rattle.swap_list.proofs.is_good_list.Goals as goal

pub returns-then-most-pairs : goal.returns-then-most-pairs
unfolding good_list
returns-then-most-pairs c = rw (lt-leb _ _ c.if-most-pairs.true)

pub returns-then-swaps-pairs : goal.returns-then-swaps-pairs
unfolding good_list holds
returns-then-swaps-pairs c = rw (le-leb _ _ c.if-most-pairs.false, lt-leb (2 * c.args.pairs) (length c.args.swaps.now) (omega arith))

pub loop-k-preserved : goal.loop-k-preserved
loop-k-preserved c =
    let g = c.args in
    good_turn g.bound g.pairs g.swaps.now c.loop-k.k c.loop-k-test.true c.loop-k.good c.is_good_pair-good.result
    c.is_good_pair-good.ensures ∙ c.loop-k.invariant

pub returns : goal.returns
unfolding good_list holds
returns c =
    rw (le-leb _ _ c.if-most-pairs.false, le-leb (2 * c.args.pairs) (length c.args.swaps.now) (omega arith))
    (good_end _ _ _ _ c.loop-k-test.false _ ∙ c.loop-k.invariant)
