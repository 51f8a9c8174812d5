-- Those before pair k being good or not, what is left to test from there on gives the whole answer. Assumes nothing.
use mathlib.Core.Path.{◌≡◌}
use mathlib.Core.Bool.{◌&&◌}
use lib.ListN.{drop}
use Rattle.swap_list.specs.SwapList.{pairs_of, good_pairs}
use Rattle.swap_list.proofs.is_good_list.Given as goal

abbrev pub invariant-loop-k : goal.invariant-loop-k
invariant-loop-k l = (l.good && good_pairs l.bound (drop l.k (pairs_of l.pairs l.swaps))) ≡ good_pairs l.bound (pairs_of l.pairs l.swaps)
