-- The pairs that are left from turn k on give the whole. Assumes nothing.
use mathlib.Core.Path.{◌≡◌}
use mathlib.Core.Bool.{false}
use lib.ListN.{drop}
use Rattle.swap_list.specs.SwapList.{pairs_of}
use Rattle.exchanges.specs.Permute.{permute, in_order}
use Rattle.exchanges.proofs.apply_to_column.Given as goal

abbrev pub invariant-loop-k : goal.invariant-loop-k
invariant-loop-k l =
    permute (drop l.k (in_order false (pairs_of l.pairs l.swaps))) l.col ≡ permute (pairs_of l.pairs l.swaps) l.initial.col
