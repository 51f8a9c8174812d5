-- Before turn k the first k times four pairs are exchanged. Assumes nothing.
use Prim.Native.Nat.{◌*◌}
use mathlib.Core.Path.{◌≡◌}
use Rattle.store.specs.Columns.{on_columns}
use Rattle.swap_list.specs.SwapList.{pairs_of}
use Rattle.exchanges.specs.Permute.{rows_permuted}
use Rattle.exchanges.proofs.exchange_in_fours.Given as goal

abbrev pub invariant-loop-k : goal.invariant-loop-k
invariant-loop-k l = l.s ≡ on_columns l.m l.n (rows_permuted (pairs_of (4 * l.k) l.swaps)) l.initial.s
