-- The pairs that are left from turn k on give the whole. Assumes nothing.
use Prim.Native.Nat.{ℕ}
use mathlib.Core.Path.{◌≡◌}
use mathlib.Core.Bool.{Bool}
use mathlib.Core.List.{List}
use lib.ListN.{drop}
use Rattle.numbers.specs.Column.{Column}
use Rattle.swap_list.specs.SwapList.{pairs_of}
use Rattle.exchanges.specs.Permute.{permuted_by, exchange_of, in_order}
use Rattle.exchanges.proofs.OnColumns.{on_slice}
use Rattle.exchanges.proofs.apply.Given as goal

-- the turns from turn k on
abbrev pub turns_left : ℕ → Bool → Bool → ℕ → ℕ → ℕ → List ℕ → Column → Column
turns_left k columns reverse m n pairs swaps s = permuted_by (on_slice (exchange_of columns) m n) (drop k (in_order reverse (pairs_of pairs swaps))) s

abbrev pub invariant-loop-k : goal.invariant-loop-k
invariant-loop-k l =
    turns_left l.k l.columns l.reverse l.m l.n l.pairs l.swaps l.s ≡ turns_left 0 l.columns l.reverse l.m l.n l.pairs l.swaps l.initial.s
