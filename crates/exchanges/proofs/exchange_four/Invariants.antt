-- The columns that are left from column j on give the whole. Assumes nothing.
use Prim.Native.Nat.{ℕ}
use mathlib.Core.Path.{◌≡◌}
use Rattle.numbers.specs.Each.{each_from}
use Rattle.numbers.specs.Column.{Column}
use Rattle.store.specs.Columns.{columns}
use Rattle.swap_list.specs.SwapList.{Swaps, pairs_of}
use Rattle.exchanges.specs.Permute.{permute}
use Rattle.exchanges.proofs.exchange_four.Given as goal

-- what becomes of a column
abbrev pub in_column : Swaps → ℕ → Column → Column
in_column swaps j c = permute swaps c

abbrev pub invariant-loop-j : goal.invariant-loop-j
invariant-loop-j l =
    each_from (in_column (pairs_of 4 l.four)) l.j (columns l.m l.n l.s) ≡ each_from (in_column (pairs_of 4 l.four)) 0 (columns l.m l.n l.initial.s)
