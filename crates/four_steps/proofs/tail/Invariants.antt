-- What is left of column j, the rows from row k on, gives the whole; behind the last row nothing is (`none_left`). Assumes nothing.
use Prim.Native.Nat.{◌+◌}
use mathlib.Core.Path.{◌≡◌}
use Rattle.store.specs.Columns.{columns}
use Rattle.store.specs.Steps.{column}
use Rattle.four_steps.specs.FourSteps.{minus_of, tail_left}
use Rattle.four_steps.proofs.tail.Given as goal

abbrev pub invariant-loop-k : goal.invariant-loop-k
invariant-loop-k l =
    (l.f ≡ minus_of l.i (column (columns l.m l.n l.s) l.j))
    × (tail_left l.i l.j l.k (columns l.m l.n l.s) ≡ tail_left l.i l.j (l.i + 4) (columns l.m l.n l.initial.s))
