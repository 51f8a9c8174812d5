-- The dead columns so far, and those from column j on, are all of them. Assumes nothing.
use Prim.Native.Nat.{◌+◌, ◌≤◌}
use mathlib.Core.Path.{◌≡◌}
use lib.ListN.{drop}
use Rattle.store.specs.Columns.{columns}
use Rattle.dead_columns.specs.Dead.{dead_from, dead_in}
use Rattle.dead_columns.proofs.Dead.{diagonals}
use Rattle.dead_columns.proofs.dead_of.Given as goal

abbrev pub invariant-loop-j : goal.invariant-loop-j
invariant-loop-j l = (l.dead ≤ l.j) × (l.dead + dead_from l.j (drop l.j (diagonals l.m l.n l.s)) ≡ dead_in l.m (columns l.m l.n l.s))
