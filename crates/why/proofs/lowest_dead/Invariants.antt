-- What is left to look at from column j on gives the whole answer. Assumes nothing.
use mathlib.Core.Path.{◌≡◌}
use Prim.Native.Nat.{◌*◌}
use lib.ListN.{length, drop}
use Rattle.store.specs.Columns.{columns}
use Rattle.solve.specs.Reason.{lowest_zero}
use Rattle.why.proofs.lowest_dead.Given as goal

abbrev pub invariant-loop-j : goal.invariant-loop-j
invariant-loop-j l = (length l.t ≡ l.n * l.n) × (lowest_zero l.j (drop l.j (columns l.n l.n l.t)) ≡ lowest_zero 0 (columns l.n l.n l.t))
