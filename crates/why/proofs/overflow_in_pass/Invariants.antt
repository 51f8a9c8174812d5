-- After j columns, what is left gives the first result that is not finite and the solved columns (`Passing`). Assumes nothing.
use mathlib.Core.Path.{◌≡◌}
use Prim.Native.Nat.{◌*◌}
use lib.ListN.{length}
use Rattle.store.specs.Columns.{columns}
use Rattle.why.proofs.Pass.{Passing}
use Rattle.why.proofs.overflow_in_pass.Given as goal

abbrev pub invariant-loop-j : goal.invariant-loop-j
invariant-loop-j l = (length l.x ≡ l.k * l.n) × Passing l.pass l.n l.k (columns l.n l.n l.t) (columns l.n l.k l.initial.x)
    (columns l.n l.k l.x) l.j
