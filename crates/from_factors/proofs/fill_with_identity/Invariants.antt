-- The columns that are left to write from column j on give the identity. Assumes nothing.
use Rattle.from_factors.specs.Solving.{unit_column}
use Rattle.from_factors.proofs.Written.{Written}
use Rattle.from_factors.proofs.fill_with_identity.Given as goal

abbrev pub invariant-loop-j : goal.invariant-loop-j
invariant-loop-j l = Written (unit_column l.n) l.n l.n l.j l.x
