-- The loop over the right-hand columns (`InPlace` of `triangular_passes`). Assumes nothing.
use Rattle.triangular_passes.proofs.InPlace.{Going}
use Rattle.solve_by_rows.specs.Rows.{pass_of}
use Rattle.solve_by_rows.proofs.solve_in_place.Given as goal

abbrev pub invariant-loop-j : goal.invariant-loop-j
invariant-loop-j l = Going (pass_of l.upward) l.n l.k l.t l.initial.b l.j l.b
