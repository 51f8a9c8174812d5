-- The loop over the right-hand columns (`InPlace`). Assumes nothing.
use Rattle.triangular_passes.proofs.InPlace.{Going}
use Rattle.triangular_passes.proofs.solve_in_place.Given as goal

abbrev pub invariant-loop-j : goal.invariant-loop-j
invariant-loop-j l = Going l.pass l.n l.k l.t l.initial.b l.j l.b
