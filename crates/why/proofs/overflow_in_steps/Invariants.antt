-- After i steps, what is left to store gives the whole answer (`Stepping`). Assumes nothing.
use Rattle.why.proofs.Steps.{Stepping}
use Rattle.why.proofs.overflow_in_steps.Given as goal

abbrev pub invariant-loop-i : goal.invariant-loop-i
invariant-loop-i l = Stepping l.m l.n l.initial.s l.s l.i
