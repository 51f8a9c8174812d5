-- One after the other. Assumes nothing.
use native.Mathlib.Omega.{arith}
use lib.ListN.{length-set}
use Rattle.four_steps.proofs.write_two.Goals as goal

pub bounds-col-k1 : goal.bounds-col-k1
bounds-col-k1 c = simp length-set (omega arith)
