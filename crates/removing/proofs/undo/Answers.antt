-- The rows exchanged, and the two numbers written. Assumes nothing.
use native.Mathlib.Omega.{arith}
use lib.ListN.{length-set}
use Rattle.removing.proofs.undo.Goals as goal

pub bounds-swaps-pairs-3 : goal.bounds-swaps-pairs-3
bounds-swaps-pairs-3 c = simp length-set (omega arith)
