-- The blocks that are left from block j on, and then the rest, give the whole sum. Assumes nothing.
use Prim.Native.Nat.{◌-◌, ◌/◌}
use mathlib.Core.Path.{◌≡◌}
use lib.ListN.{length}
use Rattle.numbers.specs.Each.{turns_from}
use Rattle.blas.specs.Dot.{add_block, eight_sums}
use Rattle.blas.proofs.dot.Given as goal

abbrev pub invariant-loop-j : goal.invariant-loop-j
invariant-loop-j l = turns_from (add_block l.x l.y) l.j (length l.x / 8 - l.j) l.acc ≡ eight_sums l.x l.y
