-- What is left at row k gives the whole. Assumes nothing.
use Prim.Native.Nat.{◌-◌, ◌≤◌}
use mathlib.Core.Path.{◌≡◌}
use lib.ListN.{length, drop}
use Rattle.min_max.specs.TossUp.{above_from}
use Rattle.min_max.proofs.next_above.Given as goal

abbrev pub invariant-loop-k : goal.invariant-loop-k
invariant-loop-k l = (l.k ≤ length l.col) × (above_from l.top l.k (drop l.k l.col) ≡ above_from l.top l.from (drop l.from l.col))

abbrev pub decreases-loop-k : goal.decreases-loop-k
decreases-loop-k l = length l.col - l.k
