-- What holds of the greatest row so far (`Searched`) holds from turn to turn, and at the end it is the answer. Assumes nothing.
use Prim.Native.Nat.{◌+◌, ◌-◌, ◌<◌}
use mathlib.Core.Path.{◌≡◌}
use lib.ListN.{length, drop}
use Rattle.numbers.specs.Numbers.{magnitude}
use Rattle.numbers.specs.Column.{entry}
use Rattle.min_max.specs.TossUp.{above_from}
use Rattle.min_max.proofs.OnePass.{Searched}
use Rattle.min_max.proofs.icamax.Given as goal

abbrev pub invariant-loop-i : goal.invariant-loop-i
invariant-loop-i l =
    Searched l.col l.from (magnitude (entry l.col l.the_i)) l.the_i l.the_i (l.the_i + 1) × (l.the_i < length l.col)
    × (l.i ≡ above_from (magnitude (entry l.col l.the_i)) (l.the_i + 1) (drop (l.the_i + 1) l.col))

abbrev pub decreases-loop-i : goal.decreases-loop-i
decreases-loop-i l = length l.col - l.i
