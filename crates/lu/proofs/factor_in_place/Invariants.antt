-- After each panel the slices hold the factors of its last step; the steps that are left give the elimination. Assumes nothing.
use Prim.Native.Nat.{◌+◌, ◌-◌, ◌≤◌, min}
use mathlib.Core.Path.{◌≡◌}
use Rattle.numbers.specs.Each.{turns_from}
use Rattle.store.specs.Columns.{columns}
use Rattle.factors.specs.Factors.{Factors}
use Rattle.elimination.specs.Elimination.{step, eliminate}
use Rattle.lu.specs.Inner.{Held}
use Rattle.elimination.specs.TossUps.{toss_from, toss_ups}
use Rattle.lu.proofs.factor_in_place.Given as goal

abbrev pub invariant-loop-i : goal.invariant-loop-i
invariant-loop-i l =
    (l.i ≤ min l.m l.n) × ((l.counts.pairs ≤ l.i) × (l.counts.tossed ≤ l.i))
    × ((f : Factors) × (Held l.s l.m l.n l.swaps l.counts.pairs f × (turns_from step l.i (min l.m l.n - l.i) f
    ≡ eliminate l.m (columns l.m l.n l.initial.s)) × (l.counts.tossed + toss_from l.i
    (min l.m l.n - l.i) f ≡ toss_ups l.m (columns l.m l.n l.initial.s))))

abbrev pub decreases-loop-i : goal.decreases-loop-i
decreases-loop-i l = l.min_nrows_ncols - l.i
