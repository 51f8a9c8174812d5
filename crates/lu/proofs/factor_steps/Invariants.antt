-- After each step the slices hold the factors of that step, whatever was held before; the steps that are left give the whole. Assumes nothing.
use Prim.Native.Nat.{◌+◌, ◌-◌, ◌≤◌}
use mathlib.Core.Path.{◌≡◌}
use Rattle.numbers.specs.Each.{turns_from}
use Rattle.factors.specs.Factors.{Factors}
use Rattle.elimination.specs.Elimination.{step}
use Rattle.lu.specs.Inner.{Held}
use Rattle.elimination.specs.TossUps.{toss_from}
use Rattle.lu.proofs.factor_steps.Given as goal

abbrev pub invariant-loop-i : goal.invariant-loop-i
invariant-loop-i l =
    ((l.now.pairs ≤ l.i) × (l.now.tossed ≤ l.i)
    × (l.initial.now.pairs ≤ l.now.pairs))
    × ((f : Factors) → Held l.initial.s l.m l.n l.initial.swaps l.initial.now.pairs f → (g : Factors) × (Held l.s l.m l.n l.swaps l.now.pairs
    g × (turns_from step l.i (l.to - l.i) g ≡ turns_from step l.from (l.to - l.from) f) × (l.now.tossed + toss_from l.i (l.to - l.i) g
    ≡ l.initial.now.tossed + toss_from l.from
    (l.to - l.from) f)))
