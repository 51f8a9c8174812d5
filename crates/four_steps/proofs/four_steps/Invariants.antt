-- The columns that are left from column j on give the whole (`onward_turn`); the four columns stay. Assumes nothing.
use Prim.Native.Nat.{ℕ, ◌+◌, ◌-◌, ◌≤◌, ◌<◌}
use mathlib.Core.Path.{◌≡◌}
use lib.ListN.{length}
use Rattle.numbers.specs.Each.{each_from}
use Rattle.store.specs.Columns.{columns}
use Rattle.store.specs.Steps.{column}
use Rattle.four_steps.specs.FourSteps.{four_steps}
use Rattle.four_steps.proofs.four_steps.Given as goal

abbrev pub invariant-loop-j : goal.invariant-loop-j
invariant-loop-j l = (length l.s ≡ length l.initial.s) × (l.i + 4 ≤ l.j) × ((k : ℕ) → k < l.i + 4 → column (columns l.m l.n l.s) k
    ≡ column (columns l.m l.n l.initial.s) k)
    × (each_from (λ k c. four_steps l.i (columns l.m l.n l.initial.s) c) l.j (columns l.m l.n l.s)
    ≡ each_from (λ k c. four_steps l.i (columns l.m l.n l.initial.s) c) l.from (columns l.m l.n l.initial.s))

abbrev pub decreases-loop-j : goal.decreases-loop-j
decreases-loop-j l = l.n - l.j
