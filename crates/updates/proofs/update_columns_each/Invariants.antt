-- The columns that are left from column j on give the whole; those of the panel stay. Assumes nothing.
use Prim.Native.Nat.{ℕ, ◌+◌, ◌-◌, ◌<◌}
use mathlib.Core.Path.{◌≡◌}
use Rattle.numbers.specs.Each.{each_from, turns_from}
use Rattle.store.specs.Columns.{columns}
use Rattle.store.specs.Steps.{column}
use Rattle.elimination.specs.Adding.{update}
use Rattle.updates.specs.Updates.{after_panel}
use Rattle.updates.proofs.update_columns_each.Given as goal

abbrev pub invariant-loop-j : goal.invariant-loop-j
invariant-loop-j l =
    ((q : ℕ) → q < l.i + (l.to - l.i) → column (columns l.m l.n l.s) q ≡ column (columns l.m l.n l.initial.s) q)
    × (each_from (λ k c. turns_from (update (columns l.m l.n l.initial.s)) l.i (l.to - l.i) c) l.j (columns l.m l.n l.s)
    ≡ after_panel l.i (l.to - l.i) l.from (columns l.m l.n l.initial.s))
