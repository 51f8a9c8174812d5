-- The columns that are left from column j on give the whole; column i, left of them, stays. Assumes nothing.
use mathlib.Core.Path.{◌≡◌}
use Rattle.store.specs.Columns.{columns}
use Rattle.store.specs.Steps.{column}
use Rattle.one_step.specs.OneStep.{step_columns, eliminated}
use Rattle.one_step.proofs.eliminate.Given as goal

abbrev pub invariant-loop-j : goal.invariant-loop-j
invariant-loop-j l =
    (column (columns l.m l.n l.s) l.i ≡ column (columns l.m l.n l.initial.s) l.i)
    × (step_columns l.i (column (columns l.m l.n l.initial.s) l.i) l.j (columns l.m l.n l.s) ≡ eliminated l.i (columns l.m l.n l.initial.s))
