-- What is left of the update from row k on gives the whole; column j is lent as its part, an entry a turn. Assumes nothing.
use mathlib.Core.Path.{◌≡◌}
use lib.ListN.{set}
use Rattle.store.specs.Columns.{columns}
use Rattle.store.specs.Steps.{column}
use Rattle.one_step.specs.OneStep.{step_column}
use Rattle.one_step.proofs.Within.{updating}
use Rattle.one_step.proofs.step_inner.Given as goal

abbrev pub invariant-loop-k : goal.invariant-loop-k
invariant-loop-k l =
    updating l.u l.i l.j l.k (columns l.m l.n l.s)
    ≡ set (columns l.m l.n l.initial.s) l.j (step_column l.i (column (columns l.m l.n l.initial.s) l.i) (column (columns l.m l.n l.initial.s) l.j))
