-- The columns that are left from column j on give the whole. Assumes nothing.
use mathlib.Core.Path.{◌≡◌}
use Rattle.store.specs.Columns.{columns}
use Rattle.store.specs.Steps.{rows_swapped}
use Rattle.store.proofs.swap_rows.Given as goal

abbrev pub invariant-loop-j : goal.invariant-loop-j
invariant-loop-j l = rows_swapped l.i l.p l.j l.to (columns l.m l.n l.s) ≡ rows_swapped l.i l.p l.from l.to (columns l.m l.n l.initial.s)
