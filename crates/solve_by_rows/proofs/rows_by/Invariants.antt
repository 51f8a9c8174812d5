-- The turns that are left from turn k on, on what the column holds then, give all from `from` on, and whole blocks are left. Assumes nothing.
use Prim.Native.Nat.{◌-◌, ◌%◌, ◌≤◌}
use mathlib.Core.Path.{◌≡◌}
use Rattle.solve_by_rows.specs.Rows.{rows_from}
use Rattle.solve_by_rows.proofs.rows_by.Given as goal

abbrev pub invariant-loop-k : goal.invariant-loop-k
invariant-loop-k g l = (l.k ≤ l.to) × ((l.to - l.k) % g.row.N ≡ 0) × (rows_from l.upward l.n l.t l.k l.b ≡ rows_from l.upward l.n l.t l.from l.initial.b)
