-- After k turns of the loop, v holds the sums over these turns. Assumes nothing.
use Prim.Native.Nat.{◌-◌}
use mathlib.Core.Path.{◌≡◌}
use mathlib.Core.Bool.{not}
use lib.Dec.{eqb}
use Rattle.store.specs.Columns.{columns}
use Rattle.solve_by_rows.specs.Rows.{row_sums}
use Rattle.solve_by_rows.proofs.row_sums.Given as goal

abbrev pub invariant-loop-k : goal.invariant-loop-k
invariant-loop-k g l = l.v ≡ row_sums (not (eqb g.row.UP 0)) l.n (columns l.n l.n l.t) l.b l.r l.k (l.e - l.r)
