-- After k turns of the loop, v holds the sums over these turns. Assumes nothing.
use Prim.Native.Nat.{◌+◌, ◌*◌, ◌≤◌, ◌<◌}
use mathlib.Core.Path.{◌≡◌, ◌∙◌}
use native.Mathlib.Omega.{arith}
use lib.ListN.{length}
use Rattle.store.proofs.Columns.{sized, column_within}
use Rattle.solve_by_rows.proofs.Rows.{row_below}
use Rattle.solve_by_rows.proofs.Blocks.{sums_begin, sums_next}
use Rattle.solve_by_rows.proofs.row_sums.Given.{Over}
use Rattle.solve_by_rows.proofs.row_sums.Goals.{After-row_of-c}
use Rattle.solve_by_rows.proofs.row_sums.Goals as goal

-- in a turn, its row is below n, and that row's column ends within the matrix
below : (g : Over) (c : After-row_of-c g) → c.row_of-c.result < c.args.n
below g c =
    let a = c.args in
    rw c.row_of-c.ensures (row_below _ a.n _ (omega (arith, c.loop-k-test.true, c.requires.3)))

within : (g : Over) (c : After-row_of-c g) → let a = c.args in
    (c.row_of-c.result * a.n + a.n ≤ length a.t.now) × (c.row_of-c.result < a.n) × (a.n ≤ 64) × (length a.b.now ≡ a.n)
    × (a.r + length a.v.now ≤ a.n)
within g c =
    let p = c.requires in
    let fits = sized _ _ _ p.0 in
    (column_within _ _ _ c.args.t.now (below g c) fits.size, below g c, fits.rows_most, p.1, p.2)

pub loop-k-init : goal.loop-k-init
loop-k-init g c =
    let a = c.args in
    let p = c.requires in
    c.copy.ensures ∙ sums_begin a.n a.t.now (sized _ _ _ p.0).size _ a.b.now a.v.now a.r _ p.1 (omega arith) (omega (arith, p.2))

pub loop-k-preserved : goal.loop-k-preserved
loop-k-preserved g c =
    let a = c.args in
    let p = c.requires in
    c.axpy.ensures
    ∙ sums_next a.n a.t.now (sized _ _ _ p.0).size _ a.b.now c.loop-k.v a.r _ _ _ _ c.loop-k.invariant
    c.row_of-c.ensures (omega (arith, c.loop-k-test.true, p.3)) (omega arith) p.2

pub overflow_mul-a : goal.overflow_mul-a
overflow_mul-a g c = omega (arith, within g c)

pub overflow_add-from : goal.overflow_add-from
overflow_add-from g c = omega (arith, within g c)

pub overflow_add-to : goal.overflow_add-to
overflow_add-to g c = omega (arith, within g c)

pub offset_bounds-b-c : goal.offset_bounds-b-c
offset_bounds-b-c g c = omega (arith, within g (goal.at.offset_bounds-b-c g c).After-row_of-c)

pub bounds-b-c : goal.bounds-b-c
bounds-b-c g c = omega (arith, within g (goal.at.bounds-b-c g c).After-row_of-c)

pub offset_bounds-t-from : goal.offset_bounds-t-from
offset_bounds-t-from g c = omega (arith, within g (goal.at.offset_bounds-t-from g c).After-row_of-c)

pub slice_bounds-axpy-end : goal.slice_bounds-axpy-end
slice_bounds-axpy-end g c = omega (arith, within g (goal.at.slice_bounds-axpy-end g c).After-row_of-c)
