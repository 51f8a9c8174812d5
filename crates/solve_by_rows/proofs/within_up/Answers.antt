-- The turns that are left when rows up to p are, on what v holds then, give the block solved. Assumes nothing.
use Prim.Native.Nat.{◌+◌, ◌-◌, ◌*◌, ◌≤◌}
use mathlib.Core.Path.{◌≡◌, sym, ◌∙◌}
use native.Mathlib.Omega.{arith}
use lib.ListN.{length}
use Rattle.numbers.specs.Each.{turns_from}
use Rattle.numbers.proofs.Each.{turns_stop}
use Rattle.store.proofs.Columns.{sized, column_within}
use Rattle.solve_by_rows.specs.Rows.{solved_within}
use Rattle.solve_by_rows.proofs.Rows.{turns_by}
use Rattle.solve_by_rows.proofs.Blocks.{up_turn}
use Rattle.solve_by_rows.proofs.within_up.Goals.{In-loop-p}
use Rattle.solve_by_rows.proofs.within_up.Goals as goal

-- in a turn, the column of its row ends within the matrix
within : (c : In-loop-p) → let g = c.args in (g.r + (c.loop-p.p - 1)) * g.n + g.n ≤ length g.t.now
within c =
    let p = c.requires in
    column_within _ _ _ c.args.t.now (omega (arith, p.1)) (sized _ _ _ p.0).size

pub loop-p-init : goal.loop-p-init
unfolding solved_within
loop-p-init c =
    let w = length c.args.v.now in
    let none : w - w ≡ 0 = omega arith in
    rw none

pub loop-p-preserved : goal.loop-p-preserved
unfolding turns_from
loop-p-preserved c =
    let g = c.args in
    let p = c.requires in
    let w = length g.v.now in
    let done = w - c.loop-p.p in
    let row = c.loop-p.p - 1 in
    turns_by _ 1 done c.loop-p.p (w - row) row c.loop-p.v _ (omega arith) (omega arith)
    (up_turn g.n g.t.now (sized _ _ _ p.0).size g.r w done row c.loop-p.v _ (omega arith) (omega arith) p.1 c.axpy.ensures)
    ∙ c.loop-p.invariant

pub returns : goal.returns
returns c = sym (turns_stop _ _ _ _ (omega arith)) ∙ c.loop-p.invariant

pub bounds-t-to : goal.bounds-t-to
bounds-t-to c = omega (arith, within (goal.at.bounds-t-to c).In-loop-p, c.requires.1)

pub slice_bounds-axpy-end-in-loop-p-2 : goal.slice_bounds-axpy-end-in-loop-p-2
slice_bounds-axpy-end-in-loop-p-2 c = omega (arith, within (goal.at.slice_bounds-axpy-end-in-loop-p-2 c).In-loop-p, c.requires.1)
