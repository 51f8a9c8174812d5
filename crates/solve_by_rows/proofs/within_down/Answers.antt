-- The turns that are left from turn p on, on what v holds then, give the block solved. Assumes nothing.
use Prim.Native.Nat.{◌+◌}
use mathlib.Core.Path.{refl, sym, ◌∙◌}
use native.Mathlib.Omega.{arith}
use Rattle.numbers.proofs.Each.{turns_begin, turns_next, turns_done}
use Rattle.store.proofs.Columns.{sized, column_within}
use Rattle.solve_by_rows.specs.Rows.{solved_within}
use Rattle.solve_by_rows.proofs.Blocks.{down_turn}
use Rattle.solve_by_rows.proofs.within_down.Goals as goal

pub loop-p-init : goal.loop-p-init
unfolding solved_within
loop-p-init c = turns_begin _ _ _

pub loop-p-preserved : goal.loop-p-preserved
loop-p-preserved c =
    let g = c.args in
    let p = c.requires in
    let h = c.loop-p-test.true in
    turns_next _ _ _ _ _ h (c.axpy.ensures ∙ down_turn g.n g.t.now (sized _ _ _ p.0).size g.r _ _ _ c.loop-p.v h refl p.1) ∙ c.loop-p.invariant

pub returns : goal.returns
returns c = sym (turns_done _ _ _ _ c.loop-p-test.false) ∙ c.loop-p.invariant

pub slice_bounds-axpy-end : goal.slice_bounds-axpy-end
slice_bounds-axpy-end c =
    let p = c.requires in
    omega (arith, column_within _ _ (c.args.r + c.loop-p.p) c.args.t.now (omega (arith, p.1)) (sized _ _ _ p.0).size)
