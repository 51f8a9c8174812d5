-- Rows swapped, column i scaled, the columns to the right updated (`gauss_done`). Assumes nothing.
use Prim.Native.Nat.{◌*◌, ◌+◌, ◌≤◌}
use native.Mathlib.Omega.{arith}
use lib.ListN.{length}
use Rattle.store.proofs.Columns.{sized, column_within}
use Rattle.lu.proofs.Slices.{gauss_done}
use Rattle.lu.proofs.gauss_step.Goals.{After-slice_known-1}
use Rattle.lu.proofs.gauss_step.Goals as goal

-- column i ends within the store
within : (c : After-slice_known-1) → c.args.i * c.args.m + c.args.m ≤ length c.args.s.now
within c = column_within _ _ _ c.args.s.now c.requires.2 (sized _ _ _ c.requires.0).size

pub returns : goal.returns
returns c =
    gauss_done _ _ _ _ _ c.requires.0 c.requires.1 c.requires.2 _ _ _ c.swap_rows.auto.s c.swap_rows.ensures
    c.scale.auto.col c.scale.ensures c.eliminate.ensures

pub overflow_mul-a : goal.overflow_mul-a
overflow_mul-a c = omega (arith, within c)

pub overflow_add-e : goal.overflow_add-e
overflow_add-e c = omega (arith, within c)

pub overflow_add-q : goal.overflow_add-q
overflow_add-q c = omega (arith, within c)

pub offset_bounds-s-q : goal.offset_bounds-s-q
offset_bounds-s-q c = omega (arith, within (goal.at.offset_bounds-s-q c).After-slice_known-1)

pub bounds-s-q : goal.bounds-s-q
bounds-s-q c = omega (arith, within (goal.at.bounds-s-q c).After-slice_known-1)

pub offset_bounds-s-a : goal.offset_bounds-s-a
offset_bounds-s-a c = omega (arith, within (goal.at.offset_bounds-s-a c).After-slice_known-1)

pub slice_bounds-scale-count : goal.slice_bounds-scale-count
slice_bounds-scale-count c = omega (arith, within (goal.at.slice_bounds-scale-count c).After-slice_known-1)

pub slice_bounds-scale-start : goal.slice_bounds-scale-start
slice_bounds-scale-start c = omega (arith, within (goal.at.slice_bounds-scale-start c).After-slice_known-1)

pub slice_bounds-scale-end : goal.slice_bounds-scale-end
slice_bounds-scale-end c = omega (arith, within (goal.at.slice_bounds-scale-end c).After-slice_known-1)

pub overflow_add-i : goal.overflow_add-i
overflow_add-i c = omega (arith, within (goal.at.overflow_add-i c).After-slice_known-1)
