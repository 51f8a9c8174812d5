-- By the four packed numbers (`live_found`). Assumes nothing.
use Prim.Native.Nat.{◌*◌, ◌+◌, ◌≤◌}
use native.Mathlib.Omega.{arith}
use lib.ListN.{length}
use Rattle.store.proofs.Columns.{sized, column_within}
use Rattle.updates.proofs.Updates.{live_found}
use Rattle.updates.proofs.are_live.Goals.{After-shared_slice_known-1}
use Rattle.updates.proofs.are_live.Goals as goal

-- the four columns end within the store, and have row i + 3
within : (c : After-shared_slice_known-1) → let g = c.args in
    (g.i * g.m + g.m ≤ length g.s.now) × ((g.i + 1) * g.m + g.m ≤ length g.s.now) × ((g.i + 2) * g.m + g.m ≤ length
    g.s.now) × ((g.i + 3) * g.m + g.m ≤ length g.s.now) × (g.i + 4 ≤ g.m)
within c =
    let g = c.args in
    let size = (sized _ _ _ c.requires.0).size in (
      column_within _ _ _ g.s.now (omega arith) size,
      column_within _ _ _ g.s.now (omega arith) size,
      column_within _ _ _ g.s.now (omega arith) size,
      column_within _ _ _ g.s.now (omega arith) size,
      c.requires.1,
    )

pub returns : goal.returns
returns c =
    live_found _ _ _ _ _ _ _ _ c.requires.1 c.requires.2 c.is_zero.ensures
    c.is_zero-2.ensures c.is_zero-3.ensures c.is_zero-4.ensures

pub overflow_mul-i : goal.overflow_mul-i
overflow_mul-i c = omega (arith, within c)

pub overflow_add-i : goal.overflow_add-i
overflow_add-i c = omega (arith, within c)

pub offset_bounds-s-i : goal.offset_bounds-s-i
offset_bounds-s-i c = omega (arith, within c)

pub bounds-s-i : goal.bounds-s-i
bounds-s-i c = omega (arith, within (goal.at.bounds-s-i c).After-shared_slice_known-1)

pub overflow_mul-i1 : goal.overflow_mul-i1
overflow_mul-i1 c = omega (arith, within (goal.at.overflow_mul-i1 c).After-shared_slice_known-1)

pub overflow_add-i1-2 : goal.overflow_add-i1-2
overflow_add-i1-2 c = omega (arith, within (goal.at.overflow_add-i1-2 c).After-shared_slice_known-1)

pub offset_bounds-s-i1 : goal.offset_bounds-s-i1
offset_bounds-s-i1 c = omega (arith, within (goal.at.offset_bounds-s-i1 c).After-shared_slice_known-1)

pub bounds-s-i1 : goal.bounds-s-i1
bounds-s-i1 c = omega (arith, within (goal.at.bounds-s-i1 c).After-shared_slice_known-1)

pub overflow_mul-i2 : goal.overflow_mul-i2
overflow_mul-i2 c = omega (arith, within (goal.at.overflow_mul-i2 c).After-shared_slice_known-1)

pub overflow_add-i2-2 : goal.overflow_add-i2-2
overflow_add-i2-2 c = omega (arith, within (goal.at.overflow_add-i2-2 c).After-shared_slice_known-1)

pub offset_bounds-s-i2 : goal.offset_bounds-s-i2
offset_bounds-s-i2 c = omega (arith, within (goal.at.offset_bounds-s-i2 c).After-shared_slice_known-1)

pub bounds-s-i2 : goal.bounds-s-i2
bounds-s-i2 c = omega (arith, within (goal.at.bounds-s-i2 c).After-shared_slice_known-1)

pub overflow_mul-i3 : goal.overflow_mul-i3
overflow_mul-i3 c = omega (arith, within (goal.at.overflow_mul-i3 c).After-shared_slice_known-1)

pub overflow_add-i3-2 : goal.overflow_add-i3-2
overflow_add-i3-2 c = omega (arith, within (goal.at.overflow_add-i3-2 c).After-shared_slice_known-1)

pub offset_bounds-s-i3 : goal.offset_bounds-s-i3
offset_bounds-s-i3 c = omega (arith, within (goal.at.offset_bounds-s-i3 c).After-shared_slice_known-1)

pub bounds-s-i3 : goal.bounds-s-i3
bounds-s-i3 c = omega (arith, within (goal.at.bounds-s-i3 c).After-shared_slice_known-1)
