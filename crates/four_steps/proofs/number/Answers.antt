-- The number by those that are read (`number_read`). Assumes nothing.
use Prim.Native.Nat.{◌*◌, ◌+◌, ◌≤◌, ◌<◌}
use native.Mathlib.Omega.{arith}
use lib.ListN.{length}
use Rattle.store.proofs.Columns.{sized, column_within}
use Rattle.four_steps.proofs.Places.{number_read}
use Rattle.four_steps.proofs.number.Goals.{Start}
use Rattle.four_steps.proofs.number.Goals as goal

-- the five columns that are read end within the store, and have row r
within : (c : Start) → let g = c.args in
    (g.i * g.m + g.m ≤ length g.s.now) × ((g.i + 1) * g.m + g.m ≤ length g.s.now) × ((g.i + 2) * g.m + g.m ≤ length g.s.now)
    × ((g.i + 3) * g.m + g.m ≤ length g.s.now)
    × (g.j * g.m + g.m ≤ length g.s.now) × (g.r < g.m)
within c =
    let g = c.args in
    let size = (sized _ _ _ c.requires.0).size in (
      column_within _ _ _ g.s.now (omega arith) size,
      column_within _ _ _ g.s.now (omega arith) size,
      column_within _ _ _ g.s.now (omega arith) size,
      column_within _ _ _ g.s.now (omega arith) size,
      column_within _ _ _ g.s.now c.requires.2 size,
      c.requires.3,
    )

pub returns : goal.returns
returns c =
    let h = c.requires in
    number_read _ _ _ _ _ _ _ h.1 h.2 h.3

pub overflow_mul-a0 : goal.overflow_mul-a0
overflow_mul-a0 c = omega (arith, within c)

pub overflow_add-a1 : goal.overflow_add-a1
overflow_add-a1 c = omega (arith, within c)

pub overflow_mul-a1 : goal.overflow_mul-a1
overflow_mul-a1 c = omega (arith, within c)

pub overflow_add-a2 : goal.overflow_add-a2
overflow_add-a2 c = omega (arith, within c)

pub overflow_mul-a2 : goal.overflow_mul-a2
overflow_mul-a2 c = omega (arith, within c)

pub overflow_add-a3 : goal.overflow_add-a3
overflow_add-a3 c = omega (arith, within c)

pub overflow_mul-a3 : goal.overflow_mul-a3
overflow_mul-a3 c = omega (arith, within c)

pub overflow_mul-b : goal.overflow_mul-b
overflow_mul-b c = omega (arith, within c)

pub overflow_add-v1 : goal.overflow_add-v1
overflow_add-v1 c = omega (arith, within c)

pub offset_bounds-s-a0 : goal.offset_bounds-s-a0
offset_bounds-s-a0 c = omega (arith, within c)

pub bounds-s-a0 : goal.bounds-s-a0
bounds-s-a0 c = omega (arith, within (goal.at.bounds-s-a0 c).Start)

pub overflow_add-v1-2 : goal.overflow_add-v1-2
overflow_add-v1-2 c = omega (arith, within (goal.at.overflow_add-v1-2 c).Start)

pub offset_bounds-s-b : goal.offset_bounds-s-b
offset_bounds-s-b c = omega (arith, within (goal.at.offset_bounds-s-b c).Start)

pub bounds-s-b : goal.bounds-s-b
bounds-s-b c = omega (arith, within (goal.at.bounds-s-b c).Start)

pub overflow_add-v2 : goal.overflow_add-v2
overflow_add-v2 c = omega (arith, within (goal.at.overflow_add-v2 c).Start)

pub offset_bounds-s-a1 : goal.offset_bounds-s-a1
offset_bounds-s-a1 c = omega (arith, within (goal.at.offset_bounds-s-a1 c).Start)

pub bounds-s-a1 : goal.bounds-s-a1
bounds-s-a1 c = omega (arith, within (goal.at.bounds-s-a1 c).Start)

pub overflow_add-v3 : goal.overflow_add-v3
overflow_add-v3 c = omega (arith, within (goal.at.overflow_add-v3 c).Start)

pub offset_bounds-s-a2 : goal.offset_bounds-s-a2
offset_bounds-s-a2 c = omega (arith, within (goal.at.offset_bounds-s-a2 c).Start)

pub bounds-s-a2 : goal.bounds-s-a2
bounds-s-a2 c = omega (arith, within (goal.at.bounds-s-a2 c).Start)

pub overflow_add-result : goal.overflow_add-result
overflow_add-result c = omega (arith, within (goal.at.overflow_add-result c).Start)

pub offset_bounds-s-a3 : goal.offset_bounds-s-a3
offset_bounds-s-a3 c = omega (arith, within (goal.at.offset_bounds-s-a3 c).Start)

pub bounds-s-a3 : goal.bounds-s-a3
bounds-s-a3 c = omega (arith, within (goal.at.bounds-s-a3 c).Start)
