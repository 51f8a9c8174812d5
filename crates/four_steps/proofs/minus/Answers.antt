-- The four numbers as they are read (`minus_read`). Assumes nothing.
use Prim.Native.Nat.{◌*◌, ◌+◌, ◌≤◌}
use mathlib.Core.Path.{refl}
use native.Mathlib.Omega.{arith}
use lib.ListN.{length}
use Rattle.store.proofs.Columns.{sized, column_within}
use Rattle.four_steps.proofs.Places.{minus_read}
use Rattle.four_steps.proofs.minus.Goals.{Start}
use Rattle.four_steps.proofs.minus.Goals as goal

-- column j ends within the store, and has row i + 3
within : (c : Start) → let g = c.args in (g.j * g.m + g.m ≤ length g.s.now) × (g.i + 4 ≤ g.m)
within c =
    let g = c.args in (column_within _ _ _ g.s.now c.requires.2 (sized _ _ _ c.requires.0).size, c.requires.1)

pub returns : goal.returns
returns c = minus_read _ _ _ _ _ c.requires.1 c.requires.2 _ refl

pub overflow_mul-b : goal.overflow_mul-b
overflow_mul-b c = omega (arith, within c)

pub overflow_add-result : goal.overflow_add-result
overflow_add-result c = omega (arith, within c)

pub offset_bounds-s-b : goal.offset_bounds-s-b
offset_bounds-s-b c = omega (arith, within c)

pub bounds-s-b : goal.bounds-s-b
bounds-s-b c = omega (arith, within (goal.at.bounds-s-b c).Start)

pub overflow_add-result-2 : goal.overflow_add-result-2
overflow_add-result-2 c = omega (arith, within (goal.at.overflow_add-result-2 c).Start)

pub offset_bounds-s-b-2 : goal.offset_bounds-s-b-2
offset_bounds-s-b-2 c = omega (arith, within (goal.at.offset_bounds-s-b-2 c).Start)

pub bounds-s-b-2 : goal.bounds-s-b-2
bounds-s-b-2 c = omega (arith, within (goal.at.bounds-s-b-2 c).Start)

pub overflow_add-result-3 : goal.overflow_add-result-3
overflow_add-result-3 c = omega (arith, within (goal.at.overflow_add-result-3 c).Start)

pub offset_bounds-s-b-3 : goal.offset_bounds-s-b-3
offset_bounds-s-b-3 c = omega (arith, within (goal.at.offset_bounds-s-b-3 c).Start)

pub bounds-s-b-3 : goal.bounds-s-b-3
bounds-s-b-3 c = omega (arith, within (goal.at.bounds-s-b-3 c).Start)

pub overflow_add-result-4 : goal.overflow_add-result-4
overflow_add-result-4 c = omega (arith, within (goal.at.overflow_add-result-4 c).Start)

pub offset_bounds-s-b-4 : goal.offset_bounds-s-b-4
offset_bounds-s-b-4 c = omega (arith, within (goal.at.offset_bounds-s-b-4 c).Start)

pub bounds-s-b-4 : goal.bounds-s-b-4
bounds-s-b-4 c = omega (arith, within (goal.at.bounds-s-b-4 c).Start)
