-- The four numbers one after another (`written_four_lem`). Assumes nothing.
use Prim.Native.Nat.{◌*◌, ◌+◌, ◌≤◌}
use native.Mathlib.Omega.{arith}
use lib.ListN.{length, length-set}
use Rattle.store.proofs.Columns.{sized, column_within}
use Rattle.four_steps.proofs.Places.{written_four_lem}
use Rattle.four_steps.proofs.write_four.Goals.{Start}
use Rattle.four_steps.proofs.write_four.Goals as goal

-- column j ends within the store, and has row k + 3
within : (c : Start) → let g = c.args in (g.j * g.m + g.m ≤ length g.s.now) × (g.k + 4 ≤ g.m)
within c =
    let g = c.args in (column_within _ _ _ g.s.now c.requires.1 (sized _ _ _ c.requires.0).size, c.requires.2)

pub returns : goal.returns
returns c = written_four_lem _ _ _ _ (sized _ _ _ c.requires.0).size c.requires.1 _ _ c.requires.2

pub overflow_mul-b : goal.overflow_mul-b
overflow_mul-b c = omega (arith, within c)

pub overflow_add-s : goal.overflow_add-s
overflow_add-s c = omega (arith, within c)

pub offset_bounds-s-b : goal.offset_bounds-s-b
offset_bounds-s-b c = omega (arith, within c)

pub bounds-s-b : goal.bounds-s-b
bounds-s-b c = omega (arith, within c)

pub overflow_add-s-2 : goal.overflow_add-s-2
overflow_add-s-2 c = omega (arith, within c)

pub offset_bounds-s-b-2 : goal.offset_bounds-s-b-2
offset_bounds-s-b-2 c = omega (arith, within c)

pub bounds-s-b-2 : goal.bounds-s-b-2
bounds-s-b-2 c = simp length-set (omega (arith, within c))

pub overflow_add-s-3 : goal.overflow_add-s-3
overflow_add-s-3 c = omega (arith, within c)

pub offset_bounds-s-b-3 : goal.offset_bounds-s-b-3
offset_bounds-s-b-3 c = omega (arith, within c)

pub bounds-s-b-3 : goal.bounds-s-b-3
bounds-s-b-3 c = simp length-set (omega (arith, within c))

pub overflow_add-s-4 : goal.overflow_add-s-4
overflow_add-s-4 c = omega (arith, within c)

pub offset_bounds-s-b-4 : goal.offset_bounds-s-b-4
offset_bounds-s-b-4 c = omega (arith, within c)

pub bounds-s-b-4 : goal.bounds-s-b-4
bounds-s-b-4 c = simp length-set (omega (arith, within c))
