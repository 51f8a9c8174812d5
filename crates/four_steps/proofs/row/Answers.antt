-- The number is the row's after the steps (`row_left`), and it lies below those that the steps multiply by (`row_minus`). Assumes nothing.
use Prim.Native.Nat.{◌*◌, ◌+◌, ◌≤◌, ◌<◌}
use native.Mathlib.Omega.{arith}
use lib.ListN.{length}
use Rattle.store.proofs.Columns.{sized, column_within, written_at}
use Rattle.four_steps.proofs.Left.{row_left, row_minus}
use Rattle.four_steps.proofs.row.Goals.{After-slice_known-1}
use Rattle.four_steps.proofs.row.Goals as goal

-- column j ends within the store, and has row r
within : (c : After-slice_known-1) → let g = c.args in (g.j * g.m + g.m ≤ length g.s.now) × (g.r < g.m)
within c =
    let g = c.args in (column_within _ _ _ g.s.now c.requires.2 (sized _ _ _ c.requires.0).size, c.requires.4)

pub returns : goal.returns
returns c =
    let h = c.requires in
    let size = (sized _ _ _ h.0).size in
    let made = written_at _ _ _ _ _ c.number.result h.2 h.4 size in
    record {
      s_after = row_left _ _ _ _ _ _ size h.1 _ _ h.3 h.2 h.5 _ h.4 c.number.ensures made;
      f_value = row_minus _ _ _ _ _ _ size h.1 _ _ h.3 h.2 h.5 _ made;
    }

pub overflow_mul-b : goal.overflow_mul-b
overflow_mul-b c = omega (arith, within c)

pub number-requires : goal.number-requires
number-requires c = let h = c.requires in (h.0, h.1, h.2, h.4)

pub overflow_add-s : goal.overflow_add-s
overflow_add-s c = omega (arith, within (goal.at.overflow_add-s c).After-slice_known-1)

pub offset_bounds-s-b : goal.offset_bounds-s-b
offset_bounds-s-b c = omega (arith, within (goal.at.offset_bounds-s-b c).After-slice_known-1)

pub bounds-s-b : goal.bounds-s-b
bounds-s-b c = omega (arith, within (goal.at.bounds-s-b c).After-slice_known-1)
