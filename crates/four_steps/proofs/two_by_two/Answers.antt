-- The four numbers are the rows' after the steps, all read before the two columns are lent to be written (`twos_left`). Assumes nothing.
use Prim.Native.Nat.{◌*◌, ◌+◌, ◌≤◌}
use native.Mathlib.Nat.{mul-le-mul_right}
use native.Mathlib.Omega.{arith}
use lib.ListN.{length}
use Rattle.store.proofs.Columns.{sized, column_within}
use Rattle.four_steps.proofs.Left.{twos_left}
use Rattle.four_steps.proofs.two_by_two.Goals.{Else-m-k}
use Rattle.four_steps.proofs.two_by_two.Goals as goal

-- both columns end within the store, which is short, and have row k + 1
within : (c : Else-m-k) → let g = c.args in
    let long = length g.s.now in
    (g.j * g.m + g.m ≤ long) × ((g.j + 1) * g.m + g.m ≤ long) × (long ≤ 4096) × (g.k + 2 ≤ g.m)
within c =
    let g = c.args in
    let is = sized _ _ _ c.requires.0 in
    let short : length g.s.now ≤ 4096 = omega (arith, is.size, mul-le-mul_right g.m is.columns_most, is.rows_most) in
    (column_within _ _ _ g.s.now (omega arith) is.size, column_within _ _ _ g.s.now c.requires.3 is.size, short, c.if-m-k.false)

pub returns : goal.returns
returns c =
    let h = c.requires in
    let size = (sized _ _ _ h.0).size in
    let room = c.if-m-k.false in
    record {
      lower_bound = (omega arith, room, omega (arith, h.6));
      s_after = twos_left _ _ _ _ _ _ _ _ _ _ _ _ _ _ size h.2 h.4 h.3 room c.minus-f.ensures
          c.minus-g.ensures c.number-x.ensures c.number-x1.ensures c.number-y.ensures
          c.number-y1.ensures c.write_two.auto.col c.write_two.ensures c.write_two-2.auto.col c.write_two-2.ensures;
    }

pub minus-g-requires : goal.minus-g-requires
minus-g-requires c = let h = c.requires in (h.0, h.1, h.3)

pub number-x-requires : goal.number-x-requires
number-x-requires c = let h = c.requires in (h.0, h.2, omega (arith, h.3), omega (arith, c.if-m-k.false))

pub number-x1-requires : goal.number-x1-requires
number-x1-requires c = let h = c.requires in (h.0, h.2, omega (arith, h.3), omega (arith, c.if-m-k.false))

pub number-y-requires : goal.number-y-requires
number-y-requires c = let h = c.requires in (h.0, omega (arith, h.2), h.3, omega (arith, c.if-m-k.false))

pub number-y1-requires : goal.number-y1-requires
number-y1-requires c = let h = c.requires in (h.0, omega (arith, h.2), h.3, omega (arith, c.if-m-k.false))

pub overflow_add-k : goal.overflow_add-k
overflow_add-k c = omega (arith, (sized _ _ _ c.requires.0).rows_most)

pub overflow_mul-b : goal.overflow_mul-b
overflow_mul-b c = omega (arith, within c)

pub overflow_add-e : goal.overflow_add-e
overflow_add-e c = omega (arith, within c)

pub overflow_mul-b1 : goal.overflow_mul-b1
overflow_mul-b1 c = omega (arith, within c)

pub overflow_add-e1 : goal.overflow_add-e1
overflow_add-e1 c = omega (arith, within c)

pub minus-f-requires : goal.minus-f-requires
minus-f-requires c = let h = c.requires in (h.0, h.1, omega (arith, h.3))

pub offset_bounds-s-b : goal.offset_bounds-s-b
offset_bounds-s-b c = omega (arith, within (goal.at.offset_bounds-s-b c).Else-m-k)

pub slice_bounds-write_two-end : goal.slice_bounds-write_two-end
slice_bounds-write_two-end c = omega (arith, within (goal.at.slice_bounds-write_two-end c).Else-m-k)

pub offset_bounds-s-b1 : goal.offset_bounds-s-b1
offset_bounds-s-b1 c = omega (arith, within (goal.at.offset_bounds-s-b1 c).Else-m-k)

pub slice_bounds-write_two-end-2 : goal.slice_bounds-write_two-end-2
slice_bounds-write_two-end-2 c = omega (arith, within (goal.at.slice_bounds-write_two-end-2 c).Else-m-k)

pub overflow_add-result : goal.overflow_add-result
overflow_add-result c = omega (arith, within (goal.at.overflow_add-result c).Else-m-k)
