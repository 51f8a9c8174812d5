-- What holds of the greatest row so far (`Searched`) holds from turn to turn, and at the end it is the answer. Assumes nothing.
use Prim.Native.Nat.{suc, ◌+◌}
use mathlib.Core.Path.{refl, sym}
use native.Mathlib.Omega.{arith}
use lib.ListN.{drop}
use Rattle.min_max.specs.Pivot.{pivot_row}
use Rattle.min_max.proofs.OnePass.{searched_begin, searched_next, searched_moved, searched_end}
use Rattle.min_max.proofs.TossUp.{found_none}
use Rattle.min_max.proofs.Walk.{search_end, above_from_lem}
use Rattle.min_max.proofs.icamax.Goals as goal

pub returns-then-col-from : goal.returns-then-col-from
unfolding pivot_row
returns-then-col-from c = found_none _ _ _ (sym (search_end c.args.col.now (suc c.args.from) _ _ (omega arith))) c.if-col-from.true

pub loop-i-init : goal.loop-i-init
loop-i-init c =
    let here = c.if-col-from.false in
    (searched_begin _ _ here _ refl, here, rw (← c.magnitude.ensures) c.next_above-i.ensures)

-- the next greatest row is behind this one
pub loop-i-smaller : goal.loop-i-smaller
loop-i-smaller c =
    let i = c.loop-i.i in
    let col = c.args.col.now in
    omega (arith, above_from_lem c.magnitude-in-loop-i.result (i + 1) (drop (i + 1) col), c.next_above-i-in-loop-i.ensures, c.loop-i-test.true)

pub loop-i-preserved : goal.loop-i-preserved
loop-i-preserved c =
    let here = c.loop-i-test.true in (
      searched_moved _ _ _ _ _ (searched_next _ _ _ _ _ _ c.loop-i.invariant.0 c.loop-i.invariant.1 c.loop-i.invariant.2) here,
      here,
      rw (← c.magnitude-in-loop-i.ensures) c.next_above-i-in-loop-i.ensures,
    )

pub returns : goal.returns
returns c =
    searched_end _ _ _ _ _ c.loop-i.invariant.0 (searched_next _ _ _ _ _ _ c.loop-i.invariant.0 c.loop-i.invariant.1 c.loop-i.invariant.2)
    c.loop-i-test.false c.is_zero.result
    c.is_shared.result (rw (← c.magnitude-the_max.ensures) c.is_zero.ensures)
    (rw (← c.magnitude-the_max.ensures) c.is_shared.ensures)

pub is_shared-requires : goal.is_shared-requires
is_shared-requires c = c.loop-i.invariant.1

pub offset_bounds-col-the_i : goal.offset_bounds-col-the_i
offset_bounds-col-the_i c = omega (arith, c.loop-i.invariant.1)

pub bounds-col-the_i : goal.bounds-col-the_i
bounds-col-the_i c = c.loop-i.invariant.1
