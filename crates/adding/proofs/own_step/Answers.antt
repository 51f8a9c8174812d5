-- By the tests: no row n, a zero pivot, or the step. Assumes nothing.
use Prim.Native.Nat.{◌<◌}
use mathlib.Core.Path.{sym, ◌∙◌}
use native.Mathlib.Omega.{arith}
use lib.ListN.{length}
use Rattle.min_max.proofs.Pivot.{pivot_to}
use Rattle.min_max.proofs.TossUp.{none_toss_up, zero_toss_up, found_row, found_tossed}
use Rattle.elimination.proofs.Own.{own_none, own_skipped, own_done}
use Rattle.adding.proofs.own_step.Goals.{After-icamax-found}
use Rattle.adding.proofs.own_step.Goals as goal

-- the pivot row lies in the column
row : (c : After-icamax-found) → c.icamax-found.result.row < length c.args.col.now
row c = rw (found_row _ _ _ c.icamax-found.ensures) (pivot_to _ c.args.col.now c.if-col-n.false)

pub returns-then-col-n : goal.returns-then-col-n
returns-then-col-n c =
    let none = own_none _ _ c.if-col-n.true in
    record { row_value = (sym none.0, sym (none_toss_up _ _ c.if-col-n.true)); col_after = sym none.1 }

pub returns-then-is_zero : goal.returns-then-is_zero
returns-then-is_zero c =
    let found = found_row _ _ _ c.icamax-found.ensures in
    let z = sym c.is_zero.ensures ∙ c.if-is_zero.true in
    let skipped = own_skipped _ _ _ found z in
    record { row_value = (skipped.0, sym (zero_toss_up _ _ (rw found at z))); col_after = skipped.1 }

pub returns : goal.returns
returns c =
    let found = c.icamax-found.ensures in
    let done = own_done _ _ _ (found_row _ _ _ found) _ _ (sym c.is_zero.ensures ∙ c.if-is_zero.false) c.swap.ensures
    c.scale.ensures in
    record { row_value = (done.0, found_tossed _ _ _ found); col_after = done.1 }

pub offset_bounds-col-piv : goal.offset_bounds-col-piv
offset_bounds-col-piv c = omega (arith, row c)

pub bounds-col-piv : goal.bounds-col-piv
bounds-col-piv c = omega (arith, row (goal.at.bounds-col-piv c).After-icamax-found)
