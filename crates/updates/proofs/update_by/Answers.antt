-- By the test of the packed diagonal (`update_none`, `update_done`). Assumes nothing.
use Prim.Native.Nat.{◌*◌, ◌+◌, ◌≤◌}
use mathlib.Core.Path.{refl, sym, ◌∙◌}
use native.Mathlib.Omega.{arith}
use lib.ListN.{length}
use Rattle.store.proofs.Columns.{sized, column_within}
use Rattle.updates.proofs.Updates.{update_none, update_done}
use Rattle.updates.proofs.update_by.Goals.{After-slice_known-1}
use Rattle.updates.proofs.update_by.Goals as goal

-- column i ends within the store, and the number of columns is small
within : (c : After-slice_known-1) → (c.args.i * c.args.m + c.args.m ≤ length c.args.s.now) × (c.args.n ≤ 64)
within c =
    let fits = sized _ _ c.args.s.now c.requires.0 in
    (column_within _ _ _ c.args.s.now (omega arith) fits.size, fits.columns_most)

pub returns-then-is_zero : goal.returns-then-is_zero
returns-then-is_zero c = update_none _ _ _ _ _ c.requires.1 c.requires.2 c.requires.3 _ refl (sym c.is_zero.ensures ∙ c.if-is_zero.true)

pub returns : goal.returns
returns c =
    update_done _ _ _ _ _ c.requires.1 c.requires.2 c.requires.3 _ _ refl (sym c.is_zero.ensures ∙ c.if-is_zero.false)
    c.requires.0 c.step_within.ensures

pub overflow_mul-diag : goal.overflow_mul-diag
overflow_mul-diag c = omega (arith, within c)

pub overflow_add-diag : goal.overflow_add-diag
overflow_add-diag c = omega (arith, within c)

pub offset_bounds-s-i : goal.offset_bounds-s-i
offset_bounds-s-i c = omega (arith, within c)

pub bounds-s-i : goal.bounds-s-i
bounds-s-i c = omega (arith, within (goal.at.bounds-s-i c).After-slice_known-1)
