-- Nothing is left behind the last row (`none_left`), first of one column, then of the other (`both_left`). Assumes nothing.
use mathlib.Core.Path.{◌∙◌}
use native.Mathlib.Omega.{arith}
use Rattle.store.proofs.Columns.{sized, same_matrix}
use Rattle.four_steps.proofs.Left.{none_left, both_left, rows_made}
use Rattle.four_steps.proofs.two_by_one.Goals as goal

-- the row is not there
pub returns-then-m-k : goal.returns-then-m-k
returns-then-m-k c =
    let h = c.requires in
    let size = (sized _ _ _ h.0).size in
    both_left _ _ _ _ _ _ _ _ h.2 (none_left _ _ _ _ _ _ size (omega arith) c.if-m-k.true) (none_left _ _ _ _ _ _ size h.3 c.if-m-k.true)

pub row-requires : goal.row-requires
row-requires c = let h = c.requires in (h.0, h.2, omega (arith, h.3), h.4, c.if-m-k.false, c.minus-f.ensures)

pub minus-g-requires : goal.minus-g-requires
minus-g-requires c = let h = c.requires in (same_matrix _ _ _ _ c.row.auto.s ∙ h.0, h.1, h.3)

pub row-requires-2 : goal.row-requires-2
row-requires-2 c =
    let h = c.requires in
    (same_matrix _ _ _ _ c.row.auto.s ∙ h.0, omega arith, h.3, h.4, c.if-m-k.false, c.minus-g.ensures)

pub returns : goal.returns
returns c =
    let h = c.requires in
    rows_made _ _ _ _ _ _ _ _ (sized _ _ _ h.0).size h.2 h.3 h.5 c.row.auto.s c.row-2.auto.s c.row.ensures.s_after c.row-2.ensures.s_after

pub minus-f-requires : goal.minus-f-requires
minus-f-requires c = let h = c.requires in (h.0, h.1, omega (arith, h.3))
