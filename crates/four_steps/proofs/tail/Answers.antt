-- What is left of column j, the rows from row k on, gives the whole; behind the last row nothing is (`none_left`). Assumes nothing.
use mathlib.Core.Path.{refl, ◌∙◌}
use native.Mathlib.Omega.{arith}
use Rattle.store.proofs.Columns.{sized, same_matrix}
use Rattle.four_steps.proofs.Left.{none_left}
use Rattle.four_steps.proofs.tail.Goals as goal

pub loop-k-init : goal.loop-k-init
loop-k-init c = (c.minus-f.ensures, refl)

pub row-requires : goal.row-requires
row-requires c =
    let h = c.requires in
    (same_matrix _ _ _ _ c.loop-k.auto.s ∙ h.0, h.2, h.3, omega arith, c.loop-k-test.true, c.loop-k.invariant.0)

pub loop-k-preserved : goal.loop-k-preserved
loop-k-preserved c = (c.row.ensures.f_value, c.row.ensures.s_after ∙ c.loop-k.invariant.1)

pub returns : goal.returns
returns c =
    let h = c.requires in
    none_left _ _ _ _ _ _ (c.loop-k.auto.s ∙ (sized _ _ _ h.0).size) h.3 c.loop-k-test.false ∙ c.loop-k.invariant.1
