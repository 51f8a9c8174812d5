-- What is left at row k gives the whole. Assumes nothing.
use mathlib.Core.Path.{refl, ◌∙◌}
use native.Mathlib.Omega.{arith}
use Rattle.min_max.proofs.Walk.{above_here, above_next, above_end}
use Rattle.min_max.proofs.next_above.Goals as goal

pub loop-k-init : goal.loop-k-init
loop-k-init c = (c.requires, refl)

pub returns-then-magnitude-top : goal.returns-then-magnitude-top
returns-then-magnitude-top c = above_here _ _ c.loop-k-test.true _ (rw (← c.magnitude.ensures) c.if-magnitude-top.true) ∙ c.loop-k.invariant.1

pub loop-k-preserved : goal.loop-k-preserved
loop-k-preserved c =
    let here = c.loop-k-test.true in
    (omega arith, above_next _ _ here _ (rw (← c.magnitude.ensures) c.if-magnitude-top.false) ∙ c.loop-k.invariant.1)

pub returns : goal.returns
returns c = above_end _ _ _ c.loop-k-test.false ∙ c.loop-k.invariant.1
