-- By the two tests. Assumes nothing.
use borrow.Author.Tests.{lt-ltb, le-ltb, eq-eqb, ne_eqb}
use mathlib.Core.Path.{ap, ◌∙◌}
use Prim.Native.Nat.{◌+◌}
use lib.Ieee.{Float, neg}
use Rattle.blas.specs.Blas.{axpy_from}
use Rattle.one_step.specs.OneStep.{step_column}
use Rattle.four_by_four.specs.System.{listed}
use Rattle.four_by_four.specs.Inner.{stepped_by}
use Rattle.four_by_four.proofs.stepped.Goals as goal

pub returns-then-j-i : goal.returns-then-j-i
unfolding stepped_by
returns-then-j-i c = rw (lt-ltb _ _ c.if-j-i.true)

pub returns-then-j-i-2 : goal.returns-then-j-i-2
unfolding stepped_by
returns-then-j-i-2 c = rw (le-ltb _ _ c.if-j-i.false, eq-eqb _ _ c.if-j-i-2.true)

pub returns : goal.returns
unfolding stepped_by step_column
returns c =
    let a = c.args in
    rw (le-ltb _ _ c.if-j-i.false, ne_eqb _ _ c.if-j-i-2.false)
    (c.updated.ensures ∙ ap (λ (x : Float). axpy_from (a.i + 1) (neg x) (listed a.l) (listed a.c)) c.entry.ensures)
