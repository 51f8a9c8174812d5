-- What is left to look at from column j on gives the whole answer. Assumes nothing.
use mathlib.Core.Path.{refl, sym, ap, ◌∙◌}
use Rattle.store.proofs.Columns.{sized}
use Rattle.why.specs.Inner.{column_or}
use Rattle.why.proofs.Lowest.{lowest_next, lowest_here, lowest_end}
use Rattle.why.proofs.lowest_dead.Goals as goal

pub loop-j-init : goal.loop-j-init
loop-j-init c = ((sized _ _ _ c.requires).size, refl)

pub returns-then-is_zero : goal.returns-then-is_zero
returns-then-is_zero c =
    let g = c.args in
    ap (column_or g.n)
    (sym (lowest_here g.n c.loop-j.j g.t.now c.loop-j-test.true (sym c.is_zero.ensures ∙ c.if-is_zero.true))
    ∙ c.loop-j.invariant.1)

pub loop-j-preserved : goal.loop-j-preserved
loop-j-preserved c =
    let g = c.args in
    (c.loop-j.invariant.0, sym (lowest_next g.n c.loop-j.j g.t.now c.loop-j-test.true (sym c.is_zero.ensures ∙ c.if-is_zero.false)) ∙ c.loop-j.invariant.1)

pub returns : goal.returns
returns c =
    let g = c.args in
    ap (column_or g.n) (sym (lowest_end g.n c.loop-j.j g.t.now c.loop-j-test.false) ∙ c.loop-j.invariant.1)
