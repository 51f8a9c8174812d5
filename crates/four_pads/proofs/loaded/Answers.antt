-- By the two tests. Assumes nothing.
use mathlib.Core.Path.{sym, ap, ◌∙◌}
use Rattle.four_passes.specs.Passes.{upper_by}
use Rattle.four_pads.proofs.Outcomes.{loaded_six, loaded_seven, loaded_all}
use Rattle.four_pads.proofs.loaded.Goals as goal

pub returns-then-is_dead : goal.returns-then-is_dead
returns-then-is_dead c = c.refused.ensures ∙ loaded_six c.args.e (sym c.is_dead.ensures ∙ c.if-is_dead.true)

pub returns-then-not-finite : goal.returns-then-not-finite
returns-then-not-finite c =
    let e = c.args.e in
    c.refused-then-not-finite.ensures
    ∙ loaded_seven e (sym c.is_dead.ensures ∙ c.if-is_dead.false) _ (c.upper-x.ensures ∙ ap (upper_by e.system) c.lower-y.ensures)
    (sym c.finite.ensures ∙ c.if-not-finite.true)

pub returns : goal.returns
returns c =
    let e = c.args.e in
    loaded_all e (sym c.is_dead.ensures ∙ c.if-is_dead.false) _ (c.upper-x.ensures ∙ ap (upper_by e.system) c.lower-y.ensures)
    (sym c.finite.ensures ∙ c.if-not-finite.false) _ c.packed-factors.ensures _ c.recorded-pairs.ensures
