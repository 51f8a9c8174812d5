-- Accepted, or an overflow: each by its law (`Told`). Assumes nothing.
use mathlib.Core.Path.{sym, ap, ◌∙◌}
use lib.ListN.{replicate}
use Rattle.factors.specs.Factors.{numbers_of, store_of}
use Rattle.lu.proofs.Told.{settled_accepted, settled_overflow}
use Rattle.lu.proofs.factor_tested.Goals as goal

pub factor_in_place-counts-requires : goal.factor_in_place-counts-requires
unfolding store_of numbers_of
factor_in_place-counts-requires c =
    let pre = c.requires in
    (pre.0, c.clear.ensures ∙ ap (λ k. replicate k 0) pre.1)

pub returns-then-all_finite : goal.returns-then-all_finite
returns-then-all_finite c =
    let pre = c.requires in
    settled_accepted _ _ _ _ _ _ c.factor_in_place-counts.ensures.held _ _ c.factor_in_place-counts.ensures.tossed_value c.dead_of-dead.ensures pre.0
    (sym c.all_finite.ensures ∙ c.if-all_finite.true)

pub returns : goal.returns
returns c =
    let room = c.factor_in_place-counts.auto.swaps ∙ c.clear.auto.swaps ∙ c.requires.1 in
    settled_overflow _ _ _ _ _ _ c.factor_in_place-counts.ensures.held _ _ (sym c.all_finite.ensures ∙ c.if-all_finite.false)
    c.fill_zero.ensures c.clear-2.ensures room
