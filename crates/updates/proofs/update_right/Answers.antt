-- By the tests whether it is four steps and all were made: at once (`four_done`), or one by one. Assumes nothing.
use mathlib.Core.Path.{sym, ap, ◌∙◌}
use native.Mathlib.Omega.{arith}
use Rattle.store.specs.Columns.{columns}
use Rattle.updates.specs.Updates.{after_panel}
use Rattle.updates.proofs.Updates.{four_done}
use Rattle.updates.proofs.update_right.Goals as goal

pub are_live-requires : goal.are_live-requires
are_live-requires c =
    let four = c.if-to-i-eq4.true in
    let pre = c.requires in
    (pre.0, omega (arith, pre.2, four), omega (arith, pre.3, pre.4, four))

pub returns-then-are_live : goal.returns-then-are_live
returns-then-are_live c =
    let four = c.if-to-i-eq4.true in
    let g = c.args in
    let pre = c.requires in
    four_done _ _ _ _ _ pre.0 (omega (arith, pre.2, four)) (omega (arith, pre.3, four)) _ (sym c.are_live.ensures ∙ c.if-are_live.true)
    c.four_steps.ensures
    ∙ ap (λ k. after_panel g.i k g.from (columns g.m g.n g.s.now)) (sym four)

pub returns : goal.returns
returns c = c.update_columns_each.ensures
