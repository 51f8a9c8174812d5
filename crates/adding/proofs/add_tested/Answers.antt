-- An overflow of the new column, or its joining: each by its law (`Adds`). Assumes nothing.
use mathlib.Core.Path.{sym, ap, ◌∙◌}
use Prim.Native.Nat.{ℕ, ◌+◌}
use native.Mathlib.Omega.{arith}
use Rattle.adding.proofs.Adds.{overflows, joins}
use Rattle.adding.proofs.add_tested.Goals as goal

pub returns-then-not-all_finite : goal.returns-then-not-all_finite
returns-then-not-all_finite c =
    overflows _ _ _ _ c.requires _ _ _ c.reduce_column.auto.s c.reduce_column.ensures c.own_step-found.auto.col c.own_step-found.ensures.row_value.0
    c.own_step-found.ensures.col_after
    _ (sym c.all_finite.ensures ∙ c.if-not-all_finite.true) c.fill_zero.auto.s c.fill_zero.ensures

pub overflow_add-dead : goal.overflow_add-dead
overflow_add-dead c = omega (arith, c.requires.few_dead)

pub returns : goal.returns
returns c =
    joins _ _ _ _ c.requires _ _ _ c.reduce_column.auto.s c.reduce_column.ensures c.own_step-found.auto.col c.own_step-found.ensures.row_value.0
    c.own_step-found.ensures.col_after
    _ _ _ _ _ _ c.own_step-found.ensures.row_value.1 c.count-toss_ups.ensures (ap (λ (k : ℕ). c.args.told.dead + k) c.dead_at-own.ensures.0)
    (sym c.all_finite.ensures ∙ c.if-not-all_finite.false)
    c.join-new.auto.s c.join-new.ensures
