-- Accepted, refused by its tests, or an overflow that is looked for once more: each by its law (`Factoring`). Assumes nothing.
use mathlib.Core.Path.{◌≡◌, sym, ap, ◌∙◌}
use denote.Enum.Bare.{differs_true, differs_false}
use Rattle.std.proofs.Common.{Err}
use Rattle.refusals.specs.declared.Refusal.TheVariants.{Overflow}
use Rattle.refusals.specs.contracts.Refusal.{the_type}
use Rattle.why.proofs.Factoring.{no_reason, bad_input, copy_ready, overflow_told, zeroed_again}
use Rattle.why.proofs.why_factor.Goals.{After-copy-arg-1}
use Rattle.why.proofs.why_factor.Goals as goal

-- the refusal is an overflow
overflows : (c : After-copy-arg-1) → c.factor.result ≡ Err Overflow
overflows c = c.in-Err.is ∙ ap Err (differs_false the_type tt _ _ (sym c.if-ne.ensures))

pub returns-in_default-clause-result_value : goal.returns-in_default-clause-result_value
returns-in_default-clause-result_value c = no_reason _ _ _ _ _ _ c.factor.ensures.result_value _ c.in_default.is

pub returns-then-ne-clause-result_value : goal.returns-then-ne-clause-result_value
returns-then-ne-clause-result_value c =
    bad_input _ _ _ _ _ _ c.factor.ensures.result_value _ c.in-Err.is (differs_true the_type _ _ (sym c.if-ne.ensures))

pub overflow_in_steps-reason-requires : goal.overflow_in_steps-reason-requires
overflow_in_steps-reason-requires c =
    copy_ready _ _ _ _ _ _ c.factor.ensures.result_value (overflows (goal.at.overflow_in_steps-reason-requires c).After-copy-arg-1) _ _ c.factor.auto.out
    c.copy.ensures

pub returns-clause-result_value : goal.returns-clause-result_value
returns-clause-result_value c =
    overflow_told _ _ _ _ _ _ c.factor.ensures.result_value (overflows (goal.at.returns-clause-result_value c).After-copy-arg-1) _ _ c.factor.auto.out
    c.copy.ensures _ c.overflow_in_steps-reason.ensures

pub returns-clause-out_after : goal.returns-clause-out_after
returns-clause-out_after c =
    zeroed_again _ _ _ _ _ _ c.factor.ensures.result_value (overflows (goal.at.returns-clause-out_after c).After-copy-arg-1) _ _ c.factor.auto.out
    c.copy.ensures _ _ c.overflow_in_steps-reason.auto.s c.fill_zero.ensures
