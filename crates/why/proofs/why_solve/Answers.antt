-- Accepted, singular, refused by its tests, or an overflow that is looked for once more: each by its law (`SolvingCall`). Assumes nothing.
use mathlib.Core.Path.{◌≡◌, sym, ap, ◌∙◌}
use denote.Enum.Bare.{same_true, same_false, differs_true, differs_false}
use Rattle.std.proofs.Common.{Err}
use Rattle.refusals.specs.declared.Refusal.TheVariants.{Singular, Overflow}
use Rattle.refusals.specs.contracts.Refusal.{the_type}
use Rattle.why.proofs.SolvingCall.{no_reason, bad_input, six_matrix, singular, ready, overflow_told, zeroed_again}
use Rattle.why.proofs.why_solve.Goals.{Then-eq, After-copy-arg-1}
use Rattle.why.proofs.why_solve.Goals as goal

-- the matrix is singular
is_singular : (c : Then-eq) → c.solve.result ≡ Err Singular
is_singular c = c.in-Err.is ∙ ap Err (same_true the_type tt _ _ (sym c.if-eq.ensures))

-- the refusal is an overflow
overflows : (c : After-copy-arg-1) → c.solve.result ≡ Err Overflow
overflows c = c.in-Err.is ∙ ap Err (differs_false the_type tt _ _ (sym c.if-ne.ensures))

pub returns-in_default-clause-result_value : goal.returns-in_default-clause-result_value
returns-in_default-clause-result_value c = no_reason _ _ _ _ _ _ _ c.solve.ensures.result_value _ c.in_default.is

pub lowest_dead-requires : goal.lowest_dead-requires
lowest_dead-requires c =
    six_matrix _ _ _ _ _ _ _ c.solve.ensures.result_value (is_singular (goal.at.lowest_dead-requires c).Then-eq)

pub returns-then-eq-clause-result_value : goal.returns-then-eq-clause-result_value
returns-then-eq-clause-result_value c =
    singular _ _ _ _ _ _ _ c.solve.ensures.result_value (is_singular (goal.at.returns-then-eq-clause-result_value c).Then-eq) _
    c.lowest_dead.ensures

pub returns-then-ne-clause-result_value : goal.returns-then-ne-clause-result_value
returns-then-ne-clause-result_value c =
    bad_input _ _ _ _ _ _ _ c.solve.ensures.result_value _ c.in-Err.is (same_false the_type _ _ (sym c.if-eq.ensures))
    (differs_true the_type _ _ (sym c.if-ne.ensures))

pub overflow_in_solve-reason-requires : goal.overflow_in_solve-reason-requires
overflow_in_solve-reason-requires c =
    let whole = ready _ _ _ _ _ _ _ c.solve.ensures.result_value (overflows (goal.at.overflow_in_solve-reason-requires c).After-copy-arg-1) _ _
    c.solve.ensures.x_after c.solve.auto.x c.copy.ensures in
    record { rows_value = whole.0; rows_value_2 = whole.1 }

pub returns-clause-result_value : goal.returns-clause-result_value
returns-clause-result_value c =
    overflow_told _ _ _ _ _ _ _ c.solve.ensures.result_value (overflows (goal.at.returns-clause-result_value c).After-copy-arg-1) _ _
    c.solve.ensures.x_after c.solve.auto.x c.copy.ensures _ c.overflow_in_solve-reason.ensures

pub returns-clause-x_after : goal.returns-clause-x_after
returns-clause-x_after c =
    zeroed_again _ _ _ _ _ _ _ c.solve.ensures.result_value (overflows (goal.at.returns-clause-x_after c).After-copy-arg-1) _ _ c.solve.ensures.x_after
    c.solve.auto.x c.copy.ensures _ _ c.overflow_in_solve-reason.auto.x c.fill_zero.ensures
