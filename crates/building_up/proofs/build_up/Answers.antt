-- Refused as factoring is, built up to its outcome, or refusal 7 (`AllAdded`). Assumes nothing.
use mathlib.Core.Path.{sym, ap, ◌∙◌}
use lib.ListN.{replicate}
use Rattle.factors.specs.Factors.{numbers_of, store_of}
use Rattle.store.proofs.Columns.{sized}
use Rattle.building_up.proofs.Build.{cleared_refusal, built_seven, built_all}
use Rattle.lu.proofs.Told.{passed, promise_refused}
use Rattle.building_up.proofs.build_up.Goals as goal

pub returns-in_err-test_factoring : goal.returns-in_err-test_factoring
returns-in_err-test_factoring c =
    let whole = promise_refused _ _ _ _ _ _ _ c.in_err-test_factoring.ensures c.from_residual.ensures.1 in
    record { result_value = whole.0; out_after = whole.1.0; swaps_after = whole.1.1 }

pub add_all-answer-requires : goal.add_all-answer-requires
unfolding store_of numbers_of
add_all-answer-requires c =
    let none = sym c.in_ok-test_factoring.ensures in
    record {
      swaps_value = cleared_refusal _ _ _ _ _ none _ c.clear.auto.swaps;
      swaps_value_2 = c.clear.ensures ∙ ap (λ k. replicate k 0) (passed _ _ _ _ _ none).room;
    }

pub returns-then-is_err : goal.returns-then-is_err
returns-then-is_err c =
    let none = sym c.in_ok-test_factoring.ensures in
    let p = passed _ _ _ _ _ none in
    let whole = built_seven _ _ _ _ _ none _ _ _ c.add_all-answer.ensures (sym c.is_err.ensures.value ∙ c.if-is_err.true)
    _ _ (c.add_all-answer.auto.out ∙ (sized _ _ _ p.slice).size) c.fill_zero.ensures
    c.clear-then-is_err.ensures (c.add_all-answer.auto.swaps ∙ c.clear.auto.swaps ∙ p.room) in
    record { result_value = whole.0; out_after = whole.1.0; swaps_after = whole.1.1 }

pub returns-else-is_err : goal.returns-else-is_err
returns-else-is_err c =
    let none = sym c.in_ok-test_factoring.ensures in
    let whole = built_all _ _ _ _ _ none _ _ _ c.add_all-answer.ensures (sym c.is_err.ensures.value ∙ c.if-is_err.false) in
    record { result_value = whole.0; out_after = whole.1.0; swaps_after = whole.1.1 }
