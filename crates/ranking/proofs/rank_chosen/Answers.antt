-- The tests, then the pads listed. Assumes nothing.
use mathlib.Core.Path.{sym, ◌∙◌}
use Rattle.ranking.proofs.Calls.{accepted, outcome_refused, outcome_ranked}
use Rattle.ranking.proofs.rank_chosen.Goals as goal

pub returns-in_err-test_ranking : goal.returns-in_err-test_ranking
returns-in_err-test_ranking c =
    let whole = outcome_refused _ _ _ _ _ _ c.in_err-test_ranking.ensures c.from_residual.ensures.1 in
    record { result_value = whole.0; ranks_after = whole.1 }

pub list-requires : goal.list-requires
list-requires c = let a = accepted _ _ _ (sym c.in_ok-test_ranking.ensures) in a.ranks_length ∙ sym a.loads_length

pub returns : goal.returns
returns c =
    let none = c.in_ok-test_ranking.ensures in
    let whole = outcome_ranked _ _ _ _ _ _ none (rw (← (accepted _ _ _ (sym none)).loads_length) (c.list.ensures.value, c.list.ensures.ranks_after)) in
    record { result_value = whole.0; ranks_after = whole.1 }
