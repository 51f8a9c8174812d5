-- By the refusal. Assumes nothing.
use Rattle.exchanges.specs.Permute.{exchange_of}
use Rattle.permutation_sequence.proofs.Permuting.{permuting_refused, permuting_done}
use Rattle.permutation_sequence.proofs.permute_or_refuse.Goals as goal

pub returns-in_err-test_permuting : goal.returns-in_err-test_permuting
returns-in_err-test_permuting c =
    let whole = permuting_refused (exchange_of c.args.columns) _ _ _ _ _ _ _ _ _ c.in_err-test_permuting.ensures c.from_residual.ensures.1 in
    record { result_value = whole.0; s_after = whole.1 }

pub returns : goal.returns
returns c =
    let whole = permuting_done (exchange_of c.args.columns) _ _ _ _ _ _ _ _ c.in_ok-test_permuting.ensures c.apply.ensures in
    record { result_value = whole.0; s_after = whole.1 }
