-- Refused by its tests, or factored: each by its law (`Told`). Assumes nothing.
use mathlib.Core.Path.{refl, sym}
use Rattle.lu.proofs.Told.{passed, promise_refused, promise_settled}
use Rattle.lu.proofs.factor_mut.Goals as goal

pub returns-in_err-test_factoring : goal.returns-in_err-test_factoring
returns-in_err-test_factoring c =
    let whole = promise_refused _ _ _ _ _ _ _ c.in_err-test_factoring.ensures c.from_residual.ensures.1 in
    record { result_value = whole.0; s_after = whole.1.0; swaps_after = whole.1.1 }

pub factor_tested-requires : goal.factor_tested-requires
factor_tested-requires c = let p = passed _ _ _ _ _ (sym c.in_ok-test_factoring.ensures) in (p.matrix, p.room)

pub returns : goal.returns
returns c =
    let whole = promise_settled _ _ _ _ _ _ _ _ _ c.in_ok-test_factoring.ensures refl c.factor_tested.ensures in
    record { result_value = whole.0; s_after = whole.1.0; swaps_after = whole.1.1 }
