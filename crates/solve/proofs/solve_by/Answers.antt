-- The refusal's outcome, or that of the work on a copy of the right-hand sides. Assumes nothing.
use Rattle.solve.proofs.Accepted.{refused_by, worked}
use Rattle.solve.proofs.solve_by.Goals as goal

pub returns-in_err-test_solving : goal.returns-in_err-test_solving
returns-in_err-test_solving c =
    let whole = refused_by c.args.pass _ _ _ _ _ _ _ c.in_err-test_solving.ensures c.from_residual.ensures.1 in
    record { result_value = whole.0; x_after = whole.1 }

pub returns : goal.returns
returns c =
    let whole = worked c.args.pass _ _ _ _ _ _ _ _ _ c.in_ok-test_solving.ensures c.copy.ensures c.solve_in_place.ensures
    c.settle.ensures.value c.settle.ensures.res_after in
    record { result_value = whole.0; x_after = whole.1 }
