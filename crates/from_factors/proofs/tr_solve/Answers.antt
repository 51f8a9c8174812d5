-- The call's own outcome, by its way to solve a column. Assumes nothing.
use Rattle.from_factors.specs.Solving.{tr_solving}
use Rattle.from_factors.proofs.tr_solve.Goals as goal

pub returns : goal.returns
unfolding tr_solving
returns c = record { result_value = c.solve_by.ensures.result_value; x_after = c.solve_by.ensures.x_after }
