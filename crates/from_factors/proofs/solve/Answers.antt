-- The call's own outcome, by its way to solve a column. Assumes nothing.
use Rattle.from_factors.specs.Solving.{solving}
use Rattle.from_factors.proofs.solve.Goals as goal

pub returns : goal.returns
unfolding solving
returns c = record { result_value = c.solve_by.ensures.result_value; x_after = c.solve_by.ensures.x_after }
