-- Each arm's own pass. Assumes nothing.
use Rattle.from_factors.proofs.solve_mut_by.Goals as goal

pub returns-then-transposed : goal.returns-then-transposed
returns-then-transposed c = rw c.if-transposed.true c.tr_solve_mut.ensures

pub returns-else-transposed : goal.returns-else-transposed
returns-else-transposed c = rw c.if-transposed.false c.solve_mut.ensures
