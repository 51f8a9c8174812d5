-- Each arm's own call. Assumes nothing.
use mathlib.Core.Bool.{true, false}
use mathlib.Core.Path.{◌∙◌}
use borrow.Author.Rules.{rules}
use Rattle.crossing.specs.Below.{packed}
use Rattle.crossing.proofs.Below.{solved_answer, solved_left}
use Rattle.crossing_pads.proofs.solve_system.Goals as goal

pub returns-then-transposed : goal.returns-then-transposed
returns-then-transposed c =
    let g = c.args in
    let p = packed g.factors.now g.swaps.now g.told in
    record {
      result_value = rw c.if-transposed.true (c.tr_solve.ensures.result_value ∙ solved_answer true p g.b.now g.x.now c.requires);
      x_after = rw c.if-transposed.true (solved_left true p _ g.x.now _ c.requires c.tr_solve.ensures.x_after (search rules));
    }

pub returns-else-transposed : goal.returns-else-transposed
returns-else-transposed c =
    let g = c.args in
    let p = packed g.factors.now g.swaps.now g.told in
    record {
      result_value = rw c.if-transposed.false (c.solve.ensures.result_value ∙ solved_answer false p g.b.now g.x.now c.requires);
      x_after = rw c.if-transposed.false (solved_left false p _ g.x.now _ c.requires c.solve.ensures.x_after (search rules));
    }
