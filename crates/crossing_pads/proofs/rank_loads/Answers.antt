-- Solving, then ranking, each in front of its store. Assumes nothing.
use mathlib.Core.Bool.{false}
use native.Mathlib.Omega.{arith}
use borrow.Author.Rules.{rules}
use lib.ListN.{take}
use Rattle.crossing.specs.Below.{packed_in, solution_in}
use Rattle.crossing.proofs.Below.{solution_finite}
use Rattle.crossing_pads.proofs.Ordering.{told_done, told_refused, not_solved, Solved, solved, ranked_left, ranks_kept}
use Rattle.crossing_pads.proofs.rank_loads.Goals.{In_ok-solve_front}
use Rattle.crossing_pads.proofs.rank_loads.Goals as goal

pub returns-in_err-solve_front : goal.returns-in_err-solve_front
returns-in_err-solve_front c =
    let e = c.in_err-solve_front.ensures.result_value in
    record {
      result_value = told_refused _ _ _ _ _ e c.from_residual.ensures.1;
      ranks_after = ranks_kept _ _ _ _ (not_solved _ 0 0 _ e);
      loads_after = c.solve_front.ensures.x_after;
    }

solved_at : (c : In_ok-solve_front) → let g = c.args in
    Solved g.told.rows (solution_in false g.matrix.now g.swaps.now g.told g.readings.now) c.solve_front.new.x
solved_at c =
    solved c.args.told.rows _ c.args.loads.now _ c.in_ok-solve_front.ensures.result_value c.solve_front.ensures.x_after
    (omega (arith, c.requires)) (search rules)

pub returns : goal.returns
returns c =
    let g = c.args in
    let finite = solution_finite false (packed_in g.matrix.now g.swaps.now g.told) (take g.told.rows g.readings.now) in
    record {
      result_value = told_done _ _ _ c.in_ok-solve_front.ensures.result_value;
      ranks_after = ranked_left _ _ _ (solved_at (goal.at.returns c).In_ok-solve_front) finite c.requires.0 c.requires.1 g.ranks.now
          _ (search rules) c.rank_all.ensures.ranks_after;
      loads_after = c.solve_front.ensures.x_after;
    }
