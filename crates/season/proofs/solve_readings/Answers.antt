-- Each slice by its front. Assumes nothing.
use Rattle.std.proofs.Common.{false, ◌++◌, drop, sym, ap, ◌∙◌, arith, rules}
use Rattle.numbers.specs.Column.{Column}
use Rattle.panel_file.proofs.Reading.{square}
use Rattle.crossing.specs.Below.{packed_in}
use Rattle.crossing.proofs.Below.{solved_answer, solved_left}
use Rattle.crossing.proofs.Factors.{taken_count}
use Rattle.season.proofs.solve_readings.Goals as goal

pub overflow_mul-entries : goal.overflow_mul-entries
overflow_mul-entries c = omega (arith, square c.args.told.rows 64 c.requires)

pub slice_bounds-solve-end : goal.slice_bounds-solve-end
slice_bounds-solve-end c = taken_count _ c.args.matrix.now (omega (arith, square c.args.told.rows 64 c.requires))

pub returns : goal.returns
returns c =
    let g = c.args in
    let p = packed_in g.matrix.now g.swaps.now g.told in
    let fits = sym (taken_count g.told.rows g.loads.now (omega arith)) in
    record {
      value = c.solve.ensures.result_value ∙ solved_answer false p _ _ fits;
      loads_after = ap (λ (t : Column). t ++ drop g.told.rows g.loads.now) (solved_left false p _ _ _ fits c.solve.ensures.x_after (search rules));
    }
