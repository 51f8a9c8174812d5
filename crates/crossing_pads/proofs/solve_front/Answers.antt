-- Each slice by its front. Assumes nothing.
use mathlib.Core.Path.{ap}
use mathlib.Core.List.{◌++◌}
use native.Mathlib.Omega.{arith}
use lib.ListN.{drop}
use Rattle.numbers.specs.Column.{Column}
use Rattle.panel_file.proofs.Reading.{square}
use Rattle.crossing_pads.proofs.solve_front.Goals as goal

pub overflow_mul-entries : goal.overflow_mul-entries
overflow_mul-entries c = omega (arith, square c.args.told.rows 64 c.requires)

pub returns : goal.returns
returns c =
    record {
      result_value = c.solve_system.ensures.result_value;
      x_after = ap (λ (t : Column). t ++ drop c.args.told.rows c.args.x.now) c.solve_system.ensures.x_after;
    }
