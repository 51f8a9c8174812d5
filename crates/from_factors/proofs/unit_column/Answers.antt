-- Zeros, and a one in row j. Assumes nothing.
use mathlib.Core.Path.{ap}
use lib.ListN.{set}
use Rattle.numbers.specs.Numbers.{one64}
use Rattle.from_factors.specs.Solving.{unit_column}
use Rattle.from_factors.proofs.unit_column.Goals as goal

pub returns : goal.returns
unfolding unit_column
returns c = ap (λ column. set column c.args.j one64) c.fill_zero.ensures
