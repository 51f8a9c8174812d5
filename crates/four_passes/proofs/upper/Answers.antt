-- Computed. Assumes nothing.
use mathlib.Core.Path.{refl}
use Rattle.numbers.specs.Each.{each_from, turns_from}
use Rattle.blas.specs.Blas.{axpy_from}
use Rattle.triangular_passes.specs.Triangular.{upper_row, solved_row, turn, solved_column}
use Rattle.four_passes.proofs.upper.Goals as goal

pub returns : goal.returns
unfolding solved_column turns_from turn solved_row upper_row axpy_from each_from
returns c = refl
