-- Row by row. Assumes nothing.
use mathlib.Core.Path.{ap, ◌∙◌}
use Rattle.numbers.specs.Each.{turns_from}
use Rattle.numbers.specs.Numbers.{one64}
use Rattle.triangular_passes.specs.Triangular.{kept_row, solved_row, turn, solved_column}
use Rattle.four_by_four.specs.System.{listed}
use Rattle.four_passes.proofs.lower.Goals as goal

pub returns : goal.returns
unfolding solved_column turns_from turn solved_row kept_row
returns c =
    let s = c.args.s in
    c.updated.ensures
    ∙ ap (kept_row one64 (listed s.c2) 2) (c.updated-z.ensures ∙ ap (kept_row one64 (listed s.c1) 1) c.updated-y.ensures)
