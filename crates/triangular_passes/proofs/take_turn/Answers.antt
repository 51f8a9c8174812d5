-- The column of the turn's row ends within the matrix (`Turns`). Assumes nothing.
use mathlib.Core.Path.{refl}
use Rattle.store.proofs.Columns.{column_within, sized}
use Rattle.triangular_passes.proofs.Turns.{turn_row}
use Rattle.triangular_passes.proofs.take_turn.Goals as goal

pub slice_bounds-solve_row-end : goal.slice_bounds-solve_row-end
slice_bounds-solve_row-end c =
    let row = turn_row c.args.pass _ _ _ _ refl c.requires.2 c.row_at-i.ensures in
    column_within _ _ _ c.args.t.now row (sized _ _ _ c.requires.0).size
