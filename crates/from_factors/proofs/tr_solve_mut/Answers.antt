-- The three passes one after the other (`passes_tr_solve`). Assumes nothing.
use Rattle.from_factors.proofs.Solved.{passes_tr_solve}
use Rattle.from_factors.proofs.tr_solve_mut.Goals as goal

pub returns : goal.returns
returns c =
    let n = c.args.told.rows in
    passes_tr_solve n _ n _ _ _ _ _ _ _ c.requires.rows_value.0 c.requires.rows_value.1 c.requires.rows_value_2 c.solve_in_place.ensures
    c.solve_in_place.auto.b c.solve_in_place-2.ensures
    c.solve_in_place-2.auto.b c.apply_to_rows.ensures c.apply_to_rows.auto.s
