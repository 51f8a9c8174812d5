-- The three passes one after the other (`passes_solve`). The second is the corrected solve by 1, which gives the same bits as the one that the
-- meaning names (`same_by_one`), since the slice holds doubles. Assumes nothing.
use mathlib.Core.Path.{◌∙◌}
use borrow.Author.Tests.{eqb-true}
use Rattle.numbers.proofs.Choice.{and_first}
use Rattle.solve.proofs.Corrected.{same_by_one}
use Rattle.from_factors.proofs.Solved.{passes_solve, passes_one}
use Rattle.from_factors.proofs.solve_mut.Goals as goal

-- a single column of few rows
pub returns-then-k-n : goal.returns-then-k-n
returns-then-k-n c =
    let n = c.args.told.rows in
    passes_one n _ n _ _ _ _ _ _ c.requires.rows_value.0 c.requires.rows_value.1 c.requires.rows_value_2 (eqb-true _ _ (and_first _ _ c.if-k-n.true))
    c.slice_known-2-1.given c.apply_to_rows.ensures c.apply_to_rows.auto.s
    c.solve_one.ensures c.solve_one.auto.b

pub returns : goal.returns
returns c =
    let n = c.args.told.rows in
    passes_solve n _ n _ _ _ _ _ _ _ c.requires.rows_value.0 c.requires.rows_value.1 c.requires.rows_value_2 c.apply_to_rows.ensures
    c.apply_to_rows.auto.s (c.solve_in_place.ensures ∙ same_by_one n _ _ _
    c.slice_known-2-1.given) c.solve_in_place.auto.b
    c.solve_in_place-2.ensures c.solve_in_place-2.auto.b
