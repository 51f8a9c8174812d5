-- Past the tests the copy of the right-hand sides is solved and settled. Assumes nothing.
use mathlib.Core.Path.{◌≡◌, refl, sym, ap, ◌∙◌}
use mathlib.Core.Bool.{true}
use Rattle.numbers.proofs.Choice.{and_first, and_second}
use Rattle.blas.proofs.Rows.{copied_whole}
use Rattle.store.specs.Columns.{columns, is_matrix}
use Rattle.store.proofs.Columns.{sized, same_matrix}
use Rattle.factors.specs.Held.{held_refusal}
use Rattle.from_factors.specs.Solving.{way_of, solve_asks}
use Rattle.factors.proofs.Held.{Passed, passed, square_matrix, square_list}
use Rattle.from_factors.proofs.Promises.{promise_solved}
use Rattle.from_factors.proofs.solve_by.Goals.{In_ok-test_held}
use Rattle.from_factors.proofs.solve_by.Goals as goal

-- past the tests
none : (c : In_ok-test_held) → let g = c.args in
    0 ≡ held_refusal g.factors.now g.swaps.now g.told (solve_asks g.b.now g.told.rows g.k g.x.now)
none c = rw (c.outside-sizes.ensures, c.is_matrix.ensures, c.is_matrix-2.ensures, c.all_finite-numbers.ensures) at c.in_ok-test_held.ensures

past : (c : In_ok-test_held) → let g = c.args in
    Passed g.factors.now g.swaps.now g.told (solve_asks g.b.now g.told.rows g.k g.x.now)
past c = passed _ _ _ _ (sym (none c))

-- the right-hand sides and the slice for the solution are matrices
sides : (c : In_ok-test_held) → let g = c.args in
    (is_matrix g.b.now g.told.rows g.k ≡ true) × (is_matrix g.x.now g.told.rows g.k ≡ true)
sides c =
    let g = c.args in
    let b = is_matrix g.b.now g.told.rows g.k in
    let x = is_matrix g.x.now g.told.rows g.k in
    (and_first b x (past c).lengths, and_second b x (past c).lengths)

pub solve_mut_by-requires : goal.solve_mut_by-requires
solve_mut_by-requires c =
    let past-tests = (goal.at.solve_mut_by-requires c).In_ok-test_held in
    let p = past past-tests in
    record {
      rows_value = (
        square_matrix _ _ _ _ refl p,
        same_matrix c.args.told.rows c.args.k c.args.x.now _
            c.copy.auto.dst ∙ (sides past-tests).1,
      );
      rows_value_2 = square_list _ _ _ _ refl p;
    }

pub returns : goal.returns
returns c =
    let g = c.args in
    let n = g.told.rows in
    let past-tests = (goal.at.returns c).In_ok-test_held in
    let fit = sides past-tests in
    let long = (sized n g.k g.b.now fit.0).size ∙ sym (sized n g.k g.x.now fit.1).size in
    let is = c.copy.ensures ∙ copied_whole g.b.now g.x.now long in
    let whole = promise_solved (way_of g.transposed) g.told _ _ _ _ _ _ _ _ _ (none past-tests) c.solve_mut_by.ensures (ap (columns n g.k) is)
    c.settle.ensures.value c.settle.ensures.res_after in record { result_value = whole.0; x_after = whole.1 }
