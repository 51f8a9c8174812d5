-- Past the tests the factors and the slice are square matrices. Assumes nothing.
use mathlib.Core.Path.{◌≡◌, refl, sym, ◌∙◌}
use Rattle.store.proofs.Columns.{same_matrix}
use Rattle.factors.specs.Held.{held_refusal}
use Rattle.from_factors.specs.Solving.{inverse_asks}
use Rattle.factors.proofs.Held.{passed, square_matrix, square_list}
use Rattle.from_factors.proofs.inverse.Goals.{In_ok-test_held}
use Rattle.from_factors.proofs.inverse.Goals as goal

-- past the tests
none : (c : In_ok-test_held) → let g = c.args in
    0 ≡ held_refusal g.factors.now g.swaps.now g.told (inverse_asks g.x.now g.told.rows)
none c = rw c.is_matrix-lengths.ensures at c.in_ok-test_held.ensures

pub fill_with_identity-requires : goal.fill_with_identity-requires
fill_with_identity-requires c = (passed _ _ _ _ (sym (none (goal.at.fill_with_identity-requires c).In_ok-test_held))).lengths

pub solve_mut-requires : goal.solve_mut-requires
solve_mut-requires c =
    let p = passed _ _ _ _ (sym (none (goal.at.solve_mut-requires c).In_ok-test_held)) in
    record {
      rows_value = (
        square_matrix _ _ _ _ refl p,
        same_matrix c.args.told.rows c.args.told.rows c.args.x.now _
            c.fill_with_identity.auto.x ∙ p.lengths,
      );
      rows_value_2 = square_list _ _ _ _ refl p;
    }
