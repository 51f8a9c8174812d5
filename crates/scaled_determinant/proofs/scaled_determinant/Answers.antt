-- Refused by the tests; +0.0 where the record tells of a dead column, which the tests have compared; else the product. Assumes nothing.
use mathlib.Core.Path.{◌≡◌, refl, sym, ap, ◌∙◌}
use mathlib.Core.Logic.{inl, inr}
use mathlib.Core.Bool.{not}
use borrow.Author.Tests.{eq-eqb, ne_eqb}
use lib.Dec.{eqb}
use Rattle.std.specs.Result.{IsErrAnd}
use Rattle.refusals.specs.Outcome.{tested, done, refused}
use Rattle.refusals.proofs.Outcomes.{handed_on, never_0, tested_none, tested_some}
use Rattle.solve.specs.Calls.{zero_on_diagonal}
use Rattle.factors.proofs.Held.{Passed, passed, square_matrix}
use Rattle.from_factors.specs.Determinant.{square_asks}
use Rattle.from_factors.proofs.Dead.{dead_zero}
use Rattle.scaled_determinant.specs.declared.Scaled.{Scaled}
use Rattle.scaled_determinant.specs.Determinant.{scaled_determinant, scaling}
use Rattle.scaled_determinant.proofs.Diagonal.{number_vanished, number_signed}
use Rattle.scaled_determinant.proofs.scaled_determinant.Goals.{In_ok-test_held}
use Rattle.scaled_determinant.proofs.scaled_determinant.Goals as goal

pub returns-in_err-test_held : goal.returns-in_err-test_held
unfolding scaling
returns-in_err-test_held c =
    rw (handed_on _ _ c.from_residual.ensures.1)
    (record {
      result_value = ap refused c.in_err-test_held.ensures ∙ sym (tested_some _ refused _ (λ z. never_0 _ (c.in_err-test_held.ensures ∙ z)));
      answer_ranged = tt;
    })

-- past the tests, which have compared the count of dead columns
past : (c : In_ok-test_held) → let g = c.args in Passed g.factors.now g.swaps.now g.told square_asks
past c = passed _ _ _ _ (sym c.in_ok-test_held.ensures)

zero_there : (c : In_ok-test_held) → let g = c.args in zero_on_diagonal g.factors.now g.told.rows ≡ not (eqb g.told.dead 0)
zero_there c = dead_zero _ _ _ square_asks refl (past c)

answered : (c : In_ok-test_held) (x : Scaled) → let g = c.args in x ≡ scaled_determinant g.factors.now g.told.rows g.told.pairs
    → done x ≡ scaling g.factors.now g.swaps.now g.told
unfolding scaling
answered c x e = ap done e ∙ sym (tested_none _ refused _ (sym c.in_ok-test_held.ensures))

pub returns-then-told-ne0 : goal.returns-then-told-ne0
returns-then-told-ne0 c =
    let g = c.args in
    let at = (goal.at.returns-then-told-ne0 c).In_ok-test_held in
    let some = zero_there at ∙ ap not (ne_eqb _ _ c.if-told-ne0.true) in
    record { result_value = answered at _ (sym (number_vanished g.told.rows g.factors.now g.told.pairs some)); answer_ranged = inl refl }

pub signed_product-requires : goal.signed_product-requires
signed_product-requires c =
    let at = (goal.at.signed_product-requires c).In_ok-test_held in
    (square_matrix _ _ _ _ refl (past at), (past at).finite, zero_there at ∙ ap not (eq-eqb _ _ c.if-told-ne0.false))

pub returns : goal.returns
returns c =
    let g = c.args in
    let at = (goal.at.returns c).In_ok-test_held in
    let is = number_signed g.told.rows g.factors.now g.told.pairs (zero_there at ∙ ap not (eq-eqb _ _ c.if-told-ne0.false)) in
    record { result_value = answered at _ (c.signed_product.ensures.value ∙ sym is); answer_ranged = inr c.signed_product.ensures.in_range }
