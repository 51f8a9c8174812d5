-- Each outcome by its law. Assumes nothing.
use mathlib.Core.Path.{◌≡◌, sym, ap₂, ◌∙◌}
use mathlib.Core.Bool.{◌&&◌}
use Rattle.finite.specs.Finite.{all_finite}
use Rattle.store.specs.Columns.{flat}
use Rattle.four_by_four.specs.System.{listed, matrix_of}
use Rattle.four_pads.proofs.Outcomes.{refused_five, refused_seven, loaded_is}
use Rattle.four_pads.proofs.solved.Goals as goal

pub returns-then-not-ok : goal.returns-then-not-ok
returns-then-not-ok c =
    let both : (c.finite_matrix.result && c.finite.result) ≡ (all_finite (flat (matrix_of c.args.s)) && all_finite (listed c.args.s.x)) =
    ap₂ ◌&&◌ c.finite_matrix.ensures c.finite.ensures in
    c.refused.ensures ∙ refused_five c.args.s (sym both ∙ c.if-not-ok.true)

pub returns-then-not-finite_matrix : goal.returns-then-not-finite_matrix
returns-then-not-finite_matrix c =
    let both : (c.finite_matrix.result && c.finite.result) ≡ (all_finite (flat (matrix_of c.args.s)) && all_finite (listed c.args.s.x)) =
    ap₂ ◌&&◌ c.finite_matrix.ensures c.finite.ensures in
    c.refused-then-not-finite_matrix.ensures
    ∙ refused_seven c.args.s (sym both ∙ c.if-not-ok.false) _ c.reduce-e.ensures
    (sym c.finite_matrix-2.ensures ∙ c.if-not-finite_matrix.true)

pub returns : goal.returns
returns c =
    let both : (c.finite_matrix.result && c.finite.result) ≡ (all_finite (flat (matrix_of c.args.s)) && all_finite (listed c.args.s.x)) =
    ap₂ ◌&&◌ c.finite_matrix.ensures c.finite.ensures in
    c.loaded.ensures
    ∙ loaded_is c.args.s (sym both ∙ c.if-not-ok.false) _ c.reduce-e.ensures
    (sym c.finite_matrix-2.ensures ∙ c.if-not-finite_matrix.false)
