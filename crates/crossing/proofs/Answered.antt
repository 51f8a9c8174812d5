-- The quick check is refused exactly where the file's matrix is not factored: what an accepted factoring gave passes the tests of the scaled determinant, which
-- has no refusal of its own besides. Assumes nothing.
use mathlib.Core.Path.{◌≡◌, refl, sym, ap, ◌∙◌}
use mathlib.Core.List.{List}
use Prim.Native.Nat.{ℕ}
use lib.ListN.{replicate}
use Rattle.numbers.specs.Column.{Column}
use Rattle.refusals.specs.Outcome.{Outcome, done, refused, and_then}
use Rattle.refusals.proofs.Outcomes.{tested_none}
use Rattle.refusals.proofs.Cases.{done_same, never_both, tested_done, then_done, then_refused}
use Rattle.factors.specs.Held.{held_refusal}
use Rattle.lu.specs.Factoring.{factoring}
use Rattle.from_factors.specs.Determinant.{square_asks}
use Rattle.from_factors.proofs.Accepted.{accepted_passes}
use Rattle.panel_file.specs.File.{pads_of, matrix_of}
use Rattle.panel_file.specs.Reading.{file_refusal}
use Rattle.scaled_determinant.specs.Determinant.{scaled_determinant, scaling}
use Rattle.crossing.specs.Below.{Packed, packed, factors_of, scaled_by}
use Rattle.crossing.specs.Factors.{factors_in, stiffness}

-- what factoring made passes
factored_passes : (n : ℕ) (a : Column) (f : Packed) → factors_of a n ≡ done f → held_refusal f.factors f.swaps f.told square_asks ≡ 0
unfolding factors_of
factored_passes n a f e =
    let o = factoring a n n a (replicate 128 0) in
    then_done o.answer (λ told. done (packed o.left.factors o.left.store told)) f e (λ told ok is.
    ap (λ (p : Packed). held_refusal p.factors p.swaps p.told square_asks) (sym (done_same _ f is))
    ∙ accepted_passes n n a a (replicate 128 0) told ok square_asks (λ _. refl) refl refl refl refl refl)

-- THEOREM. Where a file's matrix is factored, its quick check is answered; so its refusals are the reader's 8, 1, 3, 5 and factoring's 7.
pub stiffness_answered : (bytes : List ℕ) (f : Packed) → factors_in bytes ≡ done f
    → stiffness bytes ≡ done (scaled_determinant f.factors f.told.rows f.told.pairs)
unfolding stiffness factors_in scaled_by scaling
stiffness_answered bytes f e =
    let o = tested_done (file_refusal bytes) (factors_of (matrix_of (pads_of bytes) bytes) (pads_of bytes)) f e in
    ap (λ (q : Outcome Packed). and_then q scaled_by) e
    ∙ tested_none _ refused (done (scaled_determinant f.factors f.told.rows f.told.pairs)) (factored_passes _ _ f o.1)

pub stiffness_refusals : (bytes : List ℕ) (k : ℕ) → stiffness bytes ≡ refused k → factors_in bytes ≡ refused k
unfolding stiffness
stiffness_refusals bytes k e =
    then_refused (factors_in bytes) scaled_by k e (λ same. same)
    (λ f ok _. never_both (scaled_determinant f.factors f.told.rows f.told.pairs) k (sym (stiffness_answered bytes f ok) ∙ e))
