-- The product, whose exponent an i32 holds, with the sign of the swaps. Assumes nothing.
use mathlib.Core.Path.{◌≡◌, sym, ap, subst}
use lib.Ieee.{binary64, mul}
use Rattle.store.specs.Columns.{columns}
use Rattle.store.proofs.Columns.{sized}
use Rattle.scaled_determinant.specs.Scaled.{scaled}
use Rattle.scaled_determinant.specs.Determinant.{scaled_product, signed_by}
use Rattle.scaled_determinant.specs.Range.{InRange}
use Rattle.scaled_determinant.proofs.Parts.{both}
use Rattle.scaled_determinant.proofs.Range.{in_range}
use Rattle.scaled_determinant.proofs.Diagonal.{diagonal_sound}
use Rattle.scaled_determinant.proofs.Steps.{kept, is_kept}
use Rattle.scaled_determinant.proofs.signed_product.Goals.{After-struct_told-1}
use Rattle.scaled_determinant.proofs.signed_product.Goals as goal

-- the number made
made : (c : After-struct_told-1) → scaled (mul binary64 c.scaled_product-r.result.significand c.determinant.result) (kept c.scaled_product-r.result.exponent)
    ≡ signed_by c.args.pairs (scaled_product c.args.n (columns c.args.n c.args.n c.args.factors.now))
made c =
    let held = is_kept c.scaled_product-r.result.exponent c.struct_told-1.given.1.0.1 in
    rw (← c.scaled_product-r.ensures) (both (ap (mul binary64 c.scaled_product-r.result.significand) c.determinant.ensures) held)

pub returns : goal.returns
returns c =
    let n = c.args.n in
    let factors = c.args.factors.now in
    let sound = diagonal_sound n factors c.requires.0 c.requires.1 c.requires.2 c.shared_slice_known-1.given in
    record {
      value = made c;
      in_range = subst InRange (sym (made c)) (in_range n (columns n n factors) c.args.pairs (sized n n factors c.requires.0).rows_most sound);
    }
