-- A subnormal number by the normal one that it is lifted to (`small_read`), any other as it stands. Assumes nothing.
use mathlib.Core.Path.{◌≡◌, refl, sym, ap, ◌∙◌, subst}
use Prim.Native.Nat.{◌<◌}
use denote.Floats.{passes}
use lib.Dec.{T}
use lib.Ieee.{Float, binary64, mul, fits, of_bits, to_bits}
use Rattle.scaled_determinant.specs.Scaled.{parts_of}
use Rattle.scaled_determinant.specs.Inner.{Parted}
use Rattle.scaled_determinant.proofs.OneWay.{Fine}
use Rattle.scaled_determinant.proofs.Parts.{parted_fine, fine_parted}
use Rattle.scaled_determinant.proofs.Pattern.{field_of, lift, lifted, fine_number}
use Rattle.scaled_determinant.proofs.Steps.{small_held, small_read}
use Rattle.scaled_determinant.proofs.parts_of.Goals.{Start}
use Rattle.scaled_determinant.proofs.parts_of.Goals as goal

-- 2 ^ 54, as the code has it
lift_is : of_bits binary64 0x4350_0000_0000_0000 ≡ lift
unfolding of_bits
lift_is = refl

-- x is a double, finite and not zero
double : (c : Start) → T (fits binary64 c.args.x)
double c = passes _ c.well_formed.0.1

fine : (c : Start) → Fine c.args.x
fine c = parted_fine c.args.x c.requires

pub float_to_bits-field : goal.float_to_bits-field
float_to_bits-field c = fine_number c.args.x (fine c)

pub normal_parts-p-requires : goal.normal_parts-p-requires
normal_parts-p-requires c =
    let x = c.args.x in
    let l = lifted x (double (goal.at.normal_parts-p-requires c).Start) (fine (goal.at.normal_parts-p-requires c).Start) c.if-field-eq0.true in
    subst (λ (z : Float). Parted (mul binary64 x z) × (0 < field_of (to_bits binary64 (mul binary64 x z)))) (sym lift_is) (fine_parted _ l.fine, l.normal)

pub overflow_sub-result : goal.overflow_sub-result
overflow_sub-result c =
    small_held c.args.x (double (goal.at.overflow_sub-result c).Start) (fine (goal.at.overflow_sub-result c).Start) c.if-field-eq0.true c.normal_parts-p.result
    (c.normal_parts-p.ensures ∙ ap (λ (z : Float). parts_of (mul binary64 c.args.x z)) lift_is)

pub returns-then-field-eq0 : goal.returns-then-field-eq0
returns-then-field-eq0 c =
    small_read c.args.x (double (goal.at.returns-then-field-eq0 c).Start) (fine (goal.at.returns-then-field-eq0 c).Start) c.if-field-eq0.true
    c.normal_parts-p.result
    (c.normal_parts-p.ensures ∙ ap (λ (z : Float). parts_of (mul binary64 c.args.x z)) lift_is)
