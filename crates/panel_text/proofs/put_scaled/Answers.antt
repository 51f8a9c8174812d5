-- The digits, the space, the exponent, the newline (`scaled_line`). Assumes nothing.
use mathlib.Core.Path.{◌≡◌, sym, ap, ◌∙◌}
use Prim.Native.Nat.{◌+◌}
use native.Mathlib.Omega.{arith}
use lib.IntN.{ℤ}
use lib.ListN.{length, set, length-set}
use lib.Ieee.{binary64, to_bits}
use mir.Syntax.{w32}
use mir.Val.{to_z, of_z}
use mir.ValLaws.{to_z-of_z}
use Rattle.io.specs.Digits.{last_digits}
use Rattle.panel_file.proofs.Bits.{no_nan}
use Rattle.scaled_determinant.proofs.Range.{ranged_finite, ranged_few}
use Rattle.panel_text.specs.Text.{written, signed, scaled_text}
use Rattle.panel_text.proofs.Writing.{length_written, length_digits}
use Rattle.panel_text.proofs.Whole.{ScaledLine, scaled_line}
use Rattle.panel_text.proofs.put_scaled.Goals.{After-slice_known-3-1, After-struct_known-1}
use Rattle.panel_text.proofs.put_scaled.Goals as goal

-- the exponent as the call is handed it
kept_is : (c : After-struct_known-1) → to_z w32 (of_z w32 c.args.r.exponent) ≡ c.args.r.exponent
kept_is c = to_z-of_z w32 c.args.r.exponent (record { sfits = omega (arith, ranged_few c.args.r c.requires.1) })

-- the exponent behind the space
tail : (c : After-slice_known-3-1) → c.put_signed-end.new.out ≡ written 17 (signed c.args.r.exponent) (set c.put_hex.new.out 16 32)
tail c =
    let kept_is : to_z w32 (of_z w32 c.args.r.exponent) ≡ c.args.r.exponent =
    to_z-of_z w32 c.args.r.exponent (record { sfits = omega (arith, ranged_few c.args.r c.requires.1) }) in
    c.put_signed-end.ensures.out_after ∙ ap (λ (z : ℤ). written 17 (signed z) (set c.put_hex.new.out 16 32)) kept_is

place : (c : After-slice_known-3-1) → c.put_signed-end.result ≡ 17 + length (signed c.args.r.exponent)
place c =
    let kept_is : to_z w32 (of_z w32 c.args.r.exponent) ≡ c.args.r.exponent =
    to_z-of_z w32 c.args.r.exponent (record { sfits = omega (arith, ranged_few c.args.r c.requires.1) }) in
    c.put_signed-end.ensures.value ∙ ap (λ (z : ℤ). 17 + length (signed z)) kept_is

-- the line but for its newline
line : (c : After-slice_known-3-1) → ScaledLine (last_digits 16 16 (to_bits binary64 c.args.r.significand)) c.args.r.exponent c.args.out.now
    c.put_signed-end.new.out
    c.put_signed-end.result
line c =
    let bits = to_bits binary64 c.args.r.significand in
    scaled_line (last_digits 16 16 bits) c.args.r.exponent _ _ _ _ (length_digits 16 16 bits) c.requires.0 c.put_hex.ensures (tail c) (place c)

pub float_to_bits-r : goal.float_to_bits-r
float_to_bits-r c = no_nan c.args.r.significand (ranged_finite c.args.r c.requires.1)

pub put_signed-end-requires : goal.put_signed-end-requires
put_signed-end-requires c =
    let bits = to_bits binary64 c.args.r.significand in
    let out = c.args.out.now in
    let size : length c.put_hex.new.out ≡ 1288 =
    ap length c.put_hex.ensures ∙ length_written 0 (last_digits 16 16 bits) out (omega (arith, length_digits 16 16 bits, c.requires.0)) ∙ c.requires.0 in
    (rw (kept_is (goal.at.put_signed-end-requires c).After-struct_known-1) (omega (arith, ranged_few c.args.r c.requires.1)), simp length-set (omega arith))

pub bounds-out-end : goal.bounds-out-end
bounds-out-end c = let l = line c in omega (arith, l.size, l.room)

pub overflow_add-result : goal.overflow_add-result
overflow_add-result c = record { fits = omega (arith, (line c).room) }

pub shape_of-out : goal.shape_of-out
shape_of-out c = simp length-set ((line c).size ∙ sym c.requires.0)

pub returns : goal.returns
unfolding scaled_text
returns c =
    let l = line c in
    record { value = l.count; out_after = l.text }
