-- The code's steps, over plain values: each law's premises are what the calls before it ensure. An exponent goes through an i32, which holds it: a double's is
-- from -1074 up to 1023, and a running one stays far from the ends. Assumes nothing.
use mathlib.Core.Path.{◌≡◌, refl, sym, ap, ap₂, ◌∙◌, subst}
use mathlib.Core.Bool.{true, false}
use Prim.Native.Nat.{◌<◌}
use native.Mathlib.Omega.{arith}
use lib.IntN.{ℤ, pos, ◌+ℤ◌, ◌-ℤ◌}
use lib.Signed.{mag}
use lib.Dec.{T}
use lib.Ieee.{Float, binary64, mul, le, fits, of_bits, to_bits}
use mir.Syntax.{w32}
use mir.Val.{SFits, to_z, of_z}
use mir.ValLaws.{to_z_pos, to_z-of_z}
use Rattle.numbers.specs.Numbers.{magnitude}
use Rattle.scaled_determinant.specs.declared.Scaled.{Scaled}
use Rattle.scaled_determinant.specs.Scaled.{scaled, two64, half64, exponent_of, parts_of, halved_at_two, scaled_times}
use Rattle.scaled_determinant.proofs.OneWay.{Fine}
use Rattle.scaled_determinant.proofs.Significand.{reached, not_reached}
use Rattle.scaled_determinant.proofs.Exponents.{mag_within, mag_sum}
use Rattle.scaled_determinant.proofs.Parts.{exponent_single, both}
use Rattle.scaled_determinant.proofs.Pattern.{field_of, at_one, lift, normal_parts, Lifted, lifted}

-- an i32's number, as it comes out of a struct
abbrev pub kept : ℤ → ℤ
kept e = to_z w32 (of_z w32 e)

pub is_kept : (e : ℤ) → mag e < 0x8000_0000 → kept e ≡ e
is_kept e h = to_z-of_z w32 e (record { sfits = h })

-- ---- a number taken apart
module _ (x : Float) (t : T (fits binary64 x)) (f : Fine x) where
  exponent_mag : mag (exponent_of x) < 0x8000_0000
  exponent_mag = omega (arith, mag_within 1 (exponent_of x) (omega arith) (exponent_single x t f))

  pub exponent_kept : kept (exponent_of x) ≡ exponent_of x
  exponent_kept = is_kept (exponent_of x) exponent_mag

  module _ (normal : 0 < field_of (to_bits binary64 x)) where
    exponent_read : to_z w32 (field_of (to_bits binary64 x)) -ℤ pos 1023 ≡ exponent_of x
    exponent_read =
        ap (λ (z : ℤ). z -ℤ pos 1023) (to_z_pos w32 (field_of (to_bits binary64 x)) (omega arith)) ∙ ap (λ (r : Scaled). r.exponent) (normal_parts x t f normal)

    pub normal_held : SFits w32 (to_z w32 (field_of (to_bits binary64 x)) -ℤ pos 1023)
    normal_held = subst (SFits w32) (sym exponent_read) (record { sfits = exponent_mag })

    pub normal_read : scaled (of_bits binary64 (at_one (to_bits binary64 x))) (kept (to_z w32 (field_of (to_bits binary64 x)) -ℤ pos 1023)) ≡ parts_of x
    normal_read = both (ap (λ (r : Scaled). r.significand) (normal_parts x t f normal)) (ap kept exponent_read ∙ exponent_kept)

-- the parts p of a subnormal number times 2 ^ 54
module _ (x : Float) (t : T (fits binary64 x)) (f : Fine x) (zero : field_of (to_bits binary64 x) ≡ 0) (p : Scaled) (is : p
    ≡ parts_of (mul binary64 x lift)) where
  l : Lifted x
  l = lifted x t f zero

  exponent_back : kept p.exponent -ℤ pos 54 ≡ exponent_of x
  exponent_back =
      ap (λ (r : Scaled). kept r.exponent -ℤ pos 54) is
      ∙ ap (λ (z : ℤ). z -ℤ pos 54) (exponent_kept (mul binary64 x lift) l.double l.fine)
      ∙ ap (λ (r : Scaled). r.exponent) l.parts

  pub small_held : SFits w32 (kept p.exponent -ℤ pos 54)
  small_held = subst (SFits w32) (sym exponent_back) (record { sfits = exponent_mag x t f })

  pub small_read : scaled p.significand (kept (kept p.exponent -ℤ pos 54)) ≡ parts_of x
  small_read =
      both (ap (λ (r : Scaled). r.significand) is ∙ ap (λ (r : Scaled). r.significand) l.parts) (ap kept exponent_back ∙ exponent_kept x t f)

-- ---- a product of significands with its exponent, which is not yet near the ends
module _ (q : Float) (e : ℤ) (room : mag e < 0x5000_0000) where
  more_mag : mag (e +ℤ pos 1) < 0x8000_0000
  more_mag = omega (arith, room, mag_sum e (pos 1))

  pub more_held : SFits w32 (kept e +ℤ pos 1)
  more_held = subst (λ (z : ℤ). SFits w32 (z +ℤ pos 1)) (sym (is_kept e (omega (arith, room)))) (record { sfits = more_mag })

  pub halved_more : le two64 (magnitude q) ≡ true → scaled (mul binary64 q half64) (kept (kept e +ℤ pos 1)) ≡ halved_at_two q e
  halved_more h =
      both refl (ap (λ (z : ℤ). kept (z +ℤ pos 1)) (is_kept e (omega (arith, room))) ∙ is_kept (e +ℤ pos 1) more_mag) ∙ sym (reached q e h)

  pub as_it_is : le two64 (magnitude q) ≡ false → scaled q (kept e) ≡ halved_at_two q e
  as_it_is h = both refl (is_kept e (omega (arith, room))) ∙ sym (not_reached q e h)

-- ---- one diagonal more: p are the parts of x
module _ (r : Scaled) (x : Float) (t : T (fits binary64 x)) (f : Fine x) (room : mag r.exponent < 0x4000_0000) (p : Scaled) (is : p ≡ parts_of x) where
  abbrev e : ℤ
  e = r.exponent +ℤ exponent_of x

  sum_mag : mag e < 0x5000_0000
  sum_mag = omega (arith, mag_sum r.exponent (exponent_of x), mag_within 1 (exponent_of x) (omega arith) (exponent_single x t f))

  summed : kept r.exponent +ℤ kept p.exponent ≡ e
  summed =
      ap (λ (z : ℤ). z +ℤ kept p.exponent) (is_kept r.exponent (omega (arith, room)))
      ∙ ap (λ (q : Scaled). r.exponent +ℤ kept q.exponent) is
      ∙ ap (λ (z : ℤ). r.exponent +ℤ z) (exponent_kept x t f)

  summed_kept : kept (kept r.exponent +ℤ kept p.exponent) ≡ e
  summed_kept = ap kept summed ∙ is_kept e (omega (arith, sum_mag))

  pub sum_held : SFits w32 (kept r.exponent +ℤ kept p.exponent)
  sum_held = subst (SFits w32) (sym summed) (record { sfits = omega (arith, sum_mag) })

  pub sum_room : mag (kept (kept r.exponent +ℤ kept p.exponent)) < 0x5000_0000
  sum_room = subst (λ (z : ℤ). mag z < 0x5000_0000) (sym summed_kept) sum_mag

  pub times_made : halved_at_two (mul binary64 r.significand p.significand) (kept (kept r.exponent +ℤ kept p.exponent)) ≡ scaled_times r x
  unfolding scaled_times
  times_made = ap₂ halved_at_two (ap (λ (q : Scaled). mul binary64 r.significand q.significand) is) summed_kept
