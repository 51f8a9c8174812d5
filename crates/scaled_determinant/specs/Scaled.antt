-- Document 02, request 10: a number as "a significand of magnitude from 1 up to but not 2, with a signed binary exponent, kept together as one record", and
-- what a further number makes of such a record.
use Rattle.std.specs.Prelude.{cond, ◌-◌, ℤ, pos, ◌+ℤ◌, Float}
use Rattle.std.specs.Float.{nan, inf, fin, binary64}
use Rattle.std.specs.Float.Ieee.{minus, size, mul, le, of_bits}
use Rattle.numbers.specs.Numbers.{magnitude}
use Rattle.scaled_determinant.specs.declared.Scaled.{Scaled}

abbrev pub scaled : Float → ℤ → Scaled
scaled significand exponent = record { significand = significand; exponent = exponent }

-- 2.0 and 0.5, by their bits, as the code has them
abbrev pub two64 : Float
two64 = of_bits binary64 0x4000_0000_0000_0000

abbrev pub half64 : Float
half64 = of_bits binary64 0x3fe0_0000_0000_0000

-- the two parts of a finite number that is not zero: m * 2 ^ e is m / 2 ^ l times 2 ^ (e + l), where m has l + 1 binary digits
unfoldable pub significand_of : Float → Float
significand_of nan = nan
significand_of (inf s) = inf s
significand_of (fin s m e) = fin s m (minus 0 (size m - 1))

unfoldable pub exponent_of : Float → ℤ
exponent_of nan = pos 0
exponent_of (inf s) = pos 0
exponent_of (fin s m e) = e +ℤ pos (size m - 1)

-- "take each diagonal as significand and exponent"
abbrev pub parts_of : Float → Scaled
parts_of x = scaled (significand_of x) (exponent_of x)

-- "when the magnitude reaches 2, halve and add one"
unfoldable pub halved_at_two : Float → ℤ → Scaled
halved_at_two p e = cond (le two64 (magnitude p)) (scaled (mul binary64 p half64) (e +ℤ pos 1)) (scaled p e)

-- "multiply significands, rounded once"; "add the exponents"
unfoldable pub scaled_times : Scaled → Float → Scaled
scaled_times r x = halved_at_two (mul binary64 r.significand (significand_of x)) (r.exponent +ℤ exponent_of x)
