-- What document 01 asks of a double besides IEEE 754's own operations: zero and one, the magnitude, the test for a zero, and step 5's product and sum.
-- That a number is finite is the library's `finite`.
use Rattle.std.specs.Prelude.{Bool, cond, Float}
use Rattle.std.specs.Float.{binary64}
use Rattle.std.specs.Float.Ieee.{add, mul, neg, lt, eq, of_bits}

-- +0.0 and 1.0, by their bits, as the code has them
abbrev pub zero64 : Float
zero64 = of_bits binary64 0

abbrev pub one64 : Float
one64 = of_bits binary64 0x3ff0_0000_0000_0000

-- "Forms that must change": the magnitude, worked out from the sign. A zero keeps its sign, which no comparison sees.
unfoldable pub magnitude : Float → Float
magnitude x = cond (lt x zero64) (neg x) x

-- "Refusal numbers", 6: a zero of either sign
unfoldable pub is_zero : Float → Bool
is_zero x = eq x zero64

-- "Elimination", step 5, for one number: a times x, rounded, plus y, rounded
unfoldable pub plus_product : Float → Float → Float → Float
plus_product a x y = add binary64 (mul binary64 a x) y
