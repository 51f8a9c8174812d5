-- Which bits are a NaN's, and that the library reads them as the NaN. Assumes nothing.
use mathlib.Core.Path.{◌≡◌, refl, sym, ◌∙◌}
use mathlib.Core.Bool.{true, not, false≢true}
use Prim.Native.Nat.{ℕ, ◌%◌, ◌≤◌, ◌<◌}
use borrow.Author.Tests.{lt-ltb, le-ltb}
use lib.Dec.{T}
use lib.Ieee.{Float, nan, inf, fin, binary64, div, is_nan, nan_bits, of_bits}
use lib.Ieee.Bits.{nan_bits_is, nan_bits_above}
use Rattle.numbers.specs.Numbers.{zero64}

only_nan : (x : Float) → is_nan x ≡ true → nan ≡ x
unfolding is_nan
only_nan nan e = refl
only_nan (inf s) e = absurd (false≢true e)
only_nan (fin s m d) e = absurd (false≢true e)

zero_over_zero : div binary64 zero64 zero64 ≡ nan
unfolding div of_bits
zero_over_zero = refl

module _ (b : ℕ) where
  pub nan_read : 0x7ff0_0000_0000_0000 < b % 0x8000_0000_0000_0000 → div binary64 zero64 zero64 ≡ of_bits binary64 b
  nan_read h = zero_over_zero ∙ only_nan (of_bits binary64 b) (sym (nan_bits_is binary64 b) ∙ nan_bits_above binary64 b ∙ lt-ltb _ _ h)

  pub number_read : b % 0x8000_0000_0000_0000 ≤ 0x7ff0_0000_0000_0000 → T (not (nan_bits binary64 b))
  number_read h = rw (nan_bits_above binary64 b ∙ le-ltb _ _ h) tt
