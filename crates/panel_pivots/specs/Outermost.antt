-- The greatest and the least magnitude of some numbers, and the diagonal of n by n factors.
use Rattle.std.specs.Prelude.{◌≡◌, Bool, false, not, ◌⊎◌, ℕ, ◌+◌, ◌*◌, ◌<◌, T, Float}
use Rattle.std.specs.Float.{binary64}
use Rattle.std.specs.Float.Ieee.{lt, is_nan, of_bits}
use Rattle.numbers.specs.Each.{list_of}
use Rattle.numbers.specs.Numbers.{zero64, magnitude}
use Rattle.numbers.specs.Column.{Column, entry}

-- Of the first `count` numbers of a column, r is the magnitude of one of them, or of `start`, and none of them lies beyond that. It is no NaN.
pub record Outermost (beyond : Float → Float → Bool) (start : Float) (c : Column) (count : ℕ) (r : Float) : Type 0 where
  pub of : Float
  pub is : r ≡ magnitude of
  pub found : (of ≡ start) ⊎ ((k : ℕ) × (k < count) × (of ≡ entry c k))
  pub none_beyond : (k : ℕ) → k < count → beyond of (entry c k) ≡ false
  pub number : T (not (is_nan r))

-- by magnitude, x is above y, or below it
abbrev pub above : Float → Float → Bool
above y x = lt (magnitude y) (magnitude x)

abbrev pub below : Float → Float → Bool
below y x = lt (magnitude x) (magnitude y)

-- an infinity, by its bits, as the code has it
abbrev pub infinity64 : Float
infinity64 = of_bits binary64 0x7ff0_0000_0000_0000

-- the greatest magnitude, +0.0 of no number; the least, an infinity of no number
abbrev pub Greatest : Column → ℕ → Float → Type 0
Greatest = Outermost above zero64

abbrev pub Least : Column → ℕ → Float → Type 0
Least = Outermost below infinity64

-- the numbers on the diagonal
abbrev pub diagonal_of : Column → ℕ → Column
diagonal_of t n = list_of n (λ i. entry t (i * n + i))
