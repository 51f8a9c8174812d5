-- Document 02, request 12: "each finite double is a whole number times 2^-1074".
use Rattle.std.specs.Prelude.{◌≡◌, ℕ, ◌*◌, ◌^◌, ◌≤◌, Float}
use Rattle.std.specs.Float.{nan, inf, fin, binary64}
use Rattle.std.specs.Float.Ieee.{up, down, mul, div}
use Rattle.numbers.specs.Numbers.{one64}

-- The number m * 2 ^ e is, but for its sign, n units of 2 ^ -1074; 2 ^ e is the fraction up e / down e. A NaN and an infinity are none.
abbrev pub IsUnits : Float → ℕ → Type 0
IsUnits nan n = ⊥
IsUnits (inf s) n = ⊥
IsUnits (fin s m e) n = m * up e * 2 ^ 1074 ≡ n * down e

-- "of magnitude at most": a whole number of units, and no more than so many
pub record AtMost (most : ℕ) (x : Float) : Type 0 where
  pub count : ℕ
  pub is : IsUnits x count
  pub few : count ≤ most

-- 1, and 2 ^ 1022, in units
abbrev pub one_units : ℕ
one_units = 2 ^ 1074

abbrev pub most_units : ℕ
most_units = 2 ^ 2096

-- Document 01, "Elimination", step 4: the entry times the pivot's reciprocal, each rounded once
abbrev pub multiplier : Float → Float → Float
multiplier entry pivot = mul binary64 entry (div binary64 one64 pivot)
