-- Document 02, request 12: "in an accepted factoring, any multiplier formed from a pivot of magnitude at most 2^1022 has magnitude at most 1, exactly, over
-- whole numbers". Packed factors hold both: column j has its pivot on the diagonal, and below it the multipliers that were formed from it.
use Rattle.std.specs.Prelude.{◌≡◌, true, ℕ, ◌-◌, ◌*◌, ◌^◌, ◌≤◌, ◌<◌, min, T, Float}
use Rattle.std.specs.Float.{binary64}
use Rattle.std.specs.Float.Ieee.{fits}
use Rattle.numbers.specs.Numbers.{is_zero}
use Rattle.numbers.specs.Column.{entry}
use Rattle.store.specs.Columns.{columns}
use Rattle.store.specs.Steps.{Matrix, column}
use Rattle.factors.specs.Factors.{Factoring}
use Rattle.units.specs.Units.{IsUnits, AtMost, one_units, most_units}

-- the number in row r of column j
abbrev pub at : Matrix → ℕ → ℕ → Float
at cs r j = entry (column cs j) r

-- m by n packed factors: in each column whose pivot is of at most `limit` units, every multiplier is at most 1
abbrev pub WithinOne : ℕ → ℕ → ℕ → Matrix → Type 0
WithinOne limit m n cs = (j r : ℕ) → j < n → j < r → r < m → AtMost limit (at cs j j) → AtMost one_units (at cs r j)

-- those that a call left in its slice, by the limit of 2 ^ 1022
abbrev pub MultipliersWithinOne : ℕ → ℕ → Factoring → Type 0
MultipliersWithinOne m n o = WithinOne most_units m n (columns m n o.left.factors)

-- below a zero on the diagonal, where the step was skipped, all is zero
abbrev pub ZeroBelow : ℕ → ℕ → Matrix → Type 0
ZeroBelow m n cs = (j r : ℕ) → j < n → j < r → r < m → is_zero (at cs j j) ≡ true → is_zero (at cs r j) ≡ true

-- ---- growth
-- an m by n matrix with room to grow: no number is above the double `top` in magnitude, and 2 ^ (min(m, n) - 1) times that is at most 2 ^ 1022
pub record Roomy (units m n : ℕ) (cs : Matrix) : Type 0 where
  pub top : Float
  pub double : T (fits binary64 top)
  pub is : IsUnits top units
  pub low : units * 2 ^ (min m n - 1) ≤ most_units
  pub all : (j r : ℕ) → j < n → r < m → AtMost units (at cs r j)

-- each number of U, which stands on or above the diagonal, is in row r of at most 2 ^ r times so many units
abbrev pub GrownAtMost : ℕ → ℕ → ℕ → Matrix → Type 0
GrownAtMost units m n cs = (j r : ℕ) → j < n → r < m → r ≤ j → AtMost (units * 2 ^ r) (at cs r j)
