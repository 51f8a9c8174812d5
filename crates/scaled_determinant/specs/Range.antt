-- Document 02, request 10: within which numbers an answer lies.
use Rattle.std.specs.Prelude.{◌≡◌, ◌⊎◌, true, pos, negsuc, ◌≤ℤ◌, Result, Ok, Err}
use Rattle.std.specs.Float.Ieee.{lt, le}
use Rattle.numbers.specs.Numbers.{one64, magnitude}
use Rattle.scaled_determinant.specs.declared.Scaled.{Scaled}
use Rattle.refusals.specs.declared.Refusal.{Refusal}
use Rattle.scaled_determinant.specs.Scaled.{two64}
use Rattle.scaled_determinant.specs.Determinant.{vanished}

-- "a significand of magnitude from 1 up to but not 2", and the exponent of at most 64 diagonals: from -68,736 up to 65,535
pub record InRange (r : Scaled) : Type 0 where
  pub from_one : le one64 (magnitude r.significand) ≡ true
  pub below_two : lt (magnitude r.significand) two64 ≡ true
  pub least : negsuc 68735 ≤ℤ r.exponent
  pub most : r.exponent ≤ℤ pos 65535

-- or "+0.0 with exponent 0"
abbrev pub Ranged : Scaled → Type 0
Ranged r = (r ≡ vanished) ⊎ InRange r

abbrev pub AnswerRanged : Result Scaled Refusal → Type 0
AnswerRanged (Ok r) = Ranged r
AnswerRanged (Err refusal) = Unit {0}
