-- A scaled determinant through two pointers: its significand, and its exponent, whose 32 bits are the number, since it is in its range. By the answer's
-- cases. Assumes nothing.
use mathlib.Core.Path.{◌≡◌, refl, sym, ap, ◌∙◌, subst}
use Prim.Native.Nat.{ℕ}
use native.Mathlib.Omega.{arith}
use lib.IntN.{ℤ}
use lib.Ieee.{Float}
use Rattle.std.proofs.Common.{Result, Ok}
use Rattle.refusals.specs.declared.Refusal.{Refusal}
use Rattle.refusals.specs.Outcome.{Outcome, outcome, number_of}
use Rattle.scaled_determinant.specs.declared.Scaled.{Scaled}
use Rattle.scaled_determinant.specs.Determinant.{vanished}
use Rattle.scaled_determinant.specs.Range.{AnswerRanged}
use Rattle.scaled_determinant.proofs.Range.{ranged_few}
use Rattle.scaled_determinant.proofs.Steps.{kept, is_kept}
use Rattle.ffi.specs.Exports.{value_after, result_after}

module _ (made : Result Scaled Refusal) (o : Outcome Scaled) (e : outcome made ≡ o) (was : Scaled) where
  -- what is answered and written, x being what is to stand behind the pointers
  abbrev Left : (number : ℕ) (significand : Float) (exponent : ℤ) → Scaled → Type 0
  Left number significand exponent x = (number ≡ number_of o) × ((significand ≡ x.significand) × (exponent ≡ x.exponent))

  pub parts_told : AnswerRanged made → (r : Scaled) → made ≡ Ok r
      → Left 0 r.significand (kept r.exponent) (value_after o was) × Left 0 r.significand (kept r.exponent) (result_after vanished o was)
  parts_told g r is =
      let few = ranged_few r (subst AnswerRanged is g) in
      let same = is_kept r.exponent (omega (arith, few)) in
      rw (sym e ∙ ap outcome is) ((refl, (refl, same)), (refl, (refl, same)))
