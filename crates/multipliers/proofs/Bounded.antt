-- What stands below a diagonal number of finite factors is within one where that number is at most 2 ^ 1022; and zero where it is zero. Assumes nothing.
use mathlib.Core.Path.{◌≡◌, sym, ap, ◌∙◌, subst}
use mathlib.Core.Bool.{true, true≢false}
use Prim.Native.Nat.{zero-le}
use lib.Ieee.{Float}
use lib.Ieee.Scale.{finite}
use Rattle.numbers.specs.Numbers.{is_zero}
use Rattle.units.specs.Units.{AtMost, one_units, most_units}
use Rattle.units.proofs.Units.{zero_units}
use Rattle.units.proofs.Bound.{multiplier_bound}
use Rattle.multipliers.proofs.Below.{Below, passed_over, multiplier_of}

-- THEOREM. Below a diagonal number of at most 2 ^ 1022 every finite number is at most 1.
pub bounded : (d l : Float) → Below d l → finite l ≡ true → AtMost most_units d → AtMost one_units l
bounded d l (passed_over z below) ok b = record { count = 0; is = zero_units l below; few = zero-le }
bounded d l (multiplier_of x made) ok b =
    subst (AtMost one_units) (sym made.is) (multiplier_bound x d b made.greatest (ap finite (sym made.is) ∙ ok))

pub zero_below : (d l : Float) → Below d l → is_zero d ≡ true → is_zero l ≡ true
zero_below d l (passed_over z below) e = below
zero_below d l (multiplier_of x made) e = absurd (true≢false (sym e ∙ made.nonzero))
