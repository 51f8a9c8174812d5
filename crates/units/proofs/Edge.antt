-- Where the bound ends, by computation: 2 ^ 1022 is a pivot of 2 ^ 2096 units with a multiplier of 1, and above it a multiplier can pass 1. Assumes nothing.
use Prim.Native.Nat.{◌+◌, ◌-◌, ◌*◌, ◌^◌}
use mathlib.Core.Path.{◌≡◌, refl}
use mathlib.Core.Bool.{false}
use lib.IntN.{pos, negsuc}
use lib.Ieee.{Float, fin, mul, div, of_bits}
use Rattle.units.specs.Units.{IsUnits, one_units, most_units, multiplier}
use Rattle.units.proofs.Bound.{one}

-- 2 ^ 1022; 1 and it in units
abbrev pub largest : Float
largest = fin false 1 (pos 1022)

pub one_units_lem : IsUnits one one_units
one_units_lem = refl

pub largest_units : IsUnits largest most_units
largest_units = refl

-- at the limit the bound is met with equality
pub attained : multiplier largest largest ≡ one
unfolding mul div of_bits
attained = refl

-- below it the roundings can take a multiplier under 1, even where entry and pivot are one number: 49 / 49 comes to 1 - 2 ^ -53
pub forty_nine : multiplier (fin false 49 (pos 0)) (fin false 49 (pos 0)) ≡ fin false (2 ^ 53 - 1) (negsuc 52)
unfolding mul div of_bits
forty_nine = refl

-- ---- above it: 1.75 * 2 ^ 1023, document 01's line, and the multiplier 1 + 2 ^ -51
abbrev pub huge : Float
huge = fin false 7 (pos 1021)

abbrev pub one_and_two_steps : Float
one_and_two_steps = fin false (2 ^ 51 + 1) (negsuc 50)

pub huge_multiplier : multiplier huge huge ≡ one_and_two_steps
unfolding mul div of_bits
huge_multiplier = refl

-- ---- close above it: 2 ^ 1022 + 82,191,238 * 2 ^ 970, and the multiplier 1 + 2 ^ -52
abbrev pub above : Float
above = fin false (2 ^ 51 + 41095619) (pos 971)

abbrev pub one_and_a_step : Float
one_and_a_step = fin false (2 ^ 52 + 1) (negsuc 51)

pub above_units : IsUnits above (most_units + 82191238 * 2 ^ 2044)
above_units = refl

pub above_multiplier : multiplier above above ≡ one_and_a_step
unfolding mul div of_bits
above_multiplier = refl

pub above_passes : IsUnits one_and_a_step (one_units + 2 ^ 1022)
above_passes = refl
