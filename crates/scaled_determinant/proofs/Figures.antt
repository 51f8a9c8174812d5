-- Worked cases, by computation: what a product that underflows comes to, both ends of the exponent, and the edges of the words "reaches 2" and "above 2^-1022".
-- Assumes nothing.
use mathlib.Core.Path.{◌≡◌, refl}
use mathlib.Core.Bool.{true, false}
use mathlib.Core.List.{[], ◌∷◌}
use Prim.Native.Nat.{◌+◌, ◌-◌, ◌^◌}
use lib.IntN.{pos, negsuc}
use lib.ListN.{replicate}
use lib.Ieee.{Float, fin, le, size}
use Rattle.numbers.specs.Column.{Column}
use Rattle.store.specs.Steps.{Matrix}
use Rattle.refusals.specs.Outcome.{Outcome, done}
use Rattle.solve.specs.Calls.{zero_on_diagonal}
use Rattle.factors.specs.Factors.{store_of, record_of}
use Rattle.from_factors.specs.Determinant.{determinant_of, determining}
use Rattle.from_factors.proofs.Figures.{Computes as Determines, n0, n1, n2}
use Rattle.scaled_determinant.specs.declared.Scaled.{Scaled}
use Rattle.scaled_determinant.specs.Scaled.{scaled, significand_of, exponent_of, halved_at_two, scaled_times}
use Rattle.scaled_determinant.specs.Determinant.{scaled_turn, scaled_product, scaled_determinant, scaling}

-- a name for all that has to unfold for the call to compute
unfoldable pub Computes : Type 0
unfolding Determines zero_on_diagonal le size determinant_of significand_of exponent_of halved_at_two scaled_times scaled_turn scaled_product
    scaled_determinant scaling
Computes = Unit {0}

-- 2 ^ -600 twice on the diagonal, and 2 with 1 behind one swap
abbrev pub soft : Column
soft = fin false 1 (negsuc 599) ∷ n0 ∷ n0 ∷ fin false 1 (negsuc 599) ∷ []

abbrev pub swapped : Column
swapped = n2 ∷ n0 ∷ n0 ∷ n1 ∷ []

-- FIGURE. "Our quick check of a crossing's stiffness prints 0 for soft ground": 2 ^ -600 twice gives 0, and 1 times 2 ^ -1200.
pub soft_ground : ◌≡◌ {A = Outcome Float × Outcome Scaled}
    (determining soft (store_of []) (record_of 2 2 0 0), scaling soft (store_of []) (record_of 2 2 0 0))
    (done n0, done (scaled n1 (negsuc 1199)))
unfolding Computes
soft_ground = refl

-- FIGURE. One swap: -1 times 2 ^ 1.
pub one_swap : scaling swapped (store_of ((0, 1) ∷ [])) (record_of 2 2 1 0) ≡ done (scaled (fin true 1 (pos 0)) (pos 1))
unfolding Computes
one_swap = refl

-- FIGURE. A zero of either sign on the diagonal, and an odd number of swaps: +0.0 with exponent 0.
pub zero_diagonal : scaling (n2 ∷ n0 ∷ n0 ∷ fin true 0 (pos 0) ∷ []) (store_of ((0, 1) ∷ [])) (record_of 2 2 1 1) ≡ done (scaled n0 (pos 0))
unfolding Computes
zero_diagonal = refl

-- FIGURE. Both ends of the exponent: 64 times the least double, and 64 times the greatest.
abbrev sixty_four : Float → Matrix
sixty_four x = replicate 64 (replicate 64 x)

pub least_end : scaled_product 64 (sixty_four (fin false 1 (negsuc 1073))) ≡ scaled n1 (negsuc 68735)
unfolding Computes
least_end = refl

pub greatest_end : (scaled_product 64 (sixty_four (fin false (2 ^ 53 - 1) (pos 971)))).exponent ≡ pos 65535
unfolding Computes
greatest_end = refl

-- FIGURE. A product that rounds up to 2 is halved: 1 + 2 ^ -52 times 2 - 2 ^ -51 is 2 - 2 ^ -103.
pub rounds_to_two : scaled_times (scaled (fin false (2 ^ 52 + 1) (negsuc 51)) (pos 0)) (fin false (2 ^ 52 - 1) (negsuc 50)) ≡ scaled n1 (pos 1)
unfolding Computes
rounds_to_two = refl

-- FIGURE. "Above 2^-1022" and not "from 2^-1022 on": 2 - 2 ^ -52 times 2 ^ -1023 is a tie below 2 ^ -1022, to which the plain product rounds up; the scaled
-- one is exact.
abbrev tie : Matrix
tie = (fin false (2 ^ 53 - 1) (negsuc 51) ∷ n0 ∷ []) ∷ (n0 ∷ fin false 1 (negsuc 1022) ∷ []) ∷ []

pub at_the_edge : ◌≡◌ {A = Float × Scaled} (determinant_of 2 tie 0, scaled_product 2 tie)
    (fin false 1 (negsuc 1021), scaled (fin false (2 ^ 53 - 1) (negsuc 51)) (negsuc 1022))
unfolding Computes
at_the_edge = refl
