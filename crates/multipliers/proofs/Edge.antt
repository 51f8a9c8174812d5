-- Where the bound ends, on the call's own outcomes, by computation. Above 2 ^ 1022 a multiplier can pass 1: document 01's line with 1.75 * 2 ^ 1023, and a
-- pivot close above 2 ^ 1022. So no limit from there on would do. Assumes nothing.
use mathlib.Core.Path.{◌≡◌, refl, subst}
use mathlib.Core.List.{List, [], ◌∷◌}
use Prim.Native.Nat.{ℕ, ◌+◌, ◌*◌, ◌^◌, ◌≤◌, ◌<◌}
use native.Mathlib.Omega.{arith}
use mathlib.Core.Bool.{true}
use lib.ListN.{replicate}
use lib.IntN.{pos}
use lib.Ieee.{Float, fin}
use lib.Pow.{pow_pos}
use Rattle.numbers.specs.Column.{Column}
use Rattle.store.specs.Columns.{columns}
use Rattle.refusals.specs.Outcome.{done}
use Rattle.factors.specs.declared.Record.{Record}
use Rattle.factors.specs.Factors.{record_of}
use Rattle.lu.specs.Factoring.{factoring}
use Rattle.from_factors.proofs.Figures.{Computes, ones, fresh, n0, n1, n2, n4}
use Rattle.units.specs.Units.{AtMost, one_units, most_units}
use Rattle.units.proofs.Units.{units_unique}
use Rattle.units.proofs.Edge.{huge, one_and_two_steps, above, above_units, one_and_a_step, above_passes}
use Rattle.multipliers.specs.Multipliers.{WithinOne}

abbrev -n1 : Float
-n1 = fin true 1 (pos 0)

-- THEOREM. "2 by 1: 1.75·2^1023 twice": accepted, and the multiplier is 1 + 2 ^ -51.
pub table_line : ((fresh 2 1 (huge ∷ huge ∷ [])).answer ≡ done (record_of 2 1 0 0))
    × (columns 2 1 (fresh 2 1 (huge ∷ huge ∷ [])).left.factors ≡ (huge ∷ one_and_two_steps ∷ []) ∷ [])
unfolding Computes
table_line = (refl, refl)

pub above_accepted : (fresh 2 1 (above ∷ above ∷ [])).answer ≡ done (record_of 2 1 0 0)
unfolding Computes
above_accepted = refl

pub above_columns : columns 2 1 (fresh 2 1 (above ∷ above ∷ [])).left.factors ≡ (above ∷ one_and_a_step ∷ []) ∷ []
unfolding Computes
above_columns = refl

-- more than one
passes : AtMost one_units one_and_a_step → ⊥
passes b = past b.count one_units (2 ^ 1022) (pow_pos 1022) (units_unique one_and_a_step b.count (one_units + 2 ^ 1022) b.is above_passes) b.few
  where
    past : (count one more : ℕ) → 0 < more → count ≡ one + more → count ≤ one → ⊥
    past count one more h e l = omega arith

-- THEOREM. With any limit from 2 ^ 1022 + 82,191,238 * 2 ^ 970 on, the bound would not hold of all accepted factorings.
pub no_larger_limit : (limit : ℕ) → most_units + 82191238 * 2 ^ 2044 ≤ limit
    → ((m n : ℕ) (a out : Column) (store : List ℕ) (told : Record) → (factoring a m n out store).answer ≡ done told
    → WithinOne limit m n (columns m n (factoring a m n out store).left.factors)) → ⊥
no_larger_limit limit h all =
    let held = all 2 1 (above ∷ above ∷ []) (ones 2) (replicate 128 1) (record_of 2 1 0 0) above_accepted in
    let pivot : AtMost limit above = record { count = most_units + 82191238 * 2 ^ 2044; is = above_units; few = h } in
    passes (subst (WithinOne limit 2 1) above_columns held 0 1 (omega arith) (omega arith) (omega arith) pivot)

-- THEOREM. The bound on growth is met: columns (1, -1, -1), (0, 1, -1), (1, 1, 1) have 4 in the last row of U, which is 2 ^ 2 times their greatest number.
pub growth_met : columns 3 3 (fresh 3 3 (n1 ∷ -n1 ∷ -n1 ∷ n0 ∷ n1 ∷ -n1 ∷ n1 ∷ n1 ∷ n1 ∷ [])).left.factors
    ≡ (n1 ∷ -n1 ∷ -n1 ∷ []) ∷ (n0 ∷ n1 ∷ -n1 ∷ []) ∷ (n1 ∷ n2 ∷ n4 ∷ []) ∷ []
unfolding Computes
growth_met = refl
