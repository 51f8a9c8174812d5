-- Wrong programs for the number of dead columns (document 02, request 7), each shut out at an input that its call can get: one that counts +0.0 alone, one that
-- adding forgets past the last row, one that is never looked at, and one that is compared before the factors are found finite. By computation. Assumes nothing.
use mathlib.Core.Bool.{Bool, true, false, cond}
use mathlib.Core.List.{[], ◌∷◌, map}
use Prim.Native.Nat.{ℕ}
use native.Mathlib.Omega.{arith}
use lib.Dec.{eqb, ltb}
use lib.IntN.{pos}
use lib.Ieee.{Float, nan, inf, fin}
use Rattle.numbers.specs.Column.{Column}
use Rattle.dead_columns.specs.Dead.{dead_at, dead_of}
use Rattle.refusals.proofs.Strength.{ShutsOut, shut_out, Strong, strong}
use Rattle.factors.specs.declared.Record.{Record}
use Rattle.factors.specs.declared.Asks.{Asks}
use Rattle.factors.specs.Factors.{store_of, record_of, record_after}
use Rattle.factors.specs.Held.{held_refusal}
use Rattle.adding.specs.Adding.{adding}
use Rattle.from_factors.proofs.Figures.{Computes, fresh, n0, n1}

abbrev -n0 : Float
-n0 = fin true 0 (pos 0)

-- ---- the count

-- sizes and a slice; a number with a minus sign is taken for one that is not zero
abbrev counts : ℕ × (ℕ × Column) → ℕ
counts x = dead_of x.1.1 x.0 x.1.0

abbrev is_minus : Float → Bool
is_minus (fin sign digits exponent) = sign
is_minus (inf sign) = sign
is_minus nan = false

abbrev unsigned_alone : Column → Column
unsigned_alone s = map (λ v. cond (is_minus v) n1 v) s

abbrev plus_alone : ℕ × (ℕ × Column) → ℕ
plus_alone x = dead_of (unsigned_alone x.1.1) x.0 x.1.0

pub dead_of_not_plus_alone : Strong counts (ShutsOut counts plus_alone)
unfolding Computes
dead_of_not_plus_alone =
    strong counts (1, (1, n0 ∷ [])) (1, (1, n1 ∷ [])) (λ d. omega (arith, d))
    (shut_out counts plus_alone (1, (1, -n0 ∷ [])) (λ d. omega (arith, d)))

-- column number j; and its first number for its diagonal
abbrev counts_at : ℕ × Column → ℕ
counts_at x = dead_at x.0 x.1

pub dead_at_not_first_number : Strong counts_at (ShutsOut counts_at (λ x. dead_at 0 x.1))
unfolding Computes
dead_at_not_first_number =
    strong counts_at (0, n0 ∷ []) (0, n1 ∷ []) (λ d. omega (arith, d))
    (shut_out counts_at (λ x. dead_at 0 x.1) (1, n0 ∷ n1 ∷ []) (λ d. omega (arith, d)))

-- ---- factoring: the number of a 1 by 1 matrix of -0.0
abbrev dead_of_fresh : ℕ × (ℕ × Column) → ℕ
dead_of_fresh x = (record_after (record_of 0 0 0 0) (fresh x.0 x.1.0 x.1.1).answer).dead

abbrev plus_alone_fresh : ℕ × (ℕ × Column) → ℕ
plus_alone_fresh x = plus_alone (x.0, (x.1.0, (fresh x.0 x.1.0 x.1.1).left.factors))

pub factored_dead : ShutsOut dead_of_fresh plus_alone_fresh
unfolding Computes
factored_dead = shut_out dead_of_fresh plus_alone_fresh (1, (1, -n0 ∷ [])) (λ d. omega (arith, d))

-- ---- adding: the number forgotten where the new column has no diagonal
abbrev Widened : Type 0
Widened = Record × (Column × Column)

abbrev dead_of_added : Widened → ℕ
dead_of_added x = (record_after x.0 (adding x.1.0 x.1.1 (store_of []) x.0).answer).dead

abbrev forgotten : Widened → ℕ
forgotten x = cond (ltb x.0.columns x.0.rows) (dead_of_added x) 0

pub added_dead : ShutsOut dead_of_added forgotten
unfolding Computes
added_dead = shut_out dead_of_added forgotten (record_of 1 1 0 1, (n0 ∷ n1 ∷ [], n1 ∷ [])) (λ d. omega (arith, d))

-- ---- every call on factors, by its refusal: the number not looked at, and 9 before 5
abbrev Held : Type 0
Held = Asks × (Record × Column)

abbrev refusals : Held → ℕ
refusals x = held_refusal x.1.1 (store_of []) x.1.0 x.0

abbrev right_number : Held → Record
right_number x = let r = x.1.0 in record_of r.rows r.columns r.pairs (dead_of x.1.1 r.rows r.columns)

abbrev unlooked_at : Held → ℕ
unlooked_at x = held_refusal x.1.1 (store_of []) (right_number x) x.0

abbrev nine_first : Held → ℕ
nine_first x = cond (eqb x.1.0.dead (right_number x).dead) (refusals x) 9

abbrev asks : Asks
asks = record { square = true; solves = false; sizes = true; lengths = true; list = true; numbers = true }

pub number_compared : ShutsOut refusals unlooked_at × ShutsOut refusals nine_first
unfolding Computes
number_compared = (
  shut_out refusals unlooked_at (asks, (record_of 1 1 0 1, n1 ∷ [])) (λ d. omega (arith, d)),
  shut_out refusals nine_first (asks, (record_of 1 1 0 1, nan ∷ [])) (λ d. omega (arith, d)),
)
