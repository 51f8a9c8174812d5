-- A multiplier, x times the rounded reciprocal of a pivot p with |x| ≤ |p|, is of magnitude at most 1 wherever it is finite and |p| is at most 2 ^ 1022.
-- The reciprocal is then in the normal range, so it is off by its 2 ^ 53rd part at most. So p times it is at most 1 + 2 ^ -53, half way from 1 to the
-- next number up, and that rounds to 1, the even one. A product with a smaller x rounds to no more. Assumes nothing.
use mathlib.Core.Path.{◌≡◌, refl, sym, ap, ◌∙◌, subst}
use Prim.Native.Nat.{ℕ, zero, suc, ◌+◌, ◌*◌, ◌/◌, ◌^◌, ◌≤◌, ◌<◌}
use native.Mathlib.Nat.{zero-lt-suc, mul-one, one-mul, mul-pos, mul-le-mul_right, mul-le-mul_left, le_of_mul-le-mul_right}
use native.Mathlib.Omega.{arith}
use mathlib.Core.Bool.{Bool, true, false, cond, true≢false, false≢true}
use borrow.Author.Tests.{ltb-false}
use lib.IntN.{ℤ, pos}
use lib.Dec.{T, eqb-suc-zero}
use lib.Pow.{pow-add, pow_pos}
use lib.Ieee.{Float, nan, inf, fin, binary64, up, down, size, round, mul, div, lt, le, of_bits}
use lib.Ieee.Fits.{up_pos, down_pos, mul-fits}
use lib.Ieee.Exact.{HasValue}
use lib.Ieee.Order.{round_mono}
use lib.Ieee.Scale.{grid, finite, round_val, round_under, normal_of_fraction}
use Rattle.numbers.proofs.Smaller.{bare, smaller, smaller_bare}
use Rattle.numbers.proofs.Lasting.{product_finite}
use Rattle.units.specs.Units.{AtMost, one_units, most_units, multiplier}
use Rattle.units.proofs.Half.{grid_relative}
use Rattle.units.proofs.Rounded.{units_le}
use Rattle.units.proofs.Signs.{bare_mul, bare_div, bare_finite}
use Rattle.units.proofs.Units.{whole_units}

abbrev pub one : Float
one = fin false 1 (pos 0)

-- x over the pivot p, both without their signs
abbrev over : Float → Float → Float
over x p = mul binary64 x (div binary64 one p)

-- ---- the reciprocal of a pivot P / D that is 2 ^ 1022 at most is in the normal range
reciprocal_normal : (P D : ℕ) → 0 < P → P ≤ 2 ^ 1022 * D → 53 ≤ size (D * 2 ^ 1074 / P)
reciprocal_normal P D P' h = normal_of_fraction binary64 D P P' (wide (2 ^ 52) (2 ^ 1022) (2 ^ 1074) (sym (pow-add 2 52 1022)) h)
  where
    wide : (a b l : ℕ) → a * b ≡ l → P ≤ b * D → a * P ≤ D * l
    wide a b l e h = omega (arith, mul-le-mul_left a h, ap (λ (z : ℕ). z * D) e)

reciprocal_is : (n : ℕ) (d : ℤ) → div binary64 one (fin false (suc n) d) ≡ round binary64 false (down d) (suc n * up d)
unfolding div
reciprocal_is n d =
    ap (λ (b : Bool). cond b (inf false) (round binary64 false (1 * down d) (suc n * up d * 1))) (eqb-suc-zero n)
    ∙ (λ i. round binary64 false (one-mul (down d) i) (mul-one (suc n * up d) i))

-- its value is as many units as it is rounded to
reciprocal_value : (D P : ℕ) → finite (round binary64 false D P) ≡ true → HasValue (round binary64 false D P) false (grid binary64 D P) (2 ^ 1074)
reciprocal_value D P t = round_val binary64 D P (round_under binary64 D P (subst T (sym t) tt))

-- ---- the product with it
-- half way from 1 to the next number up rounds to 1
half_way : round binary64 false (2 ^ 53 + 1) (2 ^ 53) ≡ one
unfolding round
half_way = refl

-- X / E ≤ P / D, N / M is g / l, and g / l is the reciprocal of P / D up to 1 + 1 / w
product : (X E N M D P g l w : ℕ) → 0 < D → 0 < l → X * D ≤ P * E → N * l ≡ g * M → g * P * w ≤ (w + 1) * (D * l) → X * N * w ≤ (w + 1) * (E * M)
product X E N M D P g l w D' L h e r =
    le_of_mul-le-mul_right (omega (arith, mul-le-mul_right (N * l * w) h, ap (λ (z : ℕ). P * E * w * z) e, mul-le-mul_right (E * M) r)) (mul-pos D' L)

-- x times a number r whose value is g units
times : (m : ℕ) (e : ℤ) (P D g : ℕ) (r : Float) → 0 < D → m * up e * D ≤ P * down e → g * P * 2 ^ 53 ≤ (2 ^ 53 + 1) * (D * 2 ^ 1074)
    → (finite r ≡ true → HasValue r false g (2 ^ 1074)) → finite r ≡ true → T (le (mul binary64 (fin false m e) r) one)
unfolding mul
times m e P D g nan D' h b v t = absurd (false≢true t)
times m e P D g (inf s) D' h b v t = absurd (false≢true t)
times m e P D g (fin true n d) D' h b v t = absurd (true≢false (v refl).0)
times m e P D g (fin false n d) D' h b v t =
    subst (λ (z : Float). T (le (round binary64 false (m * up e * (n * up d)) (down e * down d)) z)) half_way
    (round_mono binary64 (m * up e * (n * up d)) (down e * down d) (2 ^ 53 + 1) (2 ^ 53) (mul-pos (down_pos e) (down_pos d)) (pow_pos 53)
    (product (m * up e) (down e) (n * up d) (down d) D P g (2 ^ 1074) (2 ^ 53) D' (pow_pos 1074) h (v refl).1 b))

-- a pivot of zero has no finite reciprocal
no_reciprocal : (d : ℤ) → finite (div binary64 one (fin false zero d)) ≡ true → ⊥
unfolding div
no_reciprocal d t = false≢true t

-- ---- without the signs
fraction : (m : ℕ) (e : ℤ) (n : ℕ) (d : ℤ) → n * up d ≤ 2 ^ 1022 * down d → m * up e * down d ≤ n * up d * down e
    → finite (div binary64 one (fin false n d)) ≡ true → T (le (over (fin false m e) (fin false n d)) one)
fraction m e zero d b l t = absurd (no_reciprocal d t)
fraction m e (suc n) d b l t =
    let P = suc n * up d in
    let D = down d in
    let P' : 0 < P = mul-pos (zero-lt-suc n) (up_pos d) in
    rw (reciprocal_is n d)
    (times m e P D (grid binary64 D P) (round binary64 false D P) (down_pos d) l (grid_relative binary64 D P P' (reciprocal_normal P D P' b)).0
    (reciprocal_value D P) (rw (reciprocal_is n d) at t))

-- P / D is u units, at most l * b of them
low_enough : (P D u l b : ℕ) → 0 < l → P * l ≡ u * D → u ≤ l * b → P ≤ b * D
low_enough P D u l b L e s = le_of_mul-le-mul_right (omega (arith, e, mul-le-mul_right D s)) L

unsigned : (x p : Float) → AtMost most_units p → lt (bare p) (bare x) ≡ false → finite x ≡ true → finite (div binary64 one (bare p)) ≡ true
    → T (le (over (bare x) (bare p)) one)
unfolding lt
unsigned nan p b l u t = absurd (false≢true u)
unsigned (inf r) p b l u t = absurd (false≢true u)
unsigned (fin r m e) nan b l u t = absurd b.is
unsigned (fin r m e) (inf s) b l u t = absurd b.is
unsigned (fin r m e) (fin s n d) b l u t =
    fraction m e n d (low_enough (n * up d) (down d) b.count (2 ^ 1074) (2 ^ 1022) (pow_pos 1074) b.is b.few) (ltb-false _ _ l) t

-- THEOREM. Where the pivot is of magnitude at most 2 ^ 1022, the entry's magnitude is not above the pivot's, and the multiplier is finite, it is a whole
-- number of units, and no more of them than 1 has.
pub multiplier_bound : (x p : Float) → AtMost most_units p → smaller p x ≡ false → finite (multiplier x p) ≡ true → AtMost one_units (multiplier x p)
unfolding of_bits
multiplier_bound x p b l t =
    let both = product_finite x (div binary64 one p) t in
    let v = whole_units (multiplier x p) (mul-fits binary64 x (div binary64 one p)) t in
    let is : bare (multiplier x p) ≡ over (bare x) (bare p) =
    bare_mul binary64 x (div binary64 one p) ∙ ap (λ (z : Float). mul binary64 (bare x) z) (bare_div binary64 one p) in
    let fin = ap finite (sym (bare_div binary64 one p)) ∙ bare_finite (div binary64 one p) ∙ both.1 in
    let low : T (le (bare (multiplier x p)) one) =
    subst (λ (z : Float). T (le z one)) (sym is) (unsigned x p b (sym (smaller_bare p x) ∙ l) both.0 fin) in
    record { count = v.0; is = v.1; few = units_le (multiplier x p) one v.0 one_units v.1 (refl, refl) low }
