-- Every finite double is a whole number of units, and of one number only. Comparing magnitudes is comparing these numbers. Assumes nothing.
use mathlib.Core.Path.{◌≡◌, sym, ap, ◌∙◌}
use Prim.Native.Nat.{ℕ, ◌*◌, ◌^◌, ◌≤◌, ◌<◌}
use native.Mathlib.Nat.{zero-mul, mul_assoc, mul-pos, eq_of_mul-eq-mul_right}
use native.Mathlib.Nat.{mul-le-mul_right, le_of_mul-le-mul_right, mul-lt-mul_of_pos_right, lt_of_mul-lt-mul_right}
use native.Mathlib.Omega.{arith}
use mathlib.Core.Bool.{Bool, true, false, false≢true}
use borrow.Author.Tests.{ltb-true, ltb-false, lt-ltb, le-ltb, eqb-true}
use lib.IntN.{ℤ}
use lib.Dec.{T, ltb, eqb}
use lib.Pow.{pow_pos}
use lib.Ieee.{Float, nan, inf, fin, binary64, up, down, lt, eq, fits, of_bits}
use lib.Ieee.Fits.{down_pos}
use lib.Ieee.Scale.{finite}
use Rattle.numbers.specs.Numbers.{is_zero}
use Rattle.numbers.proofs.Choice.{test_cases, and_first}
use Rattle.numbers.proofs.One.{fits_says, place}
use Rattle.numbers.proofs.Smaller.{bare, smaller, smaller_bare}
use Rattle.units.specs.Units.{IsUnits, AtMost}

-- by its digits: m times a power of two
pub digits_units : (s : Bool) (m : ℕ) (e : ℤ) → T (fits binary64 (fin s m e)) → (j : ℕ) × IsUnits (fin s m e) (m * 2 ^ j)
digits_units s m e h =
    let p = place e (fits_says s m e h).1 in
    (p.0, mul_assoc m (up e) (2 ^ 1074) ∙ ap (λ (z : ℕ). m * z) p.1 ∙ sym (mul_assoc m (2 ^ p.0) (down e)))

-- THEOREM. Each finite double is a whole number of units.
pub whole_units : (x : Float) → T (fits binary64 x) → finite x ≡ true → (n : ℕ) × IsUnits x n
whole_units nan h t = absurd (false≢true t)
whole_units (inf s) h t = absurd (false≢true t)
whole_units (fin s m e) h t = let u = digits_units s m e h in (m * 2 ^ u.0, u.1)

-- THEOREM. And of one number only.
pub units_unique : (x : Float) (n k : ℕ) → IsUnits x n → IsUnits x k → n ≡ k
units_unique nan n k p q = absurd p
units_unique (inf s) n k p q = absurd p
units_unique (fin s m e) n k p q = eq_of_mul-eq-mul_right (down e) (down_pos e) n k (sym p ∙ q)

-- a zero of either sign is none
pub zero_units : (x : Float) → is_zero x ≡ true → IsUnits x 0
unfolding is_zero eq of_bits
zero_units nan z = false≢true z
zero_units (inf s) z = false≢true z
zero_units (fin s m e) z =
    let q : m * up e * 1 ≡ 0 * 1 * down e = eqb-true _ _ (and_first (eqb (m * up e * 1) (0 * 1 * down e)) _ z) in
    let r : m * up e ≡ 0 = omega arith in
    rw r (simp zero-mul)

-- ---- the order: x / d is a / l, and y / c is b / l
order : (x d y c a b l : ℕ) → 0 < l → x * l ≡ a * d → y * l ≡ b * c → x * c < y * d → a < b
order x d y c a b l L p q h =
    lt_of_mul-lt-mul_right (d * c) (omega (arith, mul-lt-mul_of_pos_right h L, ap (λ (z : ℕ). z * c) p, ap (λ (z : ℕ). z * d) q))

pub order_le : (x d y c a b l : ℕ) → 0 < d → 0 < c → x * l ≡ a * d → y * l ≡ b * c → x * c ≤ y * d → a ≤ b
order_le x d y c a b l D C p q h =
    le_of_mul-le-mul_right (omega (arith, mul-le-mul_right l h, ap (λ (z : ℕ). z * c) p, ap (λ (z : ℕ). z * d) q)) (mul-pos D C)

bare_order : (x y : Float) (n k : ℕ) → IsUnits x n → IsUnits y k → lt (bare x) (bare y) ≡ ltb n k
unfolding lt
bare_order nan y n k p q = absurd p
bare_order (inf s) y n k p q = absurd p
bare_order (fin s m e) nan n k p q = absurd q
bare_order (fin s m e) (inf t) n k p q = absurd q
bare_order (fin s m e) (fin t b d) n k p q =
    test_cases (ltb (m * up e * down d) (b * up d * down e))
    (λ t. t ∙ sym (lt-ltb n k (order (m * up e) (down e) (b * up d) (down d) n k (2 ^ 1074) (pow_pos 1074) p q (ltb-true _ _ t))))
    (λ t. t ∙ sym (le-ltb n k (order_le (b * up d) (down d) (m * up e) (down e) k n (2 ^ 1074) (down_pos d) (down_pos e) q p (ltb-false _ _ t))))

-- THEOREM. One magnitude is smaller than another exactly when it is of fewer units.
pub units_order : (x y : Float) (n k : ℕ) → IsUnits x n → IsUnits y k → smaller x y ≡ ltb n k
units_order x y n k p q = smaller_bare x y ∙ bare_order x y n k p q

-- THEOREM. So what is of at most so many units is, as IEEE 754 compares, not above the number b that has them; and of finite doubles also the other way.
pub at_most_smaller : (most : ℕ) (b x : Float) → IsUnits b most → AtMost most x → smaller b x ≡ false
at_most_smaller most b x is w = units_order b x most w.count is w.is ∙ le-ltb most w.count w.few

pub smaller_at_most : (most : ℕ) (b x : Float) → IsUnits b most → T (fits binary64 x) → finite x ≡ true → smaller b x ≡ false → AtMost most x
smaller_at_most most b x is h t e =
    let w = whole_units x h t in
    record { count = w.0; is = w.1; few = ltb-false most w.0 (sym (units_order b x most w.0 is w.1) ∙ e) }
