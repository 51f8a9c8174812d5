-- What a rounding does not pass: a fraction of at most so many units, where the format holds that many, rounds to no more. So a product with a factor of at
-- most 1 is no larger than the other factor's bound, and a sum at most twice the bound of both. Assumes nothing.
use mathlib.Core.Path.{◌≡◌, sym, ap, ◌∙◌, subst}
use Prim.Native.Nat.{ℕ, ◌+◌, ◌-◌, ◌*◌, ◌^◌, ◌≤◌, ◌<◌}
use native.Mathlib.Nat.{eq_of_mul-eq-mul_right, mul-lt-mul_of_pos_right, lt_of_mul-lt-mul_right}
use native.Mathlib.Nat.{mul_comm, mul-pos, mul-le-mul_right, mul-le-mul_left, le_of_mul-le-mul_right, le_trans}
use native.Mathlib.Omega.{arith}
use mathlib.Core.Bool.{Bool, true, false, ◌||◌, ◌&&◌, true≢false, beq}
use borrow.Author.Tests.{ltb-true}
use lib.Dec.{T, ltb, eqb, eqb→eq}
use lib.Pow.{pow-add, pow_pos}
use lib.Ieee.{Float, nan, inf, fin, binary64, up, down, round, sum, add, mul, neg, le, fits}
use lib.Ieee.Fits.{and_l, down_pos, round-fits}
use lib.Ieee.Exact.{HasValue, round_exact}
use lib.Ieee.Order.{round_mono}
use lib.Ieee.Scale.{finite}
use Rattle.numbers.proofs.Choice.{test_cases, cond_cases}
use Rattle.numbers.proofs.One.{fits_says}
use Rattle.numbers.proofs.Smaller.{bare}
use Rattle.units.specs.Units.{IsUnits, AtMost}
use Rattle.units.proofs.Signs.{bare_round}
use Rattle.units.proofs.Units.{digits_units, whole_units, order_le}

-- so many units are those of a double: at most 53 binary digits, and no overflow
pub record OfDouble (count : ℕ) : Type 0 where
  pub digits : ℕ
  pub place : ℕ
  pub is : count ≡ digits * 2 ^ place
  pub few : digits < 2 ^ 53
  pub finite : digits * 2 ^ place < 2 ^ 2098

-- THEOREM. Those of a double are.
pub of_double : (b : Float) (count : ℕ) → T (fits binary64 b) → IsUnits b count → OfDouble count
of_double nan count h p = absurd p
of_double (inf s) count h p = absurd p
of_double (fin s m e) count h p =
    let w = fits_says s m e h in
    let u = digits_units s m e h in
    record {
      digits = m;
      place = u.0;
      is = eq_of_mul-eq-mul_right (down e) (down_pos e) count (m * 2 ^ u.0) (sym p ∙ u.1);
      few = w.0;
      finite = lt_of_mul-lt-mul_right (down e)
          (under (m * up e) (m * 2 ^ u.0) (down e) (2 ^ 1074) (2 ^ 1024) (2 ^ 2098) (sym (pow-add 2 1024 1074)) (pow_pos 1074) u.1 w.2);
    }
  where
    under : (X N D l b o : ℕ) → b * l ≡ o → 0 < l → X * l ≡ N * D → X < b * D → N * D < o * D
    under X N D l b o e L q h = omega (arith, ap (λ (z : ℕ). z * D) e, q, mul-lt-mul_of_pos_right h L)

-- ---- by the order of floats
at_most_equal : (a b : ℕ) → T (ltb a b || (eqb a b && true)) → a ≤ b
at_most_equal a b t =
    test_cases (ltb a b) (λ h. omega (arith, ltb-true a b h)) (λ h. omega (arith, eqb→eq a b (and_l (eqb a b) true (rw h at t))))

-- what is at most b, is of no more units
pub units_le : (x b : Float) (v n : ℕ) → IsUnits x v → HasValue b false n (2 ^ 1074) → T (le (bare x) b) → v ≤ n
unfolding le
units_le nan b v n p q h = absurd p
units_le (inf s) b v n p q h = absurd p
units_le (fin s m e) nan v n p q h = absurd q
units_le (fin s m e) (inf t) v n p q h = absurd q
units_le (fin s m e) (fin true k d) v n p q h = absurd (true≢false q.0)
units_le (fin s m e) (fin false k d) v n p q h =
    order_le (m * up e) (down e) (k * up d) (down d) v n (2 ^ 1074) (down_pos e) (down_pos d) p q.1
    (at_most_equal (m * up e * down d) (k * up d * down e) h)

-- THEOREM. A fraction a / c of at most so many units rounds to at most so many, where the format holds that many.
pub rounded_at_most : (s : Bool) (a c count : ℕ) → 0 < c → OfDouble count → a * 2 ^ 1074 ≤ count * c → finite (round binary64 s a c) ≡ true
    → AtMost count (round binary64 s a c)
rounded_at_most s a c count C double h t =
    let x = round binary64 s a c in
    let b = round binary64 false count (2 ^ 1074) in
    let v = whole_units x (round-fits binary64 s a c) t in
    let is : HasValue b false count (2 ^ 1074) =
    round_exact binary64 false count (2 ^ 1074) double.digits double.place (pow_pos 1074) double.few double.finite
    (ap (λ (z : ℕ). z * 2 ^ 1074) double.is) in
    record {
      count = v.0;
      is = v.1;
      few = units_le x b v.0 count v.1 is
          (subst (λ (z : Float). T (le z b)) (sym (bare_round binary64 s a c)) (round_mono binary64 a c count (2 ^ 1074) C (pow_pos 1074) h));
    }

pub at_most_more : (few most : ℕ) (x : Float) → few ≤ most → AtMost few x → AtMost most x
at_most_more few most x h b = record { count = b.count; is = b.is; few = le_trans b.few h }

pub at_most_neg : (most : ℕ) (x : Float) → AtMost most x → AtMost most (neg x)
unfolding neg
at_most_neg most nan b = absurd b.is
at_most_neg most (inf s) b = absurd b.is
at_most_neg most (fin s m e) b = record { count = b.count; is = b.is; few = b.few }

-- ---- X / E is u units, at most N; Y / D is v units, at most l, which is 1
times_bound : (X E Y D u v l N : ℕ) → 0 < l → X * l ≡ u * E → Y * l ≡ v * D → u ≤ N → v ≤ l → X * Y * l ≤ N * (E * D)
times_bound X E Y D u v l N L p q hu hv =
    let y : Y ≤ D = le_of_mul-le-mul_right (omega (arith, q, mul-le-mul_right D hv)) L in
    omega (arith, ap (λ (z : ℕ). z * Y) p, mul-le-mul_left (u * E) y, mul-le-mul_right (E * D) hu)

-- THEOREM. A factor of at most 1 does not enlarge the bound of the other.
pub product_at_most : (count : ℕ) (x y : Float) → OfDouble count → AtMost count x → AtMost (2 ^ 1074) y → finite (mul binary64 x y) ≡ true
    → AtMost count (mul binary64 x y)
unfolding mul
product_at_most count nan y double b c t = absurd b.is
product_at_most count (inf s) y double b c t = absurd b.is
product_at_most count (fin s m e) nan double b c t = absurd c.is
product_at_most count (fin s m e) (inf r) double b c t = absurd c.is
product_at_most count (fin s m e) (fin r n d) double b c t =
    rounded_at_most _ (m * up e * (n * up d)) (down e * down d) count (mul-pos (down_pos e) (down_pos d)) double
    (times_bound (m * up e) (down e) (n * up d) (down d) b.count c.count (2 ^ 1074) count (pow_pos 1074) b.is c.is b.few c.few) t

-- ---- the same with a common denominator: one of them is at most N
one_bound : (X E D u l N : ℕ) → X * l ≡ u * E → u ≤ N → X * D * l ≤ N * (E * D)
one_bound X E D u l N p h = omega (arith, ap (λ (z : ℕ). z * D) p, mul-le-mul_right (E * D) h)

-- a sum or a difference of a and b, over c
module _ (a b c l N : ℕ) (ha : a * l ≤ N * c) (hb : b * l ≤ N * c) where
  plus_bound : (a + b) * l ≤ 2 * N * c
  plus_bound = omega arith

  less_bound : (a - b) * l ≤ 2 * N * c
  less_bound = let h : a - b ≤ a = omega arith in omega (arith, mul-le-mul_right l h)

  more_bound : (b - a) * l ≤ 2 * N * c
  more_bound = let h : b - a ≤ b = omega arith in omega (arith, mul-le-mul_right l h)

-- THEOREM. A sum is at most twice the bound of both.
pub sum_at_most : (count : ℕ) (x y : Float) → OfDouble (2 * count) → AtMost count x → AtMost count y → finite (add binary64 x y) ≡ true
    → AtMost (2 * count) (add binary64 x y)
unfolding add sum
sum_at_most count nan y double b c = absurd b.is
sum_at_most count (inf s) y double b c = absurd b.is
sum_at_most count (fin s m e) nan double b c = absurd c.is
sum_at_most count (fin s m e) (inf r) double b c = absurd c.is
sum_at_most count (fin s m e) (fin r n d) double b c =
    let A = m * up e * down d in
    let B = n * up d * down e in
    let C = down e * down d in
    let C' = mul-pos (down_pos e) (down_pos d) in
    let ha : A * 2 ^ 1074 ≤ count * C = one_bound (m * up e) (down e) (down d) b.count (2 ^ 1074) count b.is b.few in
    let hb : B * 2 ^ 1074 ≤ count * C =
    rw (mul_comm (down e) (down d)) (one_bound (n * up d) (down d) (down e) c.count (2 ^ 1074) count c.is c.few) in
    cond_cases (λ (z : Float). finite z ≡ true → AtMost (2 * count) z) (beq s r)
    (λ _. rounded_at_most s (A + B) C (2 * count) C' double (plus_bound A B C (2 ^ 1074) count ha hb))
    (λ _. cond_cases (λ (z : Float). finite z ≡ true → AtMost (2 * count) z) (ltb A B)
    (λ _. rounded_at_most r (B - A) C (2 * count) C' double (more_bound A B C (2 ^ 1074) count ha hb))
    (λ _. rounded_at_most _ (A - B) C (2 * count) C' double (less_bound A B C (2 ^ 1074) count ha hb)))
