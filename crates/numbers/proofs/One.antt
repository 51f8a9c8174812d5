-- Multiplying or dividing by one changes nothing, and multiplying by minus one the sign alone: such a product or quotient rounds the number's own
-- fraction, which the format holds, and a number that fits is told by its sign and its value, since its bits are made of these. So the crate's `axcpy`
-- with c = 1 and b = 1 is `axpy`. Assumes nothing.
use Prim.Native.Nat.{ℕ, zero, suc, ◌+◌, ◌-◌, ◌*◌, ◌/◌, ◌%◌, ◌^◌, ◌≤◌, ◌<◌}
use native.Mathlib.Nat.{le_trans, le_of_eq, le_of_suc-le-suc, lt_of_le_of_lt, lt_of_lt_of_le, lt_of_not-le, lt_irrefl, mul-one, one-mul, zero-mul}
use native.Mathlib.Nat.{mul_assoc, mul_right_comm, mul-le-mul_right, mul-lt-mul_of_pos_right, lt_of_mul-lt-mul_right, mul-pos}
use native.Mathlib.Omega.{arith}
use mathlib.Core.Path.{◌≡◌, refl, sym, ap, ap₂, ◌∙◌}
use mathlib.Core.Bool.{Bool, true, false, not, cond, ◌&&◌}
use lib.Dec.{T, leb, ltb, eqb, leb→le, ltb→lt, eqb→eq}
use lib.IntN.{ℤ, pos, negsuc}
use lib.Pow.{pow-add, pow_pos, pow-lt}
use lib.Ieee.{Float, nan, inf, fin, binary64, top, hid, up, down, unlike, size, round, neg, add, mul, div, fits, of_bits, to_bits}
use lib.Ieee.Fits.{and_l, and_r, up_pos, down_pos, round-fits, neg-fits, mul-fits}
use lib.Ieee.Exact.{HasValue, round_exact}
use lib.Ieee.Bits.{of_bits-to_bits}
use lib.Ieee.Nearest.{div_same}
use Rattle.numbers.specs.Numbers.{one64}

-- ---- a number that fits is told by its sign and its value
same_bits : (s t : Bool) (m n : ℕ) (e d : ℤ) → s ≡ t → m * up e * down d ≡ n * up d * down e → to_bits binary64 (fin s m e) ≡ to_bits binary64 (fin t n d)
unfolding to_bits
same_bits s t m n e d p q =
    ap₂ (λ (s : Bool) (u : ℕ). cond s (top binary64) 0 + (size u - 53) * hid binary64 + u / 2 ^ (size u - 53)) p
    (div_same (m * up e * 2 ^ 1074) (down e) (n * up d * 2 ^ 1074) (down d) (down_pos e) (down_pos d)
    (mul_right_comm (m * up e) (2 ^ 1074) (down d) ∙ ap (λ (z : ℕ). z * 2 ^ 1074) q ∙ mul_right_comm (n * up d) (down e) (2 ^ 1074)))

pub told_by_value : (x : Float) (s : Bool) (m : ℕ) (e : ℤ) → T (fits binary64 x) → T (fits binary64 (fin s m e)) → HasValue x s (m * up e) (down e)
    → x ≡ fin s m e
told_by_value nan s m e p q v = absurd v
told_by_value (inf t) s m e p q v = absurd v
told_by_value (fin t n d) s m e p q v =
    sym (of_bits-to_bits binary64 (fin t n d) p) ∙ ap (of_bits binary64) (same_bits t s n m d e v.0 v.1) ∙ of_bits-to_bits binary64 (fin s m e) q

-- ---- its own fraction rounds to itself
pub fits_says : (s : Bool) (m : ℕ) (e : ℤ) → T (fits binary64 (fin s m e)) → (m < 2 ^ 53) × (down e ≤ 2 ^ 1074) × (m * up e < 2 ^ 1024 * down e)
unfolding fits
fits_says s zero e t =
    let one : up e * down e ≡ 1 = eqb→eq (up e * down e) 1 t in (
      pow_pos 53,
      le_trans (le_trans (le_of_eq (sym (one-mul (down e)))) (mul-le-mul_right (down e) (up_pos e))) (le_trans (le_of_eq one) (pow_pos 1074)),
      lt_of_le_of_lt (le_of_eq (zero-mul (up e))) (mul-pos (pow_pos 1024) (down_pos e)),
    )
fits_says s (suc m) e t =
    let a : Bool = eqb (suc m % 2) 1 in
    let b : Bool = ltb (suc m) (2 ^ 53) in
    let c : Bool = leb (down e) (2 ^ 1074) in
    let d : Bool = ltb (suc m * up e) (2 ^ 1024 * down e) in
    let abc : T (a && b && c) = and_l (a && b && c) d t in (
      ltb→lt (suc m) (2 ^ 53) (and_r a b (and_l (a && b) c abc)),
      leb→le (down e) (2 ^ 1074) (and_r (a && b) c abc),
      ltb→lt (suc m * up e) (2 ^ 1024 * down e) (and_r (a && b && c) d t),
    )

pub pow_back : (a b : ℕ) → 2 ^ a ≤ 2 ^ b → a ≤ b
pow_back a b h = le_of_suc-le-suc (lt_of_not-le (λ (g : suc b ≤ a). lt_irrefl (2 ^ b) (lt_of_lt_of_le (pow-lt g) h)))

-- 2 ^ e is 2 ^ j times the smallest value
pub place : (e : ℤ) → down e ≤ 2 ^ 1074 → (j : ℕ) × (up e * 2 ^ 1074 ≡ 2 ^ j * down e)
place (pos k) h = (k + 1074, sym (pow-add 2 k 1074) ∙ sym (mul-one (2 ^ (k + 1074))))
place (negsuc k) h =
    let l : suc k ≤ 1074 = pow_back (suc k) 1074 h in
    let g : 1074 ≡ 1074 - suc k + suc k = omega arith in
    (1074 - suc k, one-mul (2 ^ 1074) ∙ ap (λ (z : ℕ). 2 ^ z) g ∙ pow-add 2 (1074 - suc k) (suc k))

pub round_own : (s : Bool) (m : ℕ) (e : ℤ) → T (fits binary64 (fin s m e)) → round binary64 s (m * up e) (down e) ≡ fin s m e
round_own s m e t =
    let w = fits_says s m e t in
    let j = (place e w.1).0 in
    let p : m * up e * 2 ^ 1074 ≡ m * 2 ^ j * down e = mul_assoc m (up e) (2 ^ 1074) ∙ ap (λ (z : ℕ). m * z) (place e w.1).1
    ∙ sym (mul_assoc m (2 ^ j) (down e)) in
    let under : m * 2 ^ j < 2 ^ 1024 * 2 ^ 1074 = lt_of_mul-lt-mul_right (down e)
    (lt_of_le_of_lt (le_of_eq (sym p))
    (lt_of_lt_of_le (mul-lt-mul_of_pos_right w.2 (pow_pos 1074)) (le_of_eq (mul_right_comm (2 ^ 1024) (down e) (2 ^ 1074))))) in
    told_by_value (round binary64 s (m * up e) (down e)) s m e (round-fits binary64 s (m * up e) (down e)) t
    (round_exact binary64 s (m * up e) (down e) m j (down_pos e) w.0 under p)

-- ---- by one: the sign and the fraction are the number's own
by_one : (u s : Bool) (a c m : ℕ) (e : ℤ) → T (fits binary64 (fin s m e)) → u ≡ s → a ≡ m * up e → c ≡ down e → round binary64 u a c ≡ fin s m e
by_one u s a c m e t p q r = rw (p, q, r) (round_own s m e t)

pub unlike_false : (s : Bool) → unlike s false ≡ s
unlike_false true = refl
unlike_false false = refl

false_unlike : (s : Bool) → unlike false s ≡ s
false_unlike true = refl
false_unlike false = refl

pub mul_one64 : (x : Float) → T (fits binary64 x) → mul binary64 x one64 ≡ x
unfolding mul of_bits
mul_one64 nan t = refl
mul_one64 (inf s) t = ap inf (unlike_false s)
mul_one64 (fin s m e) t = by_one (unlike s false) s (m * up e * (1 * 1)) (down e * 1) m e t (unlike_false s) (mul-one (m * up e)) (mul-one (down e))

-- and by minus one changes the sign alone
unlike_true : (s : Bool) → unlike s true ≡ not s
unlike_true true = refl
unlike_true false = refl

pub mul_minus_one64 : (x : Float) → T (fits binary64 x) → mul binary64 x (neg one64) ≡ neg x
unfolding mul neg of_bits
mul_minus_one64 nan t = refl
mul_minus_one64 (inf s) t = ap inf (unlike_true s)
mul_minus_one64 (fin s m e) t =
    by_one (unlike s true) (not s) (m * up e * (1 * 1)) (down e * 1) m e (neg-fits binary64 (fin s m e) t) (unlike_true s) (mul-one (m * up e))
    (mul-one (down e))

pub one64_mul : (x : Float) → T (fits binary64 x) → mul binary64 one64 x ≡ x
unfolding mul of_bits
one64_mul nan t = refl
one64_mul (inf s) t = ap inf (false_unlike s)
one64_mul (fin s m e) t = by_one (unlike false s) s (1 * 1 * (m * up e)) (1 * down e) m e t (false_unlike s) (one-mul (m * up e)) (one-mul (down e))

pub div_one64 : (x : Float) → T (fits binary64 x) → div binary64 x one64 ≡ x
unfolding div of_bits
div_one64 nan t = refl
div_one64 (inf s) t = ap inf (unlike_false s)
div_one64 (fin s m e) t = by_one (unlike s false) s (m * up e * 1) (1 * 1 * down e) m e t (unlike_false s) (mul-one (m * up e)) (one-mul (down e))

-- the crate's `axcpy` at c = 1 and b = 1
pub axcpy_is_axpy : (a x y : Float) → T (fits binary64 y)
    → add binary64 (mul binary64 (mul binary64 a x) one64) (mul binary64 one64 y) ≡ add binary64 (mul binary64 a x) y
axcpy_is_axpy a x y t = ap₂ (add binary64) (mul_one64 (mul binary64 a x) (mul-fits binary64 a x)) (one64_mul y t)
