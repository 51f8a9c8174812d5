-- A double that is finite and not zero, and its two parts: the significand is a `Sig`, both together are the double, they are the only such pair, and the
-- exponent is from -1074 up to 1023. Assumes nothing.
use mathlib.Core.Path.{◌≡◌, refl, sym, ap, ◌∙◌, subst}
use mathlib.Core.Bool.{Bool, false, or-true, true≢false, false≢true}
use Prim.Native.Nat.{ℕ, zero, suc, ◌+◌, ◌-◌, ◌*◌, ◌^◌, ◌≤◌, ◌<◌}
use native.Mathlib.Nat.{le_trans, le_of_eq, lt_of_lt_of_le, lt_of_le_of_lt, lt_of_not-le, not-le_of_lt, zero-lt-suc, zero-mul, mul-one, mul_comm}
use native.Mathlib.Nat.{mul_assoc, mul_left_comm, mul_right_comm, mul-pos, mul-le-mul_right, mul-lt-mul_of_pos_right, eq_of_mul-eq-mul_right}
use native.Mathlib.Omega.{arith}
use borrow.Author.Tests.{eqb-true}
use lib.IntN.{ℤ, pos, negsuc, ◌+ℤ◌}
use lib.Dec.{T, eqb, lit≤}
use lib.Pow.{pow-add, pow_pos, pow_mono}
use lib.Ieee.{Float, nan, inf, fin, binary64, up, down, minus, size, round, eq, fits, of_bits}
use lib.Ieee.Digits.{size-lt, size-le, size_reaches, minus_val}
use lib.Ieee.Fits.{up_pos, down_pos, round-fits}
use lib.Ieee.Exact.{HasValue, round_exact}
use lib.Ieee.Positive.{first_pos}
use Rattle.numbers.specs.Numbers.{is_zero}
use Rattle.numbers.proofs.One.{fits_says, pow_back}
use Rattle.numbers.proofs.Smaller.{and_never}
use Rattle.scaled_determinant.specs.Scaled.{scaled, significand_of, exponent_of, parts_of}
use Rattle.scaled_determinant.specs.Inner.{Parted}
use Rattle.scaled_determinant.proofs.Fractions.{cross, add_pow}
use Rattle.scaled_determinant.proofs.OneWay.{Fine, Odd, fits_odd, one_way, one_scale}
use Rattle.scaled_determinant.proofs.Significand.{Sig}
use Rattle.scaled_determinant.proofs.Exponents.{of_sub, Within}

-- ---- finite and not zero

pub parted_fine : (x : Float) → Parted x → Fine x
unfolding is_zero eq of_bits
parted_fine nan p = absurd (false≢true p.0)
parted_fine (inf s) p = absurd (false≢true p.0)
parted_fine (fin s zero e) p = absurd (true≢false (sym (simp (zero-mul, or-true)) ∙ p.1))
parted_fine (fin s (suc m) e) p = zero-lt-suc m

pub fine_nonzero : (x : Float) → Fine x → is_zero x ≡ false
unfolding is_zero eq of_bits
fine_nonzero nan f = refl
fine_nonzero (inf s) f = refl
fine_nonzero (fin s m e) f =
    and_never (eqb (m * up e * 1) (0 * 1 * down e)) _
    (λ z. let q : m * up e * 1 ≡ 0 * 1 * down e = eqb-true _ _ z in omega (arith, mul-pos f (up_pos e)))

pub fine_parted : (x : Float) → Fine x → Parted x
fine_parted nan f = absurd f
fine_parted (inf s) f = absurd f
fine_parted (fin s m e) f = (refl, fine_nonzero (fin s m e) f)

pub value_fine : (x : Float) (s : Bool) (a c : ℕ) → 0 < a → HasValue x s a c → Fine x
value_fine nan s a c p h = h
value_fine (inf t) s a c p h = h
value_fine (fin t m e) s a c p h =
    first_pos m (up e) (first_pos (m * up e) c (subst (λ (z : ℕ). 0 < z) (sym h.1) (mul-pos p (down_pos e))))

-- ---- x is N / 2 ^ 52 times 2 ^ e, with the sign s, and y is N / 2 ^ 52
abbrev pub Apart : Float → Float → ℤ → Bool → ℕ → Type 0
Apart x y e s N = Sig y s N × HasValue x s (N * up e) (2 ^ 52 * down e)

-- m * 2 ^ e is (m * B) / H times 2 ^ (e + l), with H = A * B and A = 2 ^ l
moved : (m ue de A B ux dx H : ℕ) → A * B ≡ H → ux * (de * 1) ≡ ue * A * dx → m * ue * (H * dx) ≡ m * B * ux * de
moved m ue de A B ux dx H w p =
    let a : m * ue * (A * B * dx) ≡ m * B * (ue * A * dx) = simp (mul_assoc, mul_left_comm) in
    ap (λ (x : ℕ). m * ue * (x * dx)) (sym w)
    ∙ a
    ∙ ap (λ (x : ℕ). m * B * x) (sym p ∙ ap (λ (x : ℕ). ux * x) (mul-one de))
    ∙ sym (mul_assoc (m * B) ux de)

size_pos : (m : ℕ) → 0 < m → 0 < size m
size_pos m h = lt_of_not-le (λ (g : size m ≤ 0). not-le_of_lt (lt_of_lt_of_le (size-lt m) (pow_mono g)) h)

before : (z : ℕ) → 0 < z → z - 1 < z
before z h = omega arith

apart : (s : Bool) (m : ℕ) (e : ℤ) → 0 < m → m < 2 ^ 53
    → Apart (fin s m e) (significand_of (fin s m e)) (exponent_of (fin s m e)) s (m * 2 ^ (52 - (size m - 1)))
unfolding significand_of exponent_of
apart s m e P B =
    let z = size m in
    let Z : 0 < z = size_pos m P in
    let top : z ≤ 53 = size-le m 53 B in
    let l = z - 1 in
    let r = 52 - l in
    let f = minus 0 l in
    let back : l + r ≡ 52 = omega arith in
    let w : 2 ^ l * 2 ^ r ≡ 2 ^ 52 = sym (pow-add 2 l r) ∙ ap (λ (x : ℕ). 2 ^ x) back in
    let v : m * up f * 2 ^ 52 ≡ m * 2 ^ r * down f =
    ap (λ (x : ℕ). m * up f * x) (sym w)
    ∙ sym (mul_assoc (m * up f) (2 ^ l) (2 ^ r))
    ∙ ap (λ (x : ℕ). x * 2 ^ r) (minus_val m 0 l ∙ ap (λ (x : ℕ). x * down f) (mul-one m))
    ∙ mul_right_comm m (down f) (2 ^ r) in
    let lo : 2 ^ 52 ≤ m * 2 ^ r = le_trans (le_of_eq (sym w)) (mul-le-mul_right (2 ^ r) (size_reaches m l (before z Z))) in
    let whole : z + r ≡ 53 = omega arith in
    let hi : m * 2 ^ r < 2 ^ 53 =
    lt_of_lt_of_le (mul-lt-mul_of_pos_right (size-lt m) (pow_pos r)) (le_of_eq (sym (pow-add 2 z r) ∙ ap (λ (x : ℕ). 2 ^ x) whole)) in
    let x = e +ℤ pos l in
    (((refl, v), lo, hi), (refl, moved m (up e) (down e) (2 ^ l) (2 ^ r) (up x) (down x) (2 ^ 52) w (add_pow e (pos l))))

-- THEOREM. A double that is finite and not zero is its significand times two to its exponent, and the significand is of magnitude from 1 up to but not 2.
pub taken : (x : Float) → T (fits binary64 x) → Fine x → (s : Bool) × (N : ℕ) × Apart x (significand_of x) (exponent_of x) s N
taken nan t f = absurd f
taken (inf s) t f = absurd f
taken (fin s m e) t f = (s, m * 2 ^ (52 - (size m - 1)), apart s m e f (fits_says s m e t).0)

-- ---- the only such pair
pub significand_odd : (x : Float) → Odd x → Odd (significand_of x)
unfolding significand_of
significand_odd nan o = o
significand_odd (inf s) o = o
significand_odd (fin s m e) o = o

pub both : {s t : Float} {e f : ℤ} → s ≡ t → e ≡ f → scaled s e ≡ scaled t f
both p q = λ i. scaled (p i) (q i)

-- THEOREM. No other significand and exponent make the double.
pub parts_only : (x y : Float) (e : ℤ) (s : Bool) (N : ℕ) → T (fits binary64 x) → Fine x → Odd y → Apart x y e s N → scaled y e ≡ parts_of x
parts_only x y e s N t f o h =
    let a = taken x t f in
    let M = a.1 in
    let d = exponent_of x in
    let S = a.2.0 in
    let c = cross x s a.0 (N * up e) (2 ^ 52 * down e) (M * up d) (2 ^ 52 * down d) h.1 a.2.1 in
    let level : N * up e * down d ≡ M * up d * down e =
    eq_of_mul-eq-mul_right (2 ^ 52) (pow_pos 52) (N * up e * down d) (M * up d * down e)
    (mul_assoc (N * up e) (down d) (2 ^ 52)
    ∙ ap (λ (z : ℕ). N * up e * z) (mul_comm (down d) (2 ^ 52))
    ∙ c.1
    ∙ ap (λ (z : ℕ). M * up d * z) (mul_comm (2 ^ 52) (down e))
    ∙ sym (mul_assoc (M * up d) (down e) (2 ^ 52))) in
    let w = one_scale (2 ^ 52) N M e d (h.0.1, h.0.2) (S.1, S.2) level in
    let same : HasValue (significand_of x) s N (2 ^ 52) = rw (c.0, w.0) S.0 in
    both (one_way y (significand_of x) s N (2 ^ 52) (pow_pos 52) o (significand_odd x (fits_odd x t f)) h.0.0 same) w.1

-- ---- the significand is a double
sig_fits : (y : Float) (s : Bool) (N : ℕ) → Odd y → Sig y s N → T (fits binary64 y)
sig_fits y s N o h =
    let r = round binary64 s N (2 ^ 52) in
    let v : HasValue r s N (2 ^ 52) =
    round_exact binary64 s N (2 ^ 52) N 1022 (pow_pos 52) h.2 (lt_of_lt_of_le (mul-lt-mul_of_pos_right h.2 (pow_pos 1022)) (lit≤ tt))
    (sym (mul_assoc N (2 ^ 1022) (2 ^ 52))) in
    let k = round-fits binary64 s N (2 ^ 52) in
    let fine : Fine r = value_fine r s N (2 ^ 52) (lt_of_lt_of_le (pow_pos 52) h.1) v in
    subst (λ (z : Float). T (fits binary64 z)) (one_way r y s N (2 ^ 52) (pow_pos 52) (fits_odd r k fine) o v h.0) k

pub significand_fits : (x : Float) → T (fits binary64 x) → Fine x → T (fits binary64 (significand_of x))
significand_fits x t f = let a = taken x t f in sig_fits (significand_of x) a.0 a.1 (significand_odd x (fits_odd x t f)) a.2.0

-- ---- the exponent's range
pow_lt_back : (a b : ℕ) → 2 ^ a < 2 ^ b → a < b
pow_lt_back a b h = lt_of_not-le (λ (g : b ≤ a). not-le_of_lt h (pow_mono g))

single : (m : ℕ) (e : ℤ) → 0 < m → m < 2 ^ 53 → down e ≤ 2 ^ 1074 → m * up e < 2 ^ 1024 * down e → Within 1 (e +ℤ pos (size m - 1))
single m (pos k) p a b c =
    let l = size m - 1 in
    let reached : 2 ^ (k + l) ≤ m * 2 ^ k =
    le_trans (le_of_eq (pow-add 2 k l ∙ mul_comm (2 ^ k) (2 ^ l))) (mul-le-mul_right (2 ^ k) (size_reaches m l (before (size m) (size_pos m p)))) in
    let h : k + l < 1024 = pow_lt_back (k + l) 1024 (lt_of_le_of_lt reached c) in
    (1074 + (k + l), refl, omega arith)
single m (negsuc k) p a b c =
    let z = size m in
    let h : suc k ≤ 1074 = pow_back (suc k) 1074 b in
    let i : z ≤ 53 = size-le m 53 a in
    (1074 - suc k + (z - 1), of_sub (z - 1) (suc k) (1074 - suc k + (z - 1)) 1074 (omega arith), omega arith)

-- THEOREM. A double's exponent is from -1074 up to 1023.
pub exponent_single : (x : Float) → T (fits binary64 x) → Fine x → Within 1 (exponent_of x)
unfolding exponent_of
exponent_single nan t f = absurd f
exponent_single (inf s) t f = absurd f
exponent_single (fin s m e) t f = let w = fits_says s m e t in single m e f w.0 w.1 w.2
