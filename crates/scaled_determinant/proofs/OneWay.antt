-- A value is written in one way: two floats with odd digits, as doubles have, and of one value are one; and a number is N * 2 ^ e in one way with N from H up
-- to but not 2 * H. By whole numbers times powers of two. Assumes nothing.
use mathlib.Core.Path.{◌≡◌, refl, sym, ap, ◌∙◌}
use mathlib.Core.Bool.{Bool, ◌&&◌}
use Prim.Native.Nat.{ℕ, zero, suc, ◌+◌, ◌*◌, ◌%◌, ◌^◌, ◌≤◌, ◌<◌}
use native.Mathlib.Nat.{le_trans, le_of_eq, le_antisymm, le_of_suc-le-suc, lt_of_not-le, lt_irrefl, lt_of_lt_of_le, zero-lt-suc}
use native.Mathlib.Nat.{mul-one, mul_comm, mul_assoc, mul_left_comm, mul_right_comm, mul-le-mul, mul-lt-mul_of_pos_right, pow-suc, pow-succ'}
use native.Mathlib.Nat.{eq_of_mul-eq-mul_right}
use native.Mathlib.Omega.{arith}
use lib.IntN.{ℤ, pos, negsuc}
use lib.Dec.{T, leb, ltb, eqb, eqb→eq}
use lib.Pow.{pow-add, pow_pos, pow_mono}
use lib.Ieee.{Float, nan, inf, fin, binary64, up, down, fits}
use lib.Ieee.Fits.{and_l}
use lib.Ieee.Exact.{HasValue}

-- ---- N * 2 ^ e is M * 2 ^ d, where whole powers already tell both
abbrev Whole : (ℕ → Type 0) → Type 0
Whole P = (N M a b : ℕ) → P N → P M → N * 2 ^ a ≡ M * 2 ^ b → (N ≡ M) × (a ≡ b)

signed : (P : ℕ → Type 0) → Whole P → (N M : ℕ) (e d : ℤ) → P N → P M → N * up e * down d ≡ M * up d * down e → (N ≡ M) × (e ≡ d)
signed P one N M (pos a) (pos b) p q h =
    let r = one N M a b p q (sym (mul-one (N * 2 ^ a)) ∙ h ∙ mul-one (M * 2 ^ b)) in (r.0, ap pos r.1)
signed P one N M (pos a) (negsuc b) p q h =
    let r = one N M (a + suc b) 0 p q (ap (λ (x : ℕ). N * x) (pow-add 2 a (suc b)) ∙ sym (mul_assoc N (2 ^ a) (2 ^ suc b)) ∙ h ∙ mul-one (M * 1)) in
    absurd (let z = r.1 in let n : ⊥ = omega arith in n)
signed P one N M (negsuc a) (pos b) p q h =
    let r = one N M 0 (b + suc a) p q
    (sym (mul-one (N * 1)) ∙ h ∙ mul_assoc M (2 ^ b) (2 ^ suc a) ∙ ap (λ (x : ℕ). M * x) (sym (pow-add 2 b (suc a)))) in
    absurd (let z = r.1 in let n : ⊥ = omega arith in n)
signed P one N M (negsuc a) (negsuc b) p q h =
    let r = one N M (suc b) (suc a) p q
    (ap (λ (x : ℕ). x * 2 ^ suc b) (sym (mul-one N)) ∙ h ∙ ap (λ (x : ℕ). x * 2 ^ suc a) (mul-one M)) in
    let e : a ≡ b = let z = r.1 in omega arith in
    (r.0, ap negsuc e)

-- ---- odd digits
even_odd : (m t : ℕ) → m % 2 ≡ 1 → m ≡ 2 * t → ⊥
even_odd m t o h = omega arith

odd_whole : Whole (λ m. m % 2 ≡ 1)
odd_whole m n zero zero o p h = (sym (mul-one m) ∙ h ∙ mul-one n, refl)
odd_whole m n zero (suc b) o p h =
    absurd (even_odd m (n * 2 ^ b) o (sym (mul-one m) ∙ h ∙ ap (λ (x : ℕ). n * x) (pow-succ' 2 b) ∙ mul_left_comm n 2 (2 ^ b)))
odd_whole m n (suc a) zero o p h =
    absurd (even_odd n (m * 2 ^ a) p (sym (mul-one n) ∙ sym h ∙ ap (λ (x : ℕ). m * x) (pow-succ' 2 a) ∙ mul_left_comm m 2 (2 ^ a)))
odd_whole m n (suc a) (suc b) o p h =
    let halves : m * 2 ^ a * 2 ≡ n * 2 ^ b * 2 =
    mul_assoc m (2 ^ a) 2 ∙ ap (λ (x : ℕ). m * x) (sym (pow-suc 2 a)) ∙ h ∙ ap (λ (x : ℕ). n * x) (pow-suc 2 b) ∙ sym (mul_assoc n (2 ^ b) 2) in
    let r = odd_whole m n a b o p (eq_of_mul-eq-mul_right 2 (zero-lt-suc 1) (m * 2 ^ a) (n * 2 ^ b) halves) in
    (r.0, ap suc r.1)

-- a number that is finite and not zero
abbrev pub Fine : Float → Type 0
Fine nan = ⊥
Fine (inf s) = ⊥
Fine (fin s m e) = 0 < m

abbrev pub Odd : Float → Type 0
Odd nan = ⊥
Odd (inf s) = ⊥
Odd (fin s m e) = m % 2 ≡ 1

pub fits_odd : (x : Float) → T (fits binary64 x) → Fine x → Odd x
unfolding fits
fits_odd nan t f = f
fits_odd (inf s) t f = f
fits_odd (fin s zero e) t f = absurd (lt_irrefl 0 f)
fits_odd (fin s (suc m) e) t f =
    let a : Bool = eqb (suc m % 2) 1 in
    let b : Bool = ltb (suc m) (2 ^ 53) in
    let c : Bool = leb (down e) (2 ^ 1074) in
    eqb→eq (suc m % 2) 1 (and_l a b (and_l (a && b) c (and_l (a && b && c) (ltb (suc m * up e) (2 ^ 1024 * down e)) t)))

-- THEOREM. Of two floats with odd digits and one value, of sign s and size a / c, each is the other.
pub one_way : (x y : Float) (s : Bool) (a c : ℕ) → 0 < c → Odd x → Odd y → HasValue x s a c → HasValue y s a c → x ≡ y
one_way nan y s a c C o p v w = absurd o
one_way (inf t) y s a c C o p v w = absurd o
one_way (fin t m e) nan s a c C o p v w = absurd p
one_way (fin t m e) (inf u) s a c C o p v w = absurd p
one_way (fin t m e) (fin u n d) s a c C o p v w =
    let same : m * up e * down d ≡ n * up d * down e =
    eq_of_mul-eq-mul_right c C (m * up e * down d) (n * up d * down e)
    (mul_right_comm (m * up e) (down d) c
    ∙ ap (λ (z : ℕ). z * down d) v.1
    ∙ mul_right_comm a (down e) (down d)
    ∙ ap (λ (z : ℕ). z * down e) (sym w.1)
    ∙ mul_right_comm (n * up d) c (down e)) in
    let r = signed (λ k. k % 2 ≡ 1) odd_whole m n e d o p same in
    λ i. fin ((v.0 ∙ sym w.0) i) (r.0 i) (r.1 i)

-- ---- from H up to but not 2 * H
abbrev Between : ℕ → ℕ → Type 0
Between H N = (H ≤ N) × (N < 2 * H)

no_less : (H N M a b : ℕ) → N < 2 * H → H ≤ M → N * 2 ^ a ≡ M * 2 ^ b → a < b → ⊥
no_less H N M a b hi lo h l =
    let twice : 2 * H * 2 ^ a ≡ H * 2 ^ suc a =
    ap (λ (z : ℕ). z * 2 ^ a) (mul_comm 2 H) ∙ mul_assoc H 2 (2 ^ a) ∙ ap (λ (z : ℕ). H * z) (sym (pow-succ' 2 a)) in
    let most : 2 * H * 2 ^ a ≤ M * 2 ^ b = le_trans (le_of_eq twice) (mul-le-mul lo (pow_mono l)) in
    lt_irrefl (N * 2 ^ a) (lt_of_lt_of_le (mul-lt-mul_of_pos_right hi (pow_pos a)) (le_trans most (le_of_eq (sym h))))

between_whole : (H : ℕ) → Whole (Between H)
between_whole H N M a b p q h =
    let e : a ≡ b = le_antisymm (not_more (no_less H M N b a q.1 p.0 (sym h))) (not_more (no_less H N M a b p.1 q.0 h)) in
    (eq_of_mul-eq-mul_right (2 ^ a) (pow_pos a) N M (h ∙ ap (λ (z : ℕ). M * 2 ^ z) (sym e)), e)
  where
    not_more : {x y : ℕ} → (x < y → ⊥) → y ≤ x
    not_more f = le_of_suc-le-suc (lt_of_not-le f)

pub one_scale : (H N M : ℕ) (e d : ℤ) → Between H N → Between H M → N * up e * down d ≡ M * up d * down e → (N ≡ M) × (e ≡ d)
one_scale H = signed (Between H) (between_whole H)
