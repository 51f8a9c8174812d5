-- Doubles by their fractions, of either sign: from one fraction to another of the same size, a product by any fractions of its factors, a rounded fraction in
-- units of 2 ^ -1074, and a power of two that goes through a rounding. Assumes nothing.
use mathlib.Core.Path.{◌≡◌, sym, ap, ◌∙◌, subst}
use mathlib.Core.Bool.{Bool, true, false, not, cond}
use Prim.Native.Nat.{ℕ, suc, ◌+◌, ◌-◌, ◌*◌, ◌/◌, ◌^◌, ◌≤◌, ◌<◌}
use native.Mathlib.Nat.{mul-one, mul_comm, mul_assoc, mul_right_comm, mul-pos, mul-mul-mul_comm, eq_of_mul-eq-mul_right}
use native.Mathlib.Omega.{arith}
use lib.IntN.{ℤ, pos, negsuc, sub_ℕ, ◌+ℤ◌}
use lib.Dec.{T, ltb, ltb→lt, nltb→le}
use lib.Pow.{pow-add, pow_pos}
use lib.Ieee.{Float, nan, inf, fin, binary64, unlike, up, down, size, odd, units, round, mul}
use lib.Ieee.Fits.{round_is, down_pos}
use lib.Ieee.Exact.{HasValue, units_val}
use lib.Ieee.Nearest.{closest, closest_same, div_same}
use lib.Ieee.Order.{drop, kept}
use lib.Ieee.Scale.{round_same, grid, overflow, finite, grid_scale, normal_of_rounded}

-- ---- one value, two fractions
pub rescale : (x : Float) (s : Bool) (a c b d : ℕ) → 0 < c → a * d ≡ b * c → HasValue x s a c → HasValue x s b d
rescale nan s a c b d C h v = v
rescale (inf t) s a c b d C h v = v
rescale (fin t m e) s a c b d C h v = (
  v.0,
  eq_of_mul-eq-mul_right c C (m * up e * d) (b * down e)
      (mul_right_comm (m * up e) d c
      ∙ ap (λ (x : ℕ). x * d) v.1
      ∙ mul_right_comm a (down e) d
      ∙ ap (λ (x : ℕ). x * down e) h
      ∙ mul_right_comm b c (down e)),
)

pub cross : (x : Float) (s t : Bool) (a c b d : ℕ) → HasValue x s a c → HasValue x t b d → (s ≡ t) × (a * d ≡ b * c)
cross nan s t a c b d v w = absurd v
cross (inf u) s t a c b d v w = absurd v
cross (fin u m e) s t a c b d v w = (
  sym v.0 ∙ w.0,
  eq_of_mul-eq-mul_right (down e) (down_pos e) (a * d) (b * c)
      (mul_right_comm a d (down e)
      ∙ ap (λ (x : ℕ). x * d) (sym v.1)
      ∙ mul_right_comm (m * up e) c d
      ∙ ap (λ (x : ℕ). x * c) w.1
      ∙ mul_right_comm b (down e) c),
)

-- ---- a product
pub product : (x y : Float) (s t : Bool) (a c b d : ℕ) → 0 < c → 0 < d → HasValue x s a c → HasValue y t b d
    → mul binary64 x y ≡ round binary64 (unlike s t) (a * b) (c * d)
unfolding mul
product nan y s t a c b d C D h k = absurd h
product (inf u) y s t a c b d C D h k = absurd h
product (fin u m e) nan s t a c b d C D h k = absurd k
product (fin u m e) (inf v) s t a c b d C D h k = absurd k
product (fin u m e) (fin v n i) s t a c b d C D h k =
    let same : m * up e * (n * up i) * (c * d) ≡ a * b * (down e * down i) =
    mul-mul-mul_comm (m * up e) (n * up i) c d
    ∙ ap (λ (z : ℕ). z * (n * up i * d)) h.1
    ∙ ap (λ (z : ℕ). a * down e * z) k.1
    ∙ mul-mul-mul_comm a (down e) b (down i) in
    rw (h.0, k.0)
    (round_same binary64 (unlike s t) (m * up e * (n * up i)) (down e * down i) (a * b) (c * d) (mul-pos (down_pos e) (down_pos i)) (mul-pos C D) same)

-- ---- a rounded fraction, in units of 2 ^ -1074
pub rounded : (s : Bool) (a c : ℕ) → grid binary64 a c < overflow binary64 → HasValue (round binary64 s a c) s (grid binary64 a c) (2 ^ 1074)
rounded s a c h =
    subst (λ (z : Float). HasValue z s (grid binary64 a c) (2 ^ 1074)) (sym (round_is binary64 s a c))
    (units_val binary64 s (kept 53 (a * 2 ^ 1074) c) (drop 53 (a * 2 ^ 1074) c) h)

units_under : (s : Bool) (q k : ℕ) → T (finite (units binary64 s q k)) → q * 2 ^ k < overflow binary64
unfolding units
units_under s q k = go (ltb (q * 2 ^ k) (overflow binary64)) (ltb→lt (q * 2 ^ k) (overflow binary64))
  where
    go : (b : Bool) → (T b → q * 2 ^ k < overflow binary64) → T (finite (cond b (odd 54 s q k 1074) (inf s))) → q * 2 ^ k < overflow binary64
    go true h t = h tt
    go false h t = absurd t

pub rounded_under : (s : Bool) (a c : ℕ) → T (finite (round binary64 s a c)) → grid binary64 a c < overflow binary64
rounded_under s a c t =
    units_under s (kept 53 (a * 2 ^ 1074) c) (drop 53 (a * 2 ^ 1074) c) (subst (λ (z : Float). T (finite z)) (round_is binary64 s a c) t)

grid_same : (a b c d : ℕ) → 0 < b → 0 < d → a * d ≡ c * b → grid binary64 a b ≡ grid binary64 c d
grid_same a b c d B D e =
    let l = 2 ^ 1074 in
    let x : a * l * d ≡ c * l * b = mul_right_comm a l d ∙ ap (λ (z : ℕ). z * l) e ∙ mul_right_comm c b l in
    let k : drop 53 (a * l) b ≡ drop 53 (c * l) d = ap (λ (z : ℕ). size z - 53) (div_same (a * l) b (c * l) d B D x) in
    let j = drop 53 (c * l) d in
    let y : a * l * (d * 2 ^ j) ≡ c * l * (b * 2 ^ j) =
    sym (mul_assoc (a * l) d (2 ^ j)) ∙ ap (λ (z : ℕ). z * 2 ^ j) x ∙ mul_assoc (c * l) b (2 ^ j) in
    ap (λ (z : ℕ). closest (a * l) (b * 2 ^ z) * 2 ^ z) k
    ∙ ap (λ (z : ℕ). z * 2 ^ j) (closest_same (a * l) (b * 2 ^ j) (c * l) (d * 2 ^ j) (mul-pos B (pow_pos j)) (mul-pos D (pow_pos j)) y)

-- a power of two goes through the rounding, where a / c is normal and 2 ^ e times it rounds to more than the least normal number
pub grid_shift : (a c : ℕ) (e : ℤ) → 0 < c → 53 ≤ size (a * 2 ^ 1074 / c) → 2 ^ 52 < grid binary64 (a * up e) (c * down e)
    → grid binary64 (a * up e) (c * down e) * down e ≡ grid binary64 a c * up e
grid_shift a c (pos k) C N h =
    mul-one (grid binary64 (a * 2 ^ k) (c * 1)) ∙ ap (λ (z : ℕ). grid binary64 (a * 2 ^ k) z) (mul-one c) ∙ grid_scale binary64 a c k C N
grid_shift a c (negsuc k) C N h =
    let K = 2 ^ suc k in
    let P : 0 < c * K = mul-pos C (pow_pos (suc k)) in
    sym (grid_scale binary64 (a * 1) (c * K) (suc k) P (normal_of_rounded binary64 (a * 1) (c * K) h))
    ∙ grid_same (a * 1 * K) (c * K) a c P C (ap (λ (z : ℕ). z * K * c) (mul-one a) ∙ mul_assoc a K c ∙ ap (λ (z : ℕ). a * z) (mul_comm K c))
    ∙ sym (mul-one (grid binary64 a c))

-- ---- 2 ^ (a - b), and 2 ^ (a + b)
pub sub_pow : (a b : ℕ) → up (sub_ℕ a b) * 2 ^ b ≡ 2 ^ a * down (sub_ℕ a b)
sub_pow a b = go (ltb a b) (ltb→lt a b) (nltb→le a b)
  where
    less : (a b : ℕ) → a < b → a + suc (b - suc a) ≡ b
    less a b h = omega arith

    more : (a b : ℕ) → b ≤ a → a - b + b ≡ a
    more a b h = omega arith

    go : (t : Bool) → (T t → a < b) → (T (not t) → b ≤ a)
        → up (cond t (negsuc (b - suc a)) (pos (a - b))) * 2 ^ b ≡ 2 ^ a * down (cond t (negsuc (b - suc a)) (pos (a - b)))
    go true h k =
        mul_comm 1 (2 ^ b) ∙ mul-one (2 ^ b) ∙ ap (λ (z : ℕ). 2 ^ z) (sym (less a b (h tt))) ∙ pow-add 2 a (suc (b - suc a))
    go false h k = sym (pow-add 2 (a - b) b) ∙ ap (λ (z : ℕ). 2 ^ z) (more a b (k tt)) ∙ sym (mul-one (2 ^ a))

pub add_pow : (a b : ℤ) → up (a +ℤ b) * (down a * down b) ≡ up a * up b * down (a +ℤ b)
add_pow (pos a) (pos b) = ap (λ (z : ℕ). z * 1) (pow-add 2 a b)
add_pow (pos a) (negsuc b) =
    let s = sub_ℕ a (suc b) in
    ap (λ (z : ℕ). up s * z) (mul_comm 1 (2 ^ suc b) ∙ mul-one (2 ^ suc b)) ∙ sub_pow a (suc b) ∙ ap (λ (z : ℕ). z * down s) (sym (mul-one (2 ^ a)))
add_pow (negsuc a) (pos b) =
    let s = sub_ℕ b (suc a) in
    ap (λ (z : ℕ). up s * z) (mul-one (2 ^ suc a)) ∙ sub_pow b (suc a) ∙ ap (λ (z : ℕ). z * down s) (sym (mul-one (2 ^ b)) ∙ mul_comm (2 ^ b) 1)
add_pow (negsuc a) (negsuc b) =
    let shape : suc a + suc b ≡ suc (suc (a + b)) = omega arith in
    mul_comm 1 (2 ^ suc a * 2 ^ suc b)
    ∙ ap (λ (z : ℕ). z * 1) (sym (pow-add 2 (suc a) (suc b)) ∙ ap (λ (z : ℕ). 2 ^ z) shape)
    ∙ mul_comm (2 ^ suc (suc (a + b))) 1
