-- Significands: a double of magnitude from 1 up to but not 2 is M / 2 ^ 52 for a whole M from 2 ^ 52 up to but not 2 ^ 53 (`Sig`). The product of two of them,
-- rounded once and halved where it reaches 2, is one. By the units of 2 ^ -1074 that the product rounds to. Assumes nothing.
use mathlib.Core.Path.{◌≡◌, refl, sym, ap, ◌∙◌, subst}
use mathlib.Core.Logic.{inl, inr}
use mathlib.Core.Bool.{Bool, true, false, not, cond}
use Prim.Native.Nat.{ℕ, suc, ◌-◌, ◌*◌, ◌/◌, ◌%◌, ◌^◌, ◌≤◌, ◌<◌, compare, zero-le}
use native.Mathlib.Nat.{le_refl, le_trans, le_of_eq, le_antisymm, lt_of_lt_of_le, lt_of_le_of_lt, lt_of_not-le, not-le_of_lt, eq-or-lt_of_le}
use native.Mathlib.Nat.{zero-mul, mul-one, mul_assoc, mul-le-mul, mul-le-mul_right, mul-lt-mul_of_pos_right, mul-pos, le-div_iff_mul-le, div-lt_iff_lt-mul}
use native.Mathlib.Omega.{arith}
use borrow.Author.Tests.{ne_eqb, le-ltb}
use lib.IntN.{ℤ, pos, ◌+ℤ◌}
use lib.Dec.{T, ltb, ltb→lt, nltb→le, not_T, lit<, lit≤}
use lib.Pow.{pow_pos, pow_mono}
use lib.Ieee.{Float, nan, inf, fin, binary64, unlike, up, down, size, round, mul, lt, eq, le, of_bits}
use lib.Ieee.Digits.{size-lt, size-le}
use lib.Ieee.Fits.{nearest-le, up_pos, down_pos}
use lib.Ieee.Exact.{HasValue, round_exact}
use lib.Ieee.Nearest.{closest, closest_same, closest_mono, nearest-ge}
use lib.Ieee.Positive.{positive_of_value, values_of_le}
use lib.Ieee.Order.{le_of_values}
use lib.Ieee.Scale.{grid, overflow}
use lib.Ieee.Bits.{is_true, is_false}
use Rattle.numbers.specs.Numbers.{magnitude}
use Rattle.numbers.proofs.One.{unlike_false}
use Rattle.numbers.proofs.Smaller.{bare, bare_cases}
use Rattle.scaled_determinant.specs.declared.Scaled.{Scaled}
use Rattle.scaled_determinant.specs.Scaled.{scaled, two64, half64, halved_at_two}
use Rattle.scaled_determinant.proofs.Fractions.{rescale, product, rounded}

-- the double x, of sign s, is M / 2 ^ 52
abbrev pub Sig : Float → Bool → ℕ → Type 0
Sig x s M = HasValue x s M (2 ^ 52) × (2 ^ 52 ≤ M) × (M < 2 ^ 53)

-- ---- the rounded product of two, in units: M times 2 ^ 1022 or, with a carry, 2 ^ 1023
pub size_at : (n j : ℕ) → 2 ^ j ≤ n → n < 2 ^ suc j → size n ≡ suc j
size_at n j h k = le_antisymm (size-le n (suc j) k) (lt_of_not-le (λ (g : size n ≤ j). not-le_of_lt (lt_of_lt_of_le (size-lt n) (pow_mono g)) h))

abbrev Settled : ℕ → Type 0
Settled g = (M : ℕ) × (k : Bool) × (2 ^ 52 ≤ M) × (M < 2 ^ 53) × (g ≡ M * 2 ^ cond k 1023 1022)

below_two : (W : ℕ) → 2 ^ 104 ≤ W → W < 2 ^ 105 → Settled (grid binary64 W (2 ^ 104))
below_two W a b =
    let n = W * 2 ^ 1074 in
    let Q = closest W (2 ^ 52) in
    let z : size (n / 2 ^ 104) ≡ 1075 =
    size_at (n / 2 ^ 104) 1074 ((le-div_iff_mul-le (pow_pos 104)).1 (mul-le-mul_right (2 ^ 1074) a))
    ((div-lt_iff_lt-mul (pow_pos 104)).1 (mul-lt-mul_of_pos_right b (pow_pos 1074))) in
    let g : grid binary64 W (2 ^ 104) ≡ Q * 2 ^ 1022 =
    ap (λ (x : ℕ). closest n (2 ^ 104 * 2 ^ (x - 53)) * 2 ^ (x - 53)) z
    ∙ ap (λ (x : ℕ). x * 2 ^ 1022) (closest_same n (2 ^ 104 * 2 ^ 1022) W (2 ^ 52) (pow_pos 1126) (pow_pos 52) (mul_assoc W (2 ^ 1074) (2 ^ 52))) in
    let rest = compare (W % 2 ^ 52 * 2) (2 ^ 52) in
    let lo : 2 ^ 52 ≤ Q = le_trans ((le-div_iff_mul-le (pow_pos 52)).1 a) (nearest-ge (W / 2 ^ 52) rest) in
    let hi : Q ≤ 2 ^ 53 = le_trans (nearest-le (W / 2 ^ 52) rest) ((div-lt_iff_lt-mul (pow_pos 52)).1 b) in
    elim (eq-or-lt_of_le hi) [
      | inl e ↦ (2 ^ 52, true, le_refl (2 ^ 52), lit< tt, g ∙ ap (λ (x : ℕ). x * 2 ^ 1022) e)
      | inr l ↦ (Q, false, lo, l, g)
    ]

from_two : (W : ℕ) → 2 ^ 105 ≤ W → W ≤ (2 ^ 53 - 1) * (2 ^ 53 - 1) → Settled (grid binary64 W (2 ^ 104))
from_two W a b =
    let n = W * 2 ^ 1074 in
    let Q = closest W (2 ^ 53) in
    let c : W < 2 ^ 106 = lt_of_le_of_lt b (lit< tt) in
    let z : size (n / 2 ^ 104) ≡ 1076 =
    size_at (n / 2 ^ 104) 1075 ((le-div_iff_mul-le (pow_pos 104)).1 (mul-le-mul_right (2 ^ 1074) a))
    ((div-lt_iff_lt-mul (pow_pos 104)).1 (mul-lt-mul_of_pos_right c (pow_pos 1074))) in
    let g : grid binary64 W (2 ^ 104) ≡ Q * 2 ^ 1023 =
    ap (λ (x : ℕ). closest n (2 ^ 104 * 2 ^ (x - 53)) * 2 ^ (x - 53)) z
    ∙ ap (λ (x : ℕ). x * 2 ^ 1023) (closest_same n (2 ^ 104 * 2 ^ 1023) W (2 ^ 53) (pow_pos 1127) (pow_pos 53) (mul_assoc W (2 ^ 1074) (2 ^ 53))) in
    let lo : 2 ^ 52 ≤ Q = le_trans ((le-div_iff_mul-le (pow_pos 53)).1 a) (nearest-ge (W / 2 ^ 53) (compare (W % 2 ^ 53 * 2) (2 ^ 53))) in
    let hi : Q ≤ 2 ^ 53 - 1 =
    closest_mono W (2 ^ 53) (2 ^ 53 - 1) 1 (pow_pos 53) (pow_pos 0) (le_trans (le_of_eq (mul-one W)) (le_trans b (lit≤ tt))) in
    (Q, true, lo, lt_of_le_of_lt hi (lit< tt), g)

settled : (M N : ℕ) → 2 ^ 52 ≤ M → M < 2 ^ 53 → 2 ^ 52 ≤ N → N < 2 ^ 53 → Settled (grid binary64 (M * N) (2 ^ 104))
settled M N a b c d = go (ltb (M * N) (2 ^ 105)) (ltb→lt (M * N) (2 ^ 105)) (nltb→le (M * N) (2 ^ 105))
  where
    most : (M : ℕ) → M < 2 ^ 53 → M ≤ 2 ^ 53 - 1
    most M h = omega arith

    go : (t : Bool) → (T t → M * N < 2 ^ 105) → (T (not t) → 2 ^ 105 ≤ M * N) → Settled (grid binary64 (M * N) (2 ^ 104))
    go true h k = below_two (M * N) (mul-le-mul a c) (h tt)
    go false h k = from_two (M * N) (k tt) (mul-le-mul (most M b) (most N d))

-- ---- halved where it reaches 2

-- a number above zero compares with a magnitude as with the number without its sign
le_zero : (m : ℕ) (d : ℤ) → 0 < m → (e : ℤ) → le (fin false m d) (fin true 0 e) ≡ le (fin false m d) (fin false 0 e)
unfolding le lt eq
le_zero m d p e =
    let a = m * up d * down e in
    let some : 0 < a = mul-pos (mul-pos p (up_pos d)) (down_pos e) in
    simp (zero-mul, ne_eqb a 0 (λ z. omega arith), le-ltb a 0 zero-le)

pub le_bare : (m : ℕ) (d : ℤ) → 0 < m → (x : Float) → le (fin false m d) (magnitude x) ≡ le (fin false m d) (bare x)
le_bare m d p = bare_cases (λ a b. le (fin false m d) a ≡ le (fin false m d) b) (λ y. refl) (le_zero m d p)

abbrev pub two : Float
two = fin false 1 (pos 1)

pub two_is : two64 ≡ two
unfolding of_bits
two_is = refl

-- the magnitude reaches 2, or not
pub reached : (q : Float) (e : ℤ) → le two64 (magnitude q) ≡ true → halved_at_two q e ≡ scaled (mul binary64 q half64) (e +ℤ pos 1)
unfolding halved_at_two
reached q e h = rw h

pub not_reached : (q : Float) (e : ℤ) → le two64 (magnitude q) ≡ false → halved_at_two q e ≡ scaled q e
unfolding halved_at_two
not_reached q e h = rw h

reaches_two : (x : Float) → le two64 (magnitude x) ≡ le two (bare x)
reaches_two x = ap (λ (t : Float). le t (magnitude x)) two_is ∙ le_bare 1 (pos 1) (omega arith) x

pub bare_value : (x : Float) (s : Bool) (a c : ℕ) → HasValue x s a c → HasValue (bare x) false a c
bare_value nan s a c h = absurd h
bare_value (inf t) s a c h = absurd h
bare_value (fin t m e) s a c h = (refl, h.1)

pub stays : (q : Float) (s : Bool) (M : ℕ) (e : ℤ) → Sig q s M → halved_at_two q e ≡ scaled q e
stays q s M e h =
    let v = bare_value q s M (2 ^ 52) h.0 in
    let low : le two (bare q) ≡ false = is_false (le two (bare q)) (not_T (le two (bare q)) (λ t.
    not-le_of_lt h.2
    (le_trans (values_of_le two (bare q) 2 1 M (2 ^ 52) tt (positive_of_value (bare q) M (2 ^ 52) v (lt_of_lt_of_le (pow_pos 52) h.1)) (refl, refl) v t)
    (le_of_eq (mul-one M))))) in
    not_reached q e (reaches_two q ∙ low)

carries : (q : Float) (s : Bool) (M : ℕ) (e : ℤ) → HasValue q s M (2 ^ 51) → 2 ^ 52 ≤ M → halved_at_two q e ≡ scaled (mul binary64 q half64) (e +ℤ pos 1)
carries q s M e h a =
    let high : le two (bare q) ≡ true = is_true (le two (bare q))
    (le_of_values two (bare q) 2 1 M (2 ^ 51) (pow_pos 0) (pow_pos 51) (refl, refl) (bare_value q s M (2 ^ 51) h)
    (le_trans a (le_of_eq (sym (mul-one M))))) in
    reached q e (reaches_two q ∙ high)

half_value : HasValue half64 false 1 2
unfolding of_bits
half_value = (refl, refl)

halved : (q : Float) (s : Bool) (M : ℕ) → HasValue q s M (2 ^ 51) → M < 2 ^ 53 → HasValue (mul binary64 q half64) s M (2 ^ 52)
halved q s M h b =
    let is : mul binary64 q half64 ≡ round binary64 s M (2 ^ 52) =
    product q half64 s false M (2 ^ 51) 1 2 (pow_pos 51) (pow_pos 1) h half_value ∙ rw (unlike_false s, mul-one M) in
    rw is
    (round_exact binary64 s M (2 ^ 52) M 1022 (pow_pos 52) b (lt_of_lt_of_le (mul-lt-mul_of_pos_right b (pow_pos 1022)) (lit≤ tt))
    (sym (mul_assoc M (2 ^ 1022) (2 ^ 52))))

-- what one step gives: the significand is M / 2 ^ 52 with the sign s, k says whether it carried, and the rounded product was g units
abbrev pub Stepped : Scaled → Bool → ℤ → ℕ → Type 0
Stepped r s e g = (M : ℕ) × (k : Bool) × Sig r.significand s M × (r.exponent ≡ cond k (e +ℤ pos 1) e) × (g ≡ M * 2 ^ cond k 1023 1022)

settle : (q : Float) (s : Bool) (e : ℤ) (g M : ℕ) (k : Bool) → 2 ^ 52 ≤ M → M < 2 ^ 53 → g ≡ M * 2 ^ cond k 1023 1022 → HasValue q s g (2 ^ 1074)
    → Stepped (halved_at_two q e) s e g
settle q s e g M false a b p v =
    let h : Sig q s M = (rescale q s g (2 ^ 1074) M (2 ^ 52) (pow_pos 1074) (ap (λ (x : ℕ). x * 2 ^ 52) p ∙ mul_assoc M (2 ^ 1022) (2 ^ 52)) v, a, b) in
    subst (λ (r : Scaled). Stepped r s e g) (sym (stays q s M e h)) (M, false, h, refl, p)
settle q s e g M true a b p v =
    let h : HasValue q s M (2 ^ 51) =
    rescale q s g (2 ^ 1074) M (2 ^ 51) (pow_pos 1074) (ap (λ (x : ℕ). x * 2 ^ 51) p ∙ mul_assoc M (2 ^ 1023) (2 ^ 51)) v in
    subst (λ (r : Scaled). Stepped r s e g) (sym (carries q s M e h a)) (M, true, (halved q s M h b, a, b), refl, p)

-- a rounded product of significands is far from overflow
under : (g M : ℕ) (k : Bool) → M < 2 ^ 53 → g ≡ M * 2 ^ cond k 1023 1022 → g < overflow binary64
under g M false b p = rw p (lt_of_lt_of_le (mul-lt-mul_of_pos_right b (pow_pos 1022)) (lit≤ tt))
under g M true b p = rw p (lt_of_lt_of_le (mul-lt-mul_of_pos_right b (pow_pos 1023)) (lit≤ tt))

-- THEOREM. The product of two significands, rounded once and halved where it reaches 2, is a significand.
pub stepped : (x y : Float) (s t : Bool) (M N : ℕ) (e : ℤ) → Sig x s M → Sig y t N
    → Stepped (halved_at_two (mul binary64 x y) e) (unlike s t) e (grid binary64 (M * N) (2 ^ 104))
stepped x y s t M N e X Y =
    let p = settled M N X.1 X.2 Y.1 Y.2 in
    let is = product x y s t M (2 ^ 52) N (2 ^ 52) (pow_pos 52) (pow_pos 52) X.0 Y.0 in
    settle (mul binary64 x y) (unlike s t) e (grid binary64 (M * N) (2 ^ 104)) p.0 p.1 p.2 p.3 p.4
    (rw is (rounded (unlike s t) (M * N) (2 ^ 104) (under (grid binary64 (M * N) (2 ^ 104)) p.0 p.1 p.3 p.4)))
