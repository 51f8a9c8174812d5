-- Taking a double apart by its bits. Of a normal number the bits with the exponent's field of 1.0 are the significand, and the field less 1023 is the
-- exponent. A subnormal number times 2 ^ 54 is normal, has the same significand, and its exponent less 54 is the number's own. Assumes nothing.
use mathlib.Core.Path.{◌≡◌, refl, sym, ap, ◌∙◌, subst}
use mathlib.Core.Logic.{inl, inr}
use mathlib.Core.Bool.{Bool, true, false, not, cond}
use Prim.Native.Nat.{ℕ, suc, ◌+◌, ◌-◌, ◌*◌, ◌/◌, ◌%◌, ◌^◌, ◌≤◌, ◌<◌}
use native.Mathlib.Nat.{lt_of_lt_of_le, eq-zero-or-pos, le-add_right, mul-one, mul_comm, mul_assoc, mul_left_comm, mul-pos}
use native.Mathlib.Nat.{mul-lt-mul_of_pos_right, eq_of_mul-eq-mul_right, mod-lt, pow-suc, zero-lt-suc}
use native.Mathlib.Omega.{arith}
use lib.IntN.{pos, negsuc, sub_ℕ, ◌+ℤ◌, ◌-ℤ◌}
use lib.Dec.{T, leb, le→leb, leb→le, nleb→lt, lit≤, eqb}
use lib.Arith.{lt→nleb}
use lib.Pow.{pow_pos, field}
use lib.Ieee.{Float, nan, inf, fin, binary64, up, down, round, odd, mul, fits, is_nan, of_fields, of_bits, to_bits, nan_bits}
use lib.Ieee.Fits.{mul-fits, up_pos, down_pos}
use lib.Ieee.Exact.{HasValue, odd_sign, round_exact}
use lib.Ieee.Positive.{first_pos}
use lib.Ieee.Scale.{finite}
use lib.Ieee.Bits.{of_bits-to_bits, to_bits-lt, of_bits-fits, is_true, is_false, nan_bits_is}
use Rattle.numbers.proofs.One.{unlike_false}
use Rattle.scaled_determinant.specs.Scaled.{scaled, significand_of, exponent_of, parts_of}
use Rattle.scaled_determinant.proofs.Fractions.{rescale, product, cross, sub_pow, add_pow}
use Rattle.scaled_determinant.proofs.OneWay.{Fine, fits_odd}
use Rattle.scaled_determinant.proofs.Parts.{value_fine, taken, significand_odd, parts_only}

-- ---- what the fields are read as
reads_normal : (s : Bool) (k D : ℕ) → T (finite (of_fields binary64 s (suc k) D)) → HasValue (of_fields binary64 s (suc k) D) s ((2 ^ 52 + D) * 2 ^ k)
    (2 ^ 1074)
unfolding of_fields
reads_normal s k D = go (eqb (suc k) 2047) (eqb D 0)
  where
    go : (a b : Bool) → let x = cond a (cond b (inf s) nan) (odd 53 s (2 ^ 52 + D) k 1074) in T (finite x) → HasValue x s ((2 ^ 52 + D) * 2 ^ k) (2 ^ 1074)
    go true true t = absurd t
    go true false t = absurd t
    go false b t = odd_sign 53 s (2 ^ 52 + D) k 1074

reads_small : (s : Bool) (D : ℕ) → HasValue (of_fields binary64 s 0 D) s (D * 1) (2 ^ 1074)
unfolding of_fields
reads_small s D = odd_sign 53 s D 0 1074

reads_one : (s : Bool) (D : ℕ) → HasValue (of_fields binary64 s 1023 D) s ((2 ^ 52 + D) * 2 ^ 1022) (2 ^ 1074)
unfolding of_fields
reads_one s D = odd_sign 53 s (2 ^ 52 + D) 1022 1074

opened : (b : ℕ) → of_bits binary64 b ≡ of_fields binary64 (leb (2 ^ 63) b) (b % 2 ^ 63 / 2 ^ 52) (b % 2 ^ 52)
unfolding of_bits
opened b = refl

-- ---- the pattern with the field put to 1023
abbrev pub field_of : ℕ → ℕ
field_of b = b / 0x10_0000_0000_0000 % 2048

abbrev pub at_one : ℕ → ℕ
at_one b = b - field_of b * 0x10_0000_0000_0000 + 0x3ff0_0000_0000_0000

field_at_one : (b : ℕ) → b < 2 ^ 64 → at_one b % 2 ^ 63 / 2 ^ 52 ≡ 1023
field_at_one b h = omega arith

digits_at_one : (b : ℕ) → b < 2 ^ 64 → at_one b % 2 ^ 52 ≡ b % 2 ^ 52
digits_at_one b h = omega arith

sign_at_one : (b : ℕ) → b < 2 ^ 64 → leb (2 ^ 63) (at_one b) ≡ leb (2 ^ 63) b
sign_at_one b h = go (leb (2 ^ 63) b) (leb→le (2 ^ 63) b) (nleb→lt (2 ^ 63) b)
  where
    high : (b : ℕ) → b < 2 ^ 64 → 2 ^ 63 ≤ b → 2 ^ 63 ≤ at_one b
    high b h k = omega arith

    low : (b : ℕ) → b < 2 ^ 63 → at_one b < 2 ^ 63
    low b k = omega arith

    go : (t : Bool) → (T t → 2 ^ 63 ≤ b) → (T (not t) → b < 2 ^ 63) → leb (2 ^ 63) (at_one b) ≡ t
    go true f g = is_true (leb (2 ^ 63) (at_one b)) (le→leb (2 ^ 63) (at_one b) (high b h (f tt)))
    go false f g = is_false (leb (2 ^ 63) (at_one b)) (lt→nleb (2 ^ 63) (at_one b) (low b (g tt)))

pub at_one_fits : (b : ℕ) → b < 2 ^ 64 → at_one b < 2 ^ 64
at_one_fits b h = omega arith

at_one_lem : (b : ℕ) → b < 2 ^ 64 → of_bits binary64 (at_one b) ≡ of_fields binary64 (leb (2 ^ 63) b) 1023 (b % 2 ^ 52)
at_one_lem b h = opened (at_one b) ∙ rw (sign_at_one b h, field_at_one b h, digits_at_one b h)

one_value : (b : ℕ) → b < 2 ^ 64 → HasValue (of_bits binary64 (at_one b)) (leb (2 ^ 63) b) (2 ^ 52 + b % 2 ^ 52) (2 ^ 52)
one_value b h =
    let s = leb (2 ^ 63) b in
    let q = 2 ^ 52 + b % 2 ^ 52 in
    rw (at_one_lem b h)
    (rescale (of_fields binary64 s 1023 (b % 2 ^ 52)) s (q * 2 ^ 1022) (2 ^ 1074) q (2 ^ 52) (pow_pos 1074) (mul_assoc q (2 ^ 1022) (2 ^ 52))
    (reads_one s (b % 2 ^ 52)))

-- ---- a double by its own pattern
pub bits_lt : (x : Float) → T (fits binary64 x) → to_bits binary64 x < 2 ^ 64
bits_lt x t = to_bits-lt binary64 x t

own_fields : (x : Float) → T (fits binary64 x)
    → x ≡ of_fields binary64 (leb (2 ^ 63) (to_bits binary64 x)) (field_of (to_bits binary64 x)) (to_bits binary64 x % 2 ^ 52)
own_fields x t =
    let b = to_bits binary64 x in
    sym (of_bits-to_bits binary64 x t) ∙ opened b ∙ ap (λ (z : ℕ). of_fields binary64 (leb (2 ^ 63) b) z (b % 2 ^ 52)) (field b 11 52)

fine_finite : (x : Float) → Fine x → T (finite x)
fine_finite nan f = absurd f
fine_finite (inf s) f = absurd f
fine_finite (fin s m e) f = tt

normal_value : (x : Float) → T (fits binary64 x) → Fine x → (k : ℕ) → field_of (to_bits binary64 x) ≡ suc k
    → HasValue x (leb (2 ^ 63) (to_bits binary64 x)) ((2 ^ 52 + to_bits binary64 x % 2 ^ 52) * 2 ^ k) (2 ^ 1074)
normal_value x t f k h =
    let b = to_bits binary64 x in
    let s = leb (2 ^ 63) b in
    let D = b % 2 ^ 52 in
    let p : x ≡ of_fields binary64 s (suc k) D = own_fields x t ∙ ap (λ (z : ℕ). of_fields binary64 s z D) h in
    subst (λ (z : Float). HasValue z s ((2 ^ 52 + D) * 2 ^ k) (2 ^ 1074)) (sym p)
    (reads_normal s k D (subst (λ (z : Float). T (finite z)) p (fine_finite x f)))

small_value : (x : Float) → T (fits binary64 x) → field_of (to_bits binary64 x) ≡ 0
    → HasValue x (leb (2 ^ 63) (to_bits binary64 x)) (to_bits binary64 x % 2 ^ 52) (2 ^ 1074)
small_value x t h =
    let b = to_bits binary64 x in
    let s = leb (2 ^ 63) b in
    let D = b % 2 ^ 52 in
    let p : x ≡ of_fields binary64 s 0 D = own_fields x t ∙ ap (λ (z : ℕ). of_fields binary64 s z D) h in
    subst (λ (z : Float). HasValue z s D (2 ^ 1074)) (sym p) (rw (mul-one D) at (reads_small s D))

-- ---- a normal number

-- q * 2 ^ k of 2 ^ 1074 is q of 2 ^ 52, times 2 ^ (k + 1 - 1023)
scaled_up : (q k u d : ℕ) → u * 2 ^ 1023 ≡ 2 ^ suc k * d → q * 2 ^ k * (2 ^ 52 * d) ≡ q * u * 2 ^ 1074
scaled_up q k u d p =
    let half : u * 2 ^ 1022 ≡ 2 ^ k * d =
    eq_of_mul-eq-mul_right 2 (zero-lt-suc 1) (u * 2 ^ 1022) (2 ^ k * d)
    (mul_assoc u (2 ^ 1022) 2 ∙ p ∙ ap (λ (z : ℕ). z * d) (pow-suc 2 k) ∙ mul_assoc (2 ^ k) 2 d ∙ ap (λ (z : ℕ). 2 ^ k * z) (mul_comm 2 d)
    ∙ sym (mul_assoc (2 ^ k) d 2)) in
    let a : q * 2 ^ k * (2 ^ 52 * d) ≡ q * 2 ^ 52 * (2 ^ k * d) = regroup q (2 ^ k) (2 ^ 52) d in
    let b : q * 2 ^ 52 * (u * 2 ^ 1022) ≡ q * u * (2 ^ 52 * 2 ^ 1022) = regroup q (2 ^ 52) u (2 ^ 1022) in
    a ∙ ap (λ (z : ℕ). q * 2 ^ 52 * z) (sym half) ∙ b
  where
    regroup : (q a b d : ℕ) → q * a * (b * d) ≡ q * b * (a * d)
    regroup q a b d = simp (mul_assoc, mul_left_comm)

-- THEOREM. What the code reads off the bits of a normal number are its parts.
pub normal_parts : (x : Float) → T (fits binary64 x) → Fine x → 0 < field_of (to_bits binary64 x)
    → scaled (of_bits binary64 (at_one (to_bits binary64 x))) (sub_ℕ (field_of (to_bits binary64 x)) 1023) ≡ parts_of x
normal_parts x t f h =
    let b = to_bits binary64 x in
    let s = leb (2 ^ 63) b in
    let q = 2 ^ 52 + b % 2 ^ 52 in
    let y = of_bits binary64 (at_one b) in
    let k = field_of b - 1 in
    let field_is : field_of b ≡ suc k = omega arith in
    let e = sub_ℕ (field_of b) 1023 in
    let v : HasValue y s q (2 ^ 52) = one_value b (bits_lt x t) in
    let lo : 2 ^ 52 ≤ q = le-add_right (2 ^ 52) (b % 2 ^ 52) in
    let hi : q < 2 ^ 53 = omega arith in
    let fine : Fine y = value_fine y s q (2 ^ 52) (lt_of_lt_of_le (pow_pos 52) lo) v in
    let raised : up e * 2 ^ 1023 ≡ 2 ^ suc k * down e = sub_pow (field_of b) 1023 ∙ ap (λ (z : ℕ). 2 ^ z * down e) field_is in
    let w : HasValue x s (q * up e) (2 ^ 52 * down e) =
    rescale x s (q * 2 ^ k) (2 ^ 1074) (q * up e) (2 ^ 52 * down e) (pow_pos 1074) (scaled_up q k (up e) (down e) raised) (normal_value x t f k field_is) in
    parts_only x y e s q t f (fits_odd y (of_bits-fits binary64 (at_one b)) fine) ((v, lo, hi), w)

-- ---- a subnormal number, times 2 ^ 54
abbrev pub lift : Float
lift = fin false 1 (pos 54)

lifted_value : (x : Float) (s : Bool) (D : ℕ) → D < 2 ^ 52 → HasValue x s D (2 ^ 1074) → HasValue (mul binary64 x lift) s (D * 2 ^ 54) (2 ^ 1074)
lifted_value x s D h v =
    let is : mul binary64 x lift ≡ round binary64 s (D * 2 ^ 54) (2 ^ 1074) =
    product x lift s false D (2 ^ 1074) (2 ^ 54) 1 (pow_pos 1074) (pow_pos 0) v (refl, refl) ∙ rw (unlike_false s) in
    rw is
    (round_exact binary64 s (D * 2 ^ 54) (2 ^ 1074) D 54 (pow_pos 1074) (lt_of_lt_of_le h (lit≤ tt))
    (lt_of_lt_of_le (mul-lt-mul_of_pos_right h (pow_pos 54)) (lit≤ tt)) refl)

-- D * 2 ^ 54 of C is N / H times 2 ^ e, so D of C is N / H times 2 ^ (e - 54)
lowered : (D N H C u d v w : ℕ) → D * 2 ^ 54 * (H * d) ≡ N * u * C → v * (d * 2 ^ 54) ≡ u * 1 * w → 0 < d → D * (H * w) ≡ N * v * C
lowered D N H C u d v w p q P =
    eq_of_mul-eq-mul_right (d * 2 ^ 54) (mul-pos P (pow_pos 54)) (D * (H * w)) (N * v * C)
    (regroup D H w d (2 ^ 54)
    ∙ ap (λ (z : ℕ). z * w) p
    ∙ other N u C w
    ∙ ap (λ (z : ℕ). N * C * z) (ap (λ (z : ℕ). z * w) (sym (mul-one u)) ∙ sym q)
    ∙ last N C v (d * 2 ^ 54))
  where
    regroup : (D H w d K : ℕ) → D * (H * w) * (d * K) ≡ D * K * (H * d) * w
    regroup D H w d K = simp (mul_assoc, mul_comm, mul_left_comm)

    other : (N u C w : ℕ) → N * u * C * w ≡ N * C * (u * w)
    other N u C w = simp (mul_assoc, mul_left_comm)

    last : (N C v K : ℕ) → N * C * (v * K) ≡ N * v * C * K
    last N C v K = simp (mul_assoc, mul_left_comm)

pub record Lifted (x : Float) : Type 0 where
  pub double : T (fits binary64 (mul binary64 x lift))
  pub fine : Fine (mul binary64 x lift)
  pub normal : 0 < field_of (to_bits binary64 (mul binary64 x lift))
  pub parts : scaled (significand_of (mul binary64 x lift)) (exponent_of (mul binary64 x lift) -ℤ pos 54) ≡ parts_of x

-- THEOREM. What the code takes of a subnormal number are its parts.
pub lifted : (x : Float) → T (fits binary64 x) → Fine x → field_of (to_bits binary64 x) ≡ 0 → Lifted x
lifted x t f h =
    let D = to_bits binary64 x % 2 ^ 52 in
    let s = leb (2 ^ 63) (to_bits binary64 x) in
    let v : HasValue x s D (2 ^ 1074) = small_value x t h in
    let small : D < 2 ^ 52 = mod-lt (to_bits binary64 x) (pow_pos 52) in
    let P : 0 < D = digits_pos x s D f v in
    let y = mul binary64 x lift in
    let w : HasValue y s (D * 2 ^ 54) (2 ^ 1074) = lifted_value x s D small v in
    let g : T (fits binary64 y) = mul-fits binary64 x lift in
    let F : Fine y = value_fine y s (D * 2 ^ 54) (2 ^ 1074) (mul-pos P (pow_pos 54)) w in
    let a = taken y g F in
    let N = a.1 in
    let e = exponent_of y in
    let d = e +ℤ negsuc 53 in
    let c = cross y s a.0 (D * 2 ^ 54) (2 ^ 1074) (N * up e) (2 ^ 52 * down e) w a.2.1 in
    let own : HasValue x a.0 (N * up d) (2 ^ 52 * down d) =
    rescale x a.0 D (2 ^ 1074) (N * up d) (2 ^ 52 * down d) (pow_pos 1074)
    (lowered D N (2 ^ 52) (2 ^ 1074) (up e) (down e) (up d) (down d) c.1 (add_pow e (negsuc 53)) (down_pos e)) (rw c.0 at v) in
    record {
      double = g;
      fine = F;
      normal = elim (eq-zero-or-pos (field_of (to_bits binary64 y))) [
        | inl z ↦
            let small-y = to_bits binary64 y in
            let k = cross y s (leb (2 ^ 63) small-y) (D * 2 ^ 54) (2 ^ 1074) (small-y % 2 ^ 52) (2 ^ 1074) w (small_value y g z) in
            absurd (too_small D small-y P (eq_of_mul-eq-mul_right (2 ^ 1074) (pow_pos 1074) (D * 2 ^ 54) (small-y % 2 ^ 52) k.1))
        | inr q ↦ q
      ];
      parts = parts_only x (significand_of y) d a.0 N t f (significand_odd y (fits_odd y g F)) (a.2.0, own);
    }
  where
    digits_pos : (x : Float) (s : Bool) (D : ℕ) → Fine x → HasValue x s D (2 ^ 1074) → 0 < D
    digits_pos nan s D f v = absurd f
    digits_pos (inf u) s D f v = absurd f
    digits_pos (fin u m e) s D f v = first_pos D (down e) (subst (λ (z : ℕ). 0 < z) v.1 (mul-pos (mul-pos f (up_pos e)) (pow_pos 1074)))

    too_small : (D c : ℕ) → 0 < D → D * 2 ^ 54 ≡ c % 2 ^ 52 → ⊥
    too_small D c h p = omega arith

-- ---- what the code asks
pub fine_number : (x : Float) → Fine x → T (not (is_nan x))
unfolding is_nan
fine_number nan f = f
fine_number (inf s) f = tt
fine_number (fin s m e) f = tt

value_number : (x : Float) (s : Bool) (a c : ℕ) → HasValue x s a c → is_nan x ≡ false
unfolding is_nan
value_number nan s a c h = absurd h
value_number (inf t) s a c h = absurd h
value_number (fin t m e) s a c h = refl

pub at_one_number : (b : ℕ) → b < 2 ^ 64 → T (not (nan_bits binary64 (at_one b)))
at_one_number b h =
    let p = nan_bits_is binary64 (at_one b) ∙ value_number (of_bits binary64 (at_one b)) (leb (2 ^ 63) b) (2 ^ 52 + b % 2 ^ 52) (2 ^ 52) (one_value b h) in
    subst (λ (z : Bool). T (not z)) (sym p) tt
