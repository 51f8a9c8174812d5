-- Where every running product of the plain determinant is finite and of magnitude above 2 ^ -1022, the scaled determinant is the plain one exactly. Turn by
-- turn: both round the same product of significands, the plain one after a power of two went through the rounding. Assumes nothing.
use mathlib.Core.Path.{◌≡◌, refl, sym, ap, ◌∙◌, subst}
use mathlib.Core.Bool.{Bool, true, false, not, cond, false≢true}
use Prim.Native.Nat.{ℕ, zero, suc, ◌*◌, ◌%◌, ◌^◌, ◌≤◌, ◌<◌}
use native.Mathlib.Nat.{le_trans, le_of_eq, lt_of_lt_of_le, lt_of_le_of_lt, mul-zero, zero-mul, one-mul, mul-one, mul_comm, mul_assoc}
use native.Mathlib.Nat.{mul_left_comm, mul_right_comm, mul-pos, mul-le-mul, mul-le-mul_right, mul-lt-mul_of_pos_right, lt_of_mul-lt-mul_right}
use native.Mathlib.Nat.{zero-add, zero-lt-suc, eq_of_mul-eq-mul_right}
use native.Mathlib.Omega.{arith}
use lib.IntN.{ℤ, pos, negsuc, ◌+ℤ◌}
use borrow.Author.Tests.{ltb-true}
use lib.Dec.{T, eqb, lit<, lit≤}
use lib.Pow.{pow_pos}
use lib.Ieee.{Float, nan, inf, fin, binary64, unlike, up, down, round, mul, lt, fits, of_bits}
use lib.Ieee.Fits.{up_pos, down_pos, mul-fits}
use lib.Ieee.Exact.{HasValue}
use lib.Ieee.Bits.{of_bits-fits}
use lib.Ieee.Scale.{round_same, grid, finite, normal_of_fraction}
use Rattle.numbers.specs.Each.{turns_from}
use Rattle.numbers.specs.Numbers.{one64, magnitude}
use Rattle.numbers.specs.Column.{entry}
use Rattle.numbers.proofs.Each.{turns_last}
use Rattle.numbers.proofs.Lasting.{product_finite}
use Rattle.numbers.proofs.Smaller.{bare, smaller_bare}
use Rattle.store.specs.Steps.{Matrix, column}
use Rattle.permutation_sequence.specs.Calls.{sign_of}
use Rattle.from_factors.specs.Determinant.{times_diagonal, diagonal_product, determinant_of}
use Rattle.scaled_determinant.specs.declared.Scaled.{Scaled}
use Rattle.scaled_determinant.specs.Scaled.{significand_of, exponent_of, scaled_times}
use Rattle.scaled_determinant.specs.Determinant.{start, scaled_product, signed_by}
use Rattle.scaled_determinant.proofs.Fractions.{rescale, product, rounded, rounded_under, grid_shift, add_pow}
use Rattle.scaled_determinant.proofs.OneWay.{Fine, Odd, fits_odd, one_way}
use Rattle.scaled_determinant.proofs.Significand.{stepped}
use Rattle.scaled_determinant.proofs.Parts.{value_fine, Apart, taken}
use Rattle.scaled_determinant.proofs.Range.{Sound, product_none, product_next, product_fits, signed_value}

-- 2 ^ -1022, by its bits
abbrev pub least64 : Float
least64 = of_bits binary64 0x10_0000_0000_0000

-- "finite and of magnitude above 2^-1022"
abbrev pub Ample : Float → Type 0
Ample p = (finite p ≡ true) × (lt least64 (magnitude p) ≡ true)

-- "significand times two to the exponent", as one number: exact, since the exponent of a `fin` has no bound
abbrev pub shifted : ℤ → Float → Float
shifted k nan = nan
shifted k (inf s) = inf s
shifted k (fin s m e) = fin s m (e +ℤ k)

abbrev pub value_of : Scaled → Float
value_of r = shifted r.exponent r.significand

-- ---- an ample number is more than 2 ^ 52 units of 2 ^ -1074

magnitude_least : magnitude least64 ≡ least64
unfolding magnitude lt of_bits
magnitude_least = refl

bare_least : bare least64 ≡ fin false 1 (negsuc 1021)
unfolding of_bits
bare_least = refl

above_least : (p : Float) → Ample p → lt (fin false 1 (negsuc 1021)) (bare p) ≡ true
above_least p a =
    ap (λ (z : Float). lt z (bare p)) (sym bare_least)
    ∙ sym (smaller_bare least64 p)
    ∙ ap (λ (z : Float). lt z (magnitude p)) magnitude_least
    ∙ a.1

over : (d n g A B C : ℕ) → 0 < C → 1 * d < n * B → n * C ≡ g * d → A * B ≡ C → A < g
over d n g A B C P h v w =
    let a : 1 * d * C < n * B * C = mul-lt-mul_of_pos_right h P in
    let b : A * (d * B) ≡ 1 * d * C = mul_left_comm A d B ∙ ap (λ (z : ℕ). d * z) w ∙ ap (λ (z : ℕ). z * C) (sym (one-mul d)) in
    let c : n * B * C ≡ g * (d * B) = mul_right_comm n B C ∙ ap (λ (z : ℕ). z * B) v ∙ mul_assoc g d B in
    lt_of_mul-lt-mul_right (d * B) (lt_of_le_of_lt (le_of_eq b) (lt_of_lt_of_le a (le_of_eq c)))

many_units : (p : Float) (s : Bool) (g : ℕ) → lt (fin false 1 (negsuc 1021)) (bare p) ≡ true → HasValue p s g (2 ^ 1074) → 2 ^ 52 < g
unfolding lt
many_units nan s g t v = absurd v
many_units (inf u) s g t v = absurd v
many_units (fin u m e) s g t v = over (down e) (m * up e) g (2 ^ 52) (2 ^ 1022) (2 ^ 1074) (pow_pos 1074) (ltb-true _ _ t) v.1 refl

-- ---- an ample product has no factor that is zero or not finite

zero_product : (s : Bool) → lt (fin false 1 (negsuc 1021)) (bare (round binary64 s 0 1)) ≡ false
unfolding round lt
zero_product s = refl

pub ample_fine : (p x : Float) → Ample (mul binary64 p x) → Fine x
ample_fine p x a = go x p (product_finite p x a.0).0 (product_finite p x a.0).1 (above_least (mul binary64 p x) a)
  where
    go : (x p : Float) → finite p ≡ true → finite x ≡ true → lt (fin false 1 (negsuc 1021)) (bare (mul binary64 p x)) ≡ true → Fine x
    go nan p f g h = absurd (false≢true g)
    go (inf t) p f g h = absurd (false≢true g)
    go (fin t (suc n) d) p f g h = zero-lt-suc n
    go (fin t zero d) nan f g h = absurd (false≢true f)
    go (fin t zero d) (inf s) f g h = absurd (false≢true f)
    go (fin t zero d) (fin s m e) f g h =
        let none : mul binary64 (fin s m e) (fin t 0 d) ≡ round binary64 (unlike s t) 0 1 =
        product (fin s m e) (fin t 0 d) s t (m * up e) (down e) 0 1 (down_pos e) (pow_pos 0) (refl, refl) (refl, simp zero-mul)
        ∙ round_same binary64 (unlike s t) (m * up e * 0) (down e * 1) 0 1 (mul-pos (down_pos e) (pow_pos 0)) (pow_pos 0) (simp (mul-zero, zero-mul)) in
        absurd (false≢true (sym (zero_product (unlike s t)) ∙ ap (λ (z : Float). lt (fin false 1 (negsuc 1021)) (bare z)) (sym none) ∙ h))

-- ---- one turn: p stays the pair's value
abbrev Follows : Float → Scaled → Type 0
Follows p r = (s : Bool) × (M : ℕ) × Apart p r.significand r.exponent s M

fraction : (M ue de N ux dx uE dE h : ℕ) → uE * (de * dx) ≡ ue * ux * dE → M * ue * (N * ux) * (h * h * dE) ≡ M * N * uE * (h * de * (h * dx))
fraction M ue de N ux dx uE dE h p =
    let a : M * ue * (N * ux) * (h * h * dE) ≡ M * N * (h * h) * (ue * ux * dE) = simp (mul_assoc, mul_comm, mul_left_comm) in
    let b : M * N * (h * h) * (uE * (de * dx)) ≡ M * N * uE * (h * de * (h * dx)) = simp (mul_assoc, mul_comm, mul_left_comm) in
    a ∙ ap (λ (z : ℕ). M * N * (h * h) * z) (sym p) ∙ b

as_it_is : (g' d g u M A B C : ℕ) → g' * d ≡ g * u → g ≡ M * A → A * B ≡ C → g' * (B * d) ≡ M * u * C
as_it_is g' d g u M A B C p q w =
    let a : M * A * u * B ≡ M * u * (A * B) = simp (mul_assoc, mul_comm, mul_left_comm) in
    mul_left_comm g' B d ∙ mul_comm B (g' * d) ∙ ap (λ (z : ℕ). z * B) (p ∙ ap (λ (z : ℕ). z * u) q) ∙ a ∙ ap (λ (z : ℕ). M * u * z) w

one_more : (g' d g u M A B C u2 d2 : ℕ) → 0 < d → g' * d ≡ g * u → g ≡ M * A → u2 * (d * 1) ≡ u * 2 * d2 → A * B ≡ 2 * C → g' * (B * d2) ≡ M * u2 * C
one_more g' d g u M A B C u2 d2 D p q r w =
    let a : M * A * u * (B * d2) ≡ M * u * d2 * (A * B) = simp (mul_assoc, mul_comm, mul_left_comm) in
    let b : M * u * d2 * (2 * C) ≡ M * C * (u * 2 * d2) = simp (mul_assoc, mul_comm, mul_left_comm) in
    let c : M * C * (u2 * (d * 1)) ≡ M * u2 * C * d = ap (λ (z : ℕ). M * C * (u2 * z)) (mul-one d) ∙ simp (mul_assoc, mul_comm, mul_left_comm) in
    eq_of_mul-eq-mul_right d D (g' * (B * d2)) (M * u2 * C)
    (mul_right_comm g' (B * d2) d
    ∙ ap (λ (z : ℕ). z * (B * d2)) (p ∙ ap (λ (z : ℕ). z * u) q)
    ∙ a
    ∙ ap (λ (z : ℕ). M * u * d2 * z) w
    ∙ b
    ∙ ap (λ (z : ℕ). M * C * z) (sym r)
    ∙ c)

tracked : (x : Float) (s : Bool) (g' g M : ℕ) (k : Bool) (e : ℤ) → HasValue x s g' (2 ^ 1074) → g' * down e ≡ g * up e → g ≡ M * 2 ^ cond k 1023 1022
    → HasValue x s (M * up (cond k (e +ℤ pos 1) e)) (2 ^ 52 * down (cond k (e +ℤ pos 1) e))
tracked x s g' g M false e v p q =
    rescale x s g' (2 ^ 1074) (M * up e) (2 ^ 52 * down e) (pow_pos 1074) (as_it_is g' (down e) g (up e) M (2 ^ 1022) (2 ^ 52) (2 ^ 1074) p q refl) v
tracked x s g' g M true e v p q =
    let f = e +ℤ pos 1 in
    rescale x s g' (2 ^ 1074) (M * up f) (2 ^ 52 * down f) (pow_pos 1074)
    (one_more g' (down e) g (up e) M (2 ^ 1023) (2 ^ 52) (2 ^ 1074) (up f) (down f) (down_pos e) p q (add_pow e (pos 1)) refl) v

-- the plain product rounds the same whole number W / 2 ^ 104 as the significands do, times 2 ^ e
same_rounding : (W : ℕ) (e : ℤ) (q : Float) (s : Bool) → 2 ^ 104 ≤ W → q ≡ round binary64 s (W * up e) (2 ^ 104 * down e) → Ample q
    → (g : ℕ) × HasValue q s g (2 ^ 1074) × (g * down e ≡ grid binary64 W (2 ^ 104) * up e)
same_rounding W e q s big is ok =
    let n = W * up e in
    let d = 2 ^ 104 * down e in
    let ends : T (finite (round binary64 s n d)) = subst (λ (z : Float). T (finite z)) is (subst T (sym ok.0) tt) in
    let v : HasValue q s (grid binary64 n d) (2 ^ 1074) =
    subst (λ (z : Float). HasValue z s (grid binary64 n d) (2 ^ 1074)) (sym is) (rounded s n d (rounded_under s n d ends)) in
    let normal = normal_of_fraction binary64 W (2 ^ 104) (pow_pos 104) (le_trans (lit≤ tt) (mul-le-mul_right (2 ^ 1074) big)) in
    (grid binary64 n d, v, grid_shift W (2 ^ 104) e (pow_pos 104) normal (many_units q s (grid binary64 n d) (above_least q ok) v))

follows_step : (p : Float) (r : Scaled) (x : Float) → Follows p r → T (fits binary64 x) → Ample (mul binary64 p x)
    → Follows (mul binary64 p x) (scaled_times r x)
unfolding scaled_times
follows_step p r x h t ok =
    let a = taken x t (ample_fine p x ok) in
    let f = r.exponent in
    let d = exponent_of x in
    let e = r.exponent +ℤ exponent_of x in
    let M = h.1 in
    let N = a.1 in
    let s = unlike h.0 a.0 in
    let P : 0 < 2 ^ 52 * down f = mul-pos (pow_pos 52) (down_pos f) in
    let Q : 0 < 2 ^ 52 * down d = mul-pos (pow_pos 52) (down_pos d) in
    let is : mul binary64 p x ≡ round binary64 s (M * N * up e) (2 ^ 104 * down e) =
    product p x h.0 a.0 (M * up f) (2 ^ 52 * down f) (N * up d) (2 ^ 52 * down d) P Q h.2.1 a.2.1
    ∙ round_same binary64 s (M * up f * (N * up d)) (2 ^ 52 * down f * (2 ^ 52 * down d)) (M * N * up e) (2 ^ 104 * down e) (mul-pos P Q)
    (mul-pos (pow_pos 104) (down_pos e)) (fraction M (up f) (down f) N (up d) (down d) (up e) (down e) (2 ^ 52) (add_pow f d)) in
    let st = stepped r.significand (significand_of x) h.0 a.0 M N e h.2.0 a.2.0 in
    let g = same_rounding (M * N) e (mul binary64 p x) s (mul-le-mul h.2.0.1 a.2.0.1) is ok in
    let w = tracked (mul binary64 p x) s g.0 (grid binary64 (M * N) (2 ^ 104)) st.0 st.1 e g.1 g.2 st.4 in
    (s, st.0, (st.2, subst (λ (z : ℤ). HasValue (mul binary64 p x) s (st.0 * up z) (2 ^ 52 * down z)) (sym st.3) w))

-- ---- all turns

plain_none : (cs : Matrix) → diagonal_product 0 cs ≡ one64
unfolding diagonal_product turns_from
plain_none cs = refl

plain_next : (n : ℕ) (cs : Matrix) → diagonal_product (suc n) cs ≡ mul binary64 (diagonal_product n cs) (entry (column cs n) n)
unfolding diagonal_product times_diagonal
plain_next n cs =
    turns_last (times_diagonal cs) 0 n one64 ∙ ap (λ (k : ℕ). mul binary64 (diagonal_product n cs) (entry (column cs k) k)) (zero-add n)

plain_fits : (n : ℕ) (cs : Matrix) → T (fits binary64 (diagonal_product n cs))
plain_fits zero cs = subst (λ (p : Float). T (fits binary64 p)) (sym (plain_none cs)) (of_bits-fits binary64 _)
plain_fits (suc n) cs = subst (λ (p : Float). T (fits binary64 p)) (sym (plain_next n cs)) (mul-fits binary64 _ _)

-- the first n numbers of the diagonal are doubles, as a slice holds them
abbrev pub OfDoubles : ℕ → Matrix → Type 0
OfDoubles n cs = (i : ℕ) → i < n → T (fits binary64 (entry (column cs i) i))

-- "every running product of the plain determinant"
abbrev pub AllAmple : ℕ → Matrix → Type 0
AllAmple n cs = (k : ℕ) → k ≤ n → Ample (diagonal_product k cs)

follows_start : Follows one64 start
unfolding of_bits
follows_start = (false, 2 ^ 52, (((refl, refl), lit≤ tt, lit< tt), (refl, refl)))

next_ample : (n : ℕ) (cs : Matrix) → AllAmple (suc n) cs → Ample (mul binary64 (diagonal_product n cs) (entry (column cs n) n))
next_ample n cs all = subst Ample (plain_next n cs) (all (suc n) (omega arith))

follows_all : (n : ℕ) (cs : Matrix) → OfDoubles n cs → AllAmple n cs → Follows (diagonal_product n cs) (scaled_product n cs)
follows_all zero cs d all = rw (plain_none cs, product_none cs) follows_start
follows_all (suc n) cs d all =
    rw (plain_next n cs, product_next n cs)
    (follows_step (diagonal_product n cs) (scaled_product n cs) (entry (column cs n) n)
    (follows_all n cs (λ i h. d i (omega arith)) (λ k h. all k (omega arith))) (d n (omega arith)) (next_ample n cs all))

-- ample products have no zero on the way
pub ample_sound : (n : ℕ) (cs : Matrix) → OfDoubles n cs → AllAmple n cs → Sound n cs
ample_sound n cs d all i h = (
  d i h,
  ample_fine (diagonal_product i cs) (entry (column cs i) i) (next_ample i cs (λ k l. all k (omega arith))),
)

-- ---- as one number
put : (t : Bool) (m : ℕ) (d k : ℤ) → HasValue (fin t m (d +ℤ k)) t (m * up d * up k) (down d * down k)
put t m d k = (
  refl,
  mul_assoc m (up (d +ℤ k)) (down d * down k)
      ∙ ap (λ (z : ℕ). m * z) (add_pow d k)
      ∙ sym (mul_assoc m (up d * up k) (down (d +ℤ k)))
      ∙ ap (λ (z : ℕ). z * down (d +ℤ k)) (sym (mul_assoc m (up d) (up k))),
)

one_number : (p y : Float) (e : ℤ) (s : Bool) (M : ℕ) → Odd p → Odd y → Apart p y e s M → p ≡ shifted e y
one_number p nan e s M o q h = absurd q
one_number p (inf t) e s M o q h = absurd q
one_number p (fin t m d) e s M o q h =
    let level : M * up e * (down d * down e) ≡ m * up d * up e * (2 ^ 52 * down e) = crossed M (up e) (down e) (m * up d) (down d) (2 ^ 52) h.0.0.1 in
    one_way p (fin t m (d +ℤ e)) t (m * up d * up e) (down d * down e) (mul-pos (down_pos d) (down_pos e)) o q
    (rw h.0.0.0
    (rescale p s (M * up e) (2 ^ 52 * down e) (m * up d * up e) (down d * down e) (mul-pos (pow_pos 52) (down_pos e)) level h.1))
    (put t m d e)
  where
    crossed : (M ue de m d H : ℕ) → m * H ≡ M * d → M * ue * (d * de) ≡ m * ue * (H * de)
    crossed M ue de m d H p =
        let a : M * ue * (d * de) ≡ M * d * (ue * de) = simp (mul_assoc, mul_comm, mul_left_comm) in
        let b : m * H * (ue * de) ≡ m * ue * (H * de) = simp (mul_assoc, mul_comm, mul_left_comm) in
        a ∙ ap (λ (z : ℕ). z * (ue * de)) (sym p) ∙ b

-- THEOREM. Where every running product is finite and of magnitude above 2 ^ -1022, significand times two to the exponent is the plain determinant, exactly.
pub exactly : (n : ℕ) (cs : Matrix) (pairs : ℕ) → OfDoubles n cs → AllAmple n cs → determinant_of n cs pairs ≡ value_of (signed_by pairs (scaled_product n cs))
unfolding determinant_of
exactly n cs pairs d all =
    let p = diagonal_product n cs in
    let r = scaled_product n cs in
    let h = follows_all n cs d all in
    let M = h.1 in
    let e = r.exponent in
    let S = h.2.0 in
    let some : 0 < M = lt_of_lt_of_le (pow_pos 52) S.1 in
    let v = signed_value pairs p h.0 (M * up e) (2 ^ 52 * down e) (plain_fits n cs) h.2.1 in
    let w = signed_value pairs r.significand h.0 M (2 ^ 52) (product_fits n cs) S.0 in
    let P = mul binary64 p (sign_of pairs) in
    let y = mul binary64 r.significand (sign_of pairs) in
    let t = cond (eqb (pairs % 2) 0) h.0 (not h.0) in
    one_number P y e t M
    (fits_odd P (mul-fits binary64 p (sign_of pairs)) (value_fine P t (M * up e) (2 ^ 52 * down e) (mul-pos some (up_pos e)) v))
    (fits_odd y (mul-fits binary64 r.significand (sign_of pairs)) (value_fine y t M (2 ^ 52) some w))
    ((w, S.1, S.2), v)
