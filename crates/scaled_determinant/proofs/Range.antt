-- The scaled product keeps its range, turn by turn: the significand is of magnitude from 1 up to but not 2, and the exponent of n diagonals from -1074 n up to
-- 1024 n - 1, which an i32 holds. So it never overflows. Assumes nothing.
use mathlib.Core.Path.{◌≡◌, refl, sym, ap, ◌∙◌, subst}
use mathlib.Core.Logic.{inl, inr}
use mathlib.Core.Bool.{Bool, true, false, not, cond}
use Prim.Native.Nat.{ℕ, zero, suc, ◌*◌, ◌%◌, ◌^◌, ◌≤◌, ◌<◌, zero-le}
use native.Mathlib.Nat.{le_trans, le_of_eq, lt_of_le_of_lt, lt_of_lt_of_le, mul-one, mul_right_comm, mul-lt-mul_of_pos_right, lt_of_mul-lt-mul_right, zero-add}
use native.Mathlib.Omega.{arith}
use lib.IntN.{ℤ, pos, negsuc, ◌+ℤ◌}
use lib.Signed.{mag, le_z}
use lib.Dec.{T, eqb, lt→ltb, leb→le, lit<, lit≤}
use lib.Pow.{pow_pos}
use lib.Ieee.{Float, nan, inf, fin, binary64, unlike, up, down, neg, mul, lt, le, fits, of_bits}
use lib.Ieee.Fits.{down_pos, mul-fits}
use lib.Ieee.Exact.{HasValue}
use lib.Ieee.Order.{le_of_values}
use lib.Ieee.Bits.{is_true, of_bits-fits}
use lib.Ieee.Scale.{finite}
use Rattle.numbers.specs.Numbers.{zero64, one64, magnitude}
use Rattle.numbers.specs.Each.{turns_from}
use Rattle.numbers.specs.Column.{entry}
use Rattle.numbers.proofs.Choice.{cond_cases}
use Rattle.numbers.proofs.Each.{turns_last}
use Rattle.numbers.proofs.One.{mul_one64, mul_minus_one64, one64_mul}
use Rattle.numbers.proofs.Smaller.{bare, smaller_bare}
use Rattle.store.specs.Steps.{Matrix, column}
use Rattle.permutation_sequence.specs.Calls.{sign_of}
use Rattle.scaled_determinant.specs.declared.Scaled.{Scaled}
use Rattle.scaled_determinant.specs.Scaled.{scaled, two64, significand_of, exponent_of, halved_at_two, scaled_times}
use Rattle.scaled_determinant.specs.Determinant.{start, scaled_turn, scaled_product, signed_by}
use Rattle.scaled_determinant.specs.Range.{InRange, Ranged}
use Rattle.scaled_determinant.proofs.OneWay.{Fine}
use Rattle.scaled_determinant.proofs.Significand.{Sig, two, two_is, le_bare, bare_value, stays, stepped}
use Rattle.scaled_determinant.proofs.Exponents.{Within, within_next, within_ends}
use Rattle.scaled_determinant.proofs.Parts.{taken, significand_fits, exponent_single}

-- ---- one turn more

-- a significand, and the exponent of n diagonals; before the first turn it is 1
pub record Bounded (n : ℕ) (r : Scaled) : Type 0 where
  pub sign : Bool
  pub digits : ℕ
  pub sig : Sig r.significand sign digits
  pub within : Within n r.exponent
  pub first : n ≡ 0 → r.significand ≡ one64

pub bounded_start : Bounded 0 start
unfolding of_bits
bounded_start =
    record { sign = false; digits = 2 ^ 52; sig = ((refl, refl), lit≤ tt, lit< tt); within = (0, refl, omega arith); first = λ _. refl }

no_carry : (r : Scaled) (x : Float) → T (fits binary64 x) → Fine x → r.significand ≡ one64
    → scaled_times r x ≡ scaled (significand_of x) (r.exponent +ℤ exponent_of x)
unfolding scaled_times
no_carry r x t f one =
    let a = taken x t f in
    let e = r.exponent +ℤ exponent_of x in
    ap (λ (z : Float). halved_at_two (mul binary64 z (significand_of x)) e) one
    ∙ ap (λ (z : Float). halved_at_two z e) (one64_mul (significand_of x) (significand_fits x t f))
    ∙ stays (significand_of x) a.0 a.1 e a.2.0

pub bounded_step : (n : ℕ) (r : Scaled) (x : Float) → T (fits binary64 x) → Fine x → Bounded n r → Bounded (suc n) (scaled_times r x)
unfolding scaled_times
bounded_step zero r x t f b =
    let a = taken x t f in
    let made : Bounded 1 (scaled (significand_of x) (r.exponent +ℤ exponent_of x)) = record {
      sign = a.0;
      digits = a.1;
      sig = a.2.0;
      within = within_next 0 r.exponent (exponent_of x) false b.within (exponent_single x t f) (λ _. refl);
      first = λ z. absurd (omega (arith, z));
    } in
    subst (Bounded 1) (sym (no_carry r x t f (b.first refl))) made
bounded_step (suc n) r x t f b =
    let a = taken x t f in
    let e = r.exponent +ℤ exponent_of x in
    let st = stepped r.significand (significand_of x) b.sign a.0 b.digits a.1 e b.sig a.2.0 in
    let w = within_next (suc n) r.exponent (exponent_of x) st.1 b.within (exponent_single x t f) (λ z. absurd (omega (arith, z))) in
    record {
      sign = unlike b.sign a.0;
      digits = st.0;
      sig = st.2;
      within = subst (λ (z : ℤ). Within (suc (suc n)) z) (sym st.3) w;
      first = λ z. absurd (omega (arith, z));
    }

-- ---- all turns

-- the first n numbers of the diagonal are doubles, finite and not zero
abbrev pub Sound : ℕ → Matrix → Type 0
Sound n cs = (i : ℕ) → i < n → T (fits binary64 (entry (column cs i) i)) × Fine (entry (column cs i) i)

-- before the first turn, and one turn more
pub product_none : (cs : Matrix) → scaled_product 0 cs ≡ start
unfolding scaled_product turns_from
product_none cs = refl

pub product_next : (n : ℕ) (cs : Matrix) → scaled_product (suc n) cs ≡ scaled_times (scaled_product n cs) (entry (column cs n) n)
unfolding scaled_product scaled_turn
product_next n cs = turns_last (scaled_turn cs) 0 n start ∙ ap (λ (k : ℕ). scaled_times (scaled_product n cs) (entry (column cs k) k)) (zero-add n)

pub product_bounded : (n : ℕ) (cs : Matrix) → Sound n cs → Bounded n (scaled_product n cs)
product_bounded zero cs d = subst (Bounded 0) (sym (product_none cs)) bounded_start
product_bounded (suc n) cs d =
    let here = d n (omega arith) in
    subst (Bounded (suc n)) (sym (product_next n cs))
    (bounded_step n (scaled_product n cs) (entry (column cs n) n) here.0 here.1 (product_bounded n cs (λ i h. d i (omega arith))))

-- ---- the significand's magnitude

one_is : one64 ≡ fin false 1 (pos 0)
unfolding of_bits
one_is = refl

magnitude_two : magnitude two64 ≡ two64
unfolding magnitude lt of_bits
magnitude_two = refl

bare_below : (x : Float) (s : Bool) (M : ℕ) → HasValue x s M (2 ^ 52) → M < 2 ^ 53 → T (lt (bare x) two)
unfolding lt
bare_below nan s M h b = absurd h
bare_below (inf t) s M h b = absurd h
bare_below (fin t m e) s M h b =
    let level : m * up e * 1 * 2 ^ 52 ≡ M * down e = ap (λ (z : ℕ). z * 2 ^ 52) (mul-one (m * up e)) ∙ h.1 in
    lt→ltb (m * up e * 1) (2 * down e)
    (lt_of_mul-lt-mul_right (2 ^ 52)
    (lt_of_le_of_lt (le_of_eq level) (lt_of_lt_of_le (mul-lt-mul_of_pos_right b (down_pos e)) (le_of_eq (mul_right_comm 2 (2 ^ 52) (down e))))))

below_bare : (x : Float) → lt (magnitude x) two64 ≡ lt (bare x) two
below_bare x =
    ap (λ (z : Float). lt (magnitude x) z) (sym magnitude_two) ∙ smaller_bare x two64 ∙ ap (λ (z : Float). lt (bare x) (bare z)) two_is

pub sig_range : (x : Float) (s : Bool) (M : ℕ) → Sig x s M → (le one64 (magnitude x) ≡ true) × (lt (magnitude x) two64 ≡ true)
sig_range x s M h =
    let one = fin false 1 (pos 0) in
    let v = bare_value x s M (2 ^ 52) h.0 in
    let low = le_of_values one (bare x) 1 1 M (2 ^ 52) (pow_pos 0) (pow_pos 52) (refl, refl) v (le_trans h.1 (le_of_eq (sym (mul-one M)))) in (
      ap (λ (z : Float). le z (magnitude x)) one_is ∙ le_bare 1 (pos 0) (omega arith) x ∙ is_true (le one (bare x)) low,
      below_bare x ∙ is_true (lt (bare x) two) (bare_below x s M h.0 h.2),
    )

-- ---- the sign

neg_value : (x : Float) (s : Bool) (a c : ℕ) → HasValue x s a c → HasValue (neg x) (not s) a c
unfolding neg
neg_value nan s a c h = h
neg_value (inf t) s a c h = h
neg_value (fin t m e) s a c h = (ap not h.0, h.1)

-- a double times the sign of the swaps has its own size
pub signed_value : (pairs : ℕ) (x : Float) (s : Bool) (a c : ℕ) → T (fits binary64 x) → HasValue x s a c
    → HasValue (mul binary64 x (sign_of pairs)) (cond (eqb (pairs % 2) 0) s (not s)) a c
unfolding sign_of
signed_value pairs x s a c t h = go (eqb (pairs % 2) 0)
  where
    go : (even : Bool) → HasValue (mul binary64 x (cond even one64 (neg one64))) (cond even s (not s)) a c
    go true = rw (mul_one64 x t) h
    go false = rw (mul_minus_one64 x t) (neg_value x s a c h)

-- the significand is a double, whatever the turns
times_fits : (r : Scaled) (x : Float) → T (fits binary64 (scaled_times r x).significand)
unfolding scaled_times halved_at_two
times_fits r x =
    let p = mul binary64 r.significand (significand_of x) in
    cond_cases (λ (q : Scaled). T (fits binary64 q.significand)) (le two64 (magnitude p)) (λ _. mul-fits binary64 p _) (λ _. mul-fits binary64 _ _)

pub product_fits : (n : ℕ) (cs : Matrix) → T (fits binary64 (scaled_product n cs).significand)
product_fits zero cs = subst (λ (r : Scaled). T (fits binary64 r.significand)) (sym (product_none cs)) (of_bits-fits binary64 _)
product_fits (suc n) cs = subst (λ (r : Scaled). T (fits binary64 r.significand)) (sym (product_next n cs)) (times_fits _ _)

-- with the sign of the swaps it is a significand still
pub signed_sig : (n : ℕ) (cs : Matrix) (pairs : ℕ) → Sound n cs
    → (s : Bool) × (M : ℕ) × Sig (mul binary64 (scaled_product n cs).significand (sign_of pairs)) s M
signed_sig n cs pairs d =
    let b = product_bounded n cs d in
    let v = signed_value pairs (scaled_product n cs).significand b.sign b.digits (2 ^ 52) (product_fits n cs) b.sig.0 in
    (cond (eqb (pairs % 2) 0) b.sign (not b.sign), b.digits, (v, b.sig.1, b.sig.2))

-- THEOREM. A scaled determinant of at most 64 diagonals, none of which is zero, has a significand of magnitude from 1 up to but not 2, and an exponent from
-- -68,736 up to 65,535.
pub in_range : (n : ℕ) (cs : Matrix) (pairs : ℕ) → n ≤ 64 → Sound n cs → InRange (signed_by pairs (scaled_product n cs))
in_range n cs pairs few d =
    let r = scaled_product n cs in
    let ends = within_ends n r.exponent few (product_bounded n cs d).within in
    let h = signed_sig n cs pairs d in
    let g = sig_range (mul binary64 r.significand (sign_of pairs)) h.0 h.1 h.2 in
    record { from_one = g.0; below_two = g.1; least = ends.0; most = ends.1 }

-- ---- what a caller may count on

-- the significand is finite
bare_finite : (x : Float) → lt (bare x) two ≡ true → finite x ≡ true
unfolding lt
bare_finite nan h = h
bare_finite (inf s) h = h
bare_finite (fin s m e) h = refl

zero_finite : finite zero64 ≡ true
unfolding of_bits
zero_finite = refl

pub ranged_finite : (r : Scaled) → Ranged r → finite r.significand ≡ true
ranged_finite r (inl z) = ap (λ (q : Scaled). finite q.significand) z ∙ zero_finite
ranged_finite r (inr h) = bare_finite r.significand (sym (below_bare r.significand) ∙ h.below_two)

-- and the exponent has five digits at most
pub ranged_few : (r : Scaled) → Ranged r → mag r.exponent ≤ 68735
ranged_few r (inl z) = subst (λ (q : Scaled). mag q.exponent ≤ 68735) (sym z) zero-le
ranged_few r (inr h) = few r.exponent h.least.le h.most.le
  where
    few : (e : ℤ) → T (le_z (negsuc 68735) e) → T (le_z e (pos 65535)) → mag e ≤ 68735
    few (pos n) low high = omega (arith, leb→le n 65535 high)
    few (negsuc n) low high = leb→le n 68735 low
