-- Doubles of equal magnitude: of two finite ones the magnitudes are equal exactly when neither is smaller; and what is strictly greater than any third
-- equals nothing that is not, whatever the doubles are. By cases on the doubles. Assumes nothing.
use mathlib.Core.Path.{◌≡◌, refl, sym, ◌∙◌, ap}
use mathlib.Core.Bool.{Bool, true, false, ◌&&◌, ◌||◌, beq, true≢false, false≢true, or-true}
use Prim.Native.Nat.{ℕ, ◌*◌, ◌≤◌, ◌<◌}
use native.Mathlib.Nat.{zero-mul, mul-pos}
use native.Mathlib.Omega.{arith}
use borrow.Author.Tests.{eqb-true, eqb-false, eq-eqb, ltb-false, lt-ltb, le-ltb, ltb-true}
use lib.Dec.{eqb}
use lib.IntN.{ℤ}
use lib.Ieee.{Float, nan, inf, fin, up, down, eq, lt, of_bits, neg}
use lib.Ieee.Fits.{down_pos}
use lib.Ieee.Scale.{finite}
use Rattle.numbers.specs.Numbers.{magnitude, is_zero, zero64}
use Rattle.numbers.proofs.Choice.{test_cases, and_first, cond_cases, same_test}
use Rattle.numbers.proofs.Smaller.{bare, bare_cases, smaller, smaller_bare, frac_trans, and_never}

-- ---- equal magnitudes
-- -0.0 equals what +0.0 equals
zero_left : (e : ℤ) (y : Float) → eq (fin true 0 e) y ≡ eq (fin false 0 e) y
unfolding eq
zero_left e nan = refl
zero_left e (inf t) = refl
zero_left e (fin true n d) = simp zero-mul
zero_left e (fin false n d) = simp zero-mul

zero_right : (x : Float) (e : ℤ) → eq x (fin true 0 e) ≡ eq x (fin false 0 e)
unfolding eq
zero_right nan e = refl
zero_right (inf s) e = refl
zero_right (fin true m f) e = simp zero-mul (alike (eqb (m * up f * down e) 0))
  where
    alike : (b : Bool) → (b && true) ≡ (b && b)
    alike true = refl
    alike false = refl
zero_right (fin false m f) e = simp zero-mul (alike (eqb (m * up f * down e) 0))
  where
    alike : (b : Bool) → (b && b) ≡ (b && true)
    alike true = refl
    alike false = refl

-- x and y are of equal magnitude
abbrev pub equal : Float → Float → Bool
equal x y = eq (magnitude x) (magnitude y)

pub equal_bare : (x y : Float) → equal x y ≡ eq (bare x) (bare y)
equal_bare x y =
    bare_cases (λ a b. eq a (magnitude y) ≡ eq b (magnitude y)) (λ a. refl) (λ e. zero_left e (magnitude y)) x
    ∙ bare_cases (λ a b. eq (bare x) a ≡ eq (bare x) b) (λ a. refl) (zero_right (bare x)) y

bare_equal : (x y : Float) → finite x ≡ true → finite y ≡ true → lt (bare x) (bare y) ≡ false → lt (bare y) (bare x) ≡ false → eq (bare x) (bare y) ≡ true
unfolding lt eq
bare_equal nan y fx fy p q = absurd (false≢true fx)
bare_equal (inf s) y fx fy p q = absurd (false≢true fx)
bare_equal (fin s a e) nan fx fy p q = absurd (false≢true fy)
bare_equal (fin s a e) (inf t) fx fy p q = absurd (false≢true fy)
bare_equal (fin s a e) (fin t b f) fx fy p q =
    let lo : b * up f * down e ≤ a * up e * down f = ltb-false _ _ p in
    let hi : a * up e * down f ≤ b * up f * down e = ltb-false _ _ q in
    rw (eq-eqb (a * up e * down f) (b * up f * down e) (omega arith))

bare_neither : (x y : Float) → finite x ≡ true → finite y ≡ true → eq (bare x) (bare y) ≡ true → lt (bare x) (bare y) ≡ false
unfolding lt eq
bare_neither nan y fx fy p = absurd (false≢true fx)
bare_neither (inf s) y fx fy p = absurd (false≢true fx)
bare_neither (fin s a e) nan fx fy p = absurd (false≢true fy)
bare_neither (fin s a e) (inf t) fx fy p = absurd (false≢true fy)
bare_neither (fin s a e) (fin t b f) fx fy p =
    let same : a * up e * down f ≡ b * up f * down e = eqb-true _ _ (and_first (eqb (a * up e * down f) (b * up f * down e)) _ p) in
    le-ltb (a * up e * down f) (b * up f * down e) (omega arith)

pub neither_equal : (x y : Float) → finite x ≡ true → finite y ≡ true → smaller x y ≡ false → smaller y x ≡ false → equal x y ≡ true
neither_equal x y fx fy p q = equal_bare x y ∙ bare_equal x y fx fy (sym (smaller_bare x y) ∙ p) (sym (smaller_bare y x) ∙ q)

pub equal_neither : (x y : Float) → finite x ≡ true → finite y ≡ true → equal x y ≡ true → smaller x y ≡ false
equal_neither x y fx fy p = smaller_bare x y ∙ bare_neither x y fx fy (sym (equal_bare x y) ∙ p)

-- zero is smaller than what is not zero
bare_zero : (x y : Float) → finite x ≡ true → finite y ≡ true → is_zero x ≡ true → is_zero y ≡ false → lt (bare x) (bare y) ≡ true
unfolding lt eq is_zero of_bits
bare_zero nan y fx fy p q = absurd (false≢true fx)
bare_zero (inf s) y fx fy p q = absurd (false≢true fx)
bare_zero (fin s a e) nan fx fy p q = absurd (false≢true fy)
bare_zero (fin s a e) (inf t) fx fy p q = absurd (false≢true fy)
bare_zero (fin s a e) (fin t b f) fx fy p q =
    let none : a * up e * 1 ≡ 0 * 1 * down e = eqb-true _ _ (and_first (eqb (a * up e * 1) (0 * 1 * down e)) _ p) in
    let left : a * up e ≡ 0 = omega arith in
    test_cases (eqb (b * up f * 1) 0)
    (λ z.
    let gone : b * up f * 1 ≡ 0 = eqb-true _ _ z in
    let level : eqb (b * up f * 1) (0 * 1 * down f) ≡ true = eq-eqb (b * up f * 1) (0 * 1 * down f) (omega arith) in
    absurd (true≢false (sym (both (eqb (b * up f * 1) (0 * 1 * down f)) (beq t false) (eqb (b * up f * 1) 0) level z) ∙ q)))
    (λ z.
    let some : b * up f * 1 ≡ 0 → ⊥ = eqb-false _ _ z in
    let more : 0 < b * up f = omega arith in
    lt-ltb (a * up e * down f) (b * up f * down e) (rw left (omega (arith, mul-pos more (down_pos e)))))
  where
    both : (u v w : Bool) → u ≡ true → w ≡ true → (u && (v || w)) ≡ true
    both true true w g h = refl
    both true false true g h = refl
    both true false false g h = h
    both false v w g h = g

pub zero_smaller : (x y : Float) → finite x ≡ true → finite y ≡ true → is_zero x ≡ true → is_zero y ≡ false → smaller x y ≡ true
zero_smaller x y fx fy p q = smaller_bare x y ∙ bare_zero x y fx fy p q

-- ---- comparisons of magnitudes, NaNs and infinities among them
bare_trans : (x y z : Float) → lt (bare x) (bare y) ≡ true → lt (bare y) (bare z) ≡ true → lt (bare x) (bare z) ≡ true
unfolding lt
bare_trans nan y z p q = p
bare_trans (inf s) nan z p q = absurd (false≢true p)
bare_trans (inf s) (inf t) z p q = absurd (false≢true p)
bare_trans (inf s) (fin t b f) z p q = absurd (false≢true p)
bare_trans (fin s a e) nan z p q = absurd (false≢true p)
bare_trans (fin s a e) (inf t) nan p q = absurd (false≢true q)
bare_trans (fin s a e) (inf t) (inf u) p q = absurd (false≢true q)
bare_trans (fin s a e) (inf t) (fin u c g) p q = absurd (false≢true q)
bare_trans (fin s a e) (fin t b f) nan p q = absurd (false≢true q)
bare_trans (fin s a e) (fin t b f) (inf u) p q = refl
bare_trans (fin s a e) (fin t b f) (fin u c g) p q =
    let less : a * up e * down f < b * up f * down e = ltb-true _ _ p in
    lt-ltb _ _ (frac_trans (a * up e) (b * up f) (c * up g) (down e) (down f) (down g) (down_pos e) (omega arith) (ltb-true _ _ q))

-- what is greater than t does not equal what is not
bare_apart : (t x y : Float) → lt (bare t) (bare x) ≡ false → lt (bare t) (bare y) ≡ true → eq (bare x) (bare y) ≡ false
unfolding lt eq
bare_apart nan x y p q = absurd (false≢true q)
bare_apart (inf s) x nan p q = absurd (false≢true q)
bare_apart (inf s) x (inf u) p q = absurd (false≢true q)
bare_apart (inf s) x (fin u c g) p q = absurd (false≢true q)
bare_apart (fin s a e) nan y p q = refl
bare_apart (fin s a e) (inf t) y p q = absurd (true≢false p)
bare_apart (fin s a e) (fin t b f) nan p q = refl
bare_apart (fin s a e) (fin t b f) (inf u) p q = refl
bare_apart (fin s a e) (fin t b f) (fin u c g) p q =
    and_never (eqb (b * up f * down g) (c * up g * down f)) _ λ z.
    let same : b * up f * down g ≡ c * up g * down f = eqb-true _ _ z in
    let less : b * up f * down g < c * up g * down f =
    frac_trans (b * up f) (a * up e) (c * up g) (down f) (down e) (down g) (down_pos f) (ltb-false _ _ p) (ltb-true _ _ q) in
    omega arith

eqb_swap : (a b : ℕ) → eqb a b ≡ eqb b a
eqb_swap a b = same_test _ _ (λ e. eq-eqb b a (sym (eqb-true a b e))) (λ e. eq-eqb a b (sym (eqb-true b a e)))

bare_swap : (x y : Float) → eq (bare x) (bare y) ≡ eq (bare y) (bare x)
unfolding eq
bare_swap nan nan = refl
bare_swap nan (inf t) = refl
bare_swap nan (fin t b f) = refl
bare_swap (inf s) nan = refl
bare_swap (inf s) (inf t) = refl
bare_swap (inf s) (fin t b f) = refl
bare_swap (fin s a e) nan = refl
bare_swap (fin s a e) (inf t) = refl
bare_swap (fin s a e) (fin t b f) = ap (λ (z : Bool). z && true) (eqb_swap (a * up e * down f) (b * up f * down e))

pub smaller_less : (x y z : Float) → smaller x y ≡ true → smaller y z ≡ true → smaller x z ≡ true
smaller_less x y z p q = smaller_bare x z ∙ bare_trans x y z (sym (smaller_bare x y) ∙ p) (sym (smaller_bare y z) ∙ q)

pub apart : (t x y : Float) → smaller t x ≡ false → smaller t y ≡ true → equal x y ≡ false
apart t x y p q = equal_bare x y ∙ bare_apart t x y (sym (smaller_bare t x) ∙ p) (sym (smaller_bare t y) ∙ q)

pub equal_swap : (x y : Float) → equal x y ≡ equal y x
equal_swap x y = equal_bare x y ∙ bare_swap x y ∙ sym (equal_bare y x)

-- a magnitude is zero where its number is
alike : (u w z : Bool) → (z && (u || z)) ≡ (z && (w || z))
alike u w true = or-true u ∙ sym (or-true w)
alike u w false = refl

zero_neg : (x : Float) → is_zero (neg x) ≡ is_zero x
unfolding is_zero eq neg of_bits
zero_neg nan = refl
zero_neg (inf s) = refl
zero_neg (fin true m e) = rw (zero-mul (down e)) (alike true false (eqb (m * up e * 1) 0))
zero_neg (fin false m e) = rw (zero-mul (down e)) (alike false true (eqb (m * up e * 1) 0))

pub zero_magnitude : (x : Float) → is_zero (magnitude x) ≡ is_zero x
unfolding magnitude
zero_magnitude x = cond_cases (λ v. is_zero v ≡ is_zero x) (lt x zero64) (λ t. zero_neg x) (λ t. refl)
