-- The order of doubles by magnitude: comparing magnitudes is comparing the numbers with their signs cleared. By cases on the doubles; of finite
-- ones by their fractions. Assumes nothing.
use Prim.Native.Nat.{ℕ, zero, suc, ◌+◌, ◌*◌, ◌≤◌, ◌<◌, zero-le}
use native.Mathlib.Nat.{mul-le-mul_right, mul-lt-mul_of_pos_right, lt_of_mul-lt-mul_right, mul-pos, zero-lt-suc, add-zero, zero-add, zero-mul}
use native.Mathlib.Omega.{arith}
use mathlib.Core.Path.{◌≡◌, refl, sym, ◌∙◌}
use mathlib.Core.Bool.{Bool, true, false, ◌&&◌, false≢true}
use borrow.Author.Tests.{ltb-true, ltb-false, lt-ltb, le-ltb, eqb-true}
use lib.Dec.{ltb, eqb}
use lib.IntN.{ℤ}
use lib.Ieee.{Float, nan, inf, fin, up, down, neg, lt, eq, of_bits}
use lib.Ieee.Fits.{up_pos, down_pos}
use lib.Ieee.Scale.{finite}
use Rattle.numbers.specs.Numbers.{magnitude, is_zero}
use Rattle.numbers.proofs.Choice.{test_cases, cond_cases}

-- ---- magnitudes compare as the numbers with their signs cleared
-- x without its sign
abbrev pub bare : Float → Float
bare nan = nan
bare (inf s) = inf false
bare (fin s m e) = fin false m e

-- a magnitude is the number without its sign, or -0.0
pub bare_cases : (P : Float → Float → Type 0) → ((y : Float) → P y y) → ((e : ℤ) → P (fin true 0 e) (fin false 0 e)) → (x : Float) → P (magnitude x) (bare x)
unfolding magnitude lt neg of_bits
bare_cases P p z nan = p nan
bare_cases P p z (inf true) = p (inf false)
bare_cases P p z (inf false) = p (inf false)
bare_cases P p z (fin false m e) =
    cond_cases (λ v. P v (fin false m e)) (ltb (m * up e * 1) (0 * 1 * down e))
    (λ t. absurd (let h : m * up e * 1 < 0 * 1 * down e = ltb-true _ _ t in let n : ⊥ = omega arith in n)) (λ t. p (fin false m e))
bare_cases P p z (fin true zero e) = cond_cases (λ v. P v (fin false 0 e)) (ltb 0 (0 * up e * 1 + 0 * 1 * down e)) (λ t. p (fin false 0 e)) (λ t. z e)
bare_cases P p z (fin true (suc m) e) =
    cond_cases (λ v. P v (fin false (suc m) e)) (ltb 0 (suc m * up e * 1 + 0 * 1 * down e)) (λ t. p (fin false (suc m) e))
    (λ t. absurd (let h : suc m * up e * 1 + 0 * 1 * down e ≤ 0 = ltb-false _ _ t in let n : ⊥ = omega (arith, mul-pos (zero-lt-suc m) (up_pos e)) in n))

-- -0.0 compares as +0.0 does
zero_left : (e : ℤ) (y : Float) → lt (fin true 0 e) y ≡ lt (fin false 0 e) y
unfolding lt
zero_left e nan = refl
zero_left e (inf t) = refl
zero_left e (fin false n d) = simp (zero-mul, zero-add)
zero_left e (fin true n d) = simp zero-mul (le-ltb (n * up d * down e) 0 zero-le)

zero_right : (x : Float) (e : ℤ) → lt x (fin true 0 e) ≡ lt x (fin false 0 e)
unfolding lt
zero_right nan e = refl
zero_right (inf s) e = refl
zero_right (fin false m f) e = simp zero-mul (sym (le-ltb (m * up f * down e) 0 zero-le))
zero_right (fin true m f) e = simp (zero-mul, add-zero)

-- x is of smaller magnitude than y
abbrev pub smaller : Float → Float → Bool
smaller x y = lt (magnitude x) (magnitude y)

pub smaller_bare : (x y : Float) → smaller x y ≡ lt (bare x) (bare y)
smaller_bare x y =
    bare_cases (λ a b. lt a (magnitude y) ≡ lt b (magnitude y)) (λ a. refl) (λ e. zero_left e (magnitude y)) x
    ∙ bare_cases (λ a b. lt (bare x) a ≡ lt (bare x) b) (λ a. refl) (zero_right (bare x)) y

-- ---- what is strictly greater in magnitude than anything is not zero
pub and_never : (t u : Bool) → (t ≡ true → ⊥) → (t && u) ≡ false
and_never true u n = absurd (n refl)
and_never false u n = refl

bare_nonzero : (x y : Float) → lt (bare x) (bare y) ≡ true → is_zero y ≡ false
unfolding lt eq is_zero of_bits
bare_nonzero nan y h = absurd (false≢true h)
bare_nonzero (inf s) nan h = refl
bare_nonzero (inf s) (inf t) h = refl
bare_nonzero (inf s) (fin t n d) h = absurd (false≢true h)
bare_nonzero (fin s m e) nan h = refl
bare_nonzero (fin s m e) (inf t) h = refl
bare_nonzero (fin s m e) (fin t n d) h =
    and_never (eqb (n * up d * 1) (0 * 1 * down d)) _ λ z.
    let q : n * up d * 1 ≡ 0 * 1 * down d = eqb-true _ _ z in
    let r : n * up d ≡ 0 = omega arith in
    let l : m * up e * down d < n * up d * down e = ltb-true _ _ h in
    let l' : m * up e * down d < 0 * down e = rw r at l in
    omega arith

pub smaller_nonzero : (x y : Float) → smaller x y ≡ true → is_zero y ≡ false
smaller_nonzero x y h = bare_nonzero x y (sym (smaller_bare x y) ∙ h)

-- ---- the order of finite numbers by magnitude
-- of fractions a / x, b / y, c / z
pub frac_trans : (a b c x y z : ℕ) → 0 < x → a * y ≤ b * x → b * z < c * y → a * z < c * x
frac_trans a b c x y z hx p q = lt_of_mul-lt-mul_right y (omega (arith, mul-le-mul_right z p, mul-lt-mul_of_pos_right q hx))

bare_trans : (x y z : Float) → finite x ≡ true → finite y ≡ true → finite z ≡ true → lt (bare y) (bare x) ≡ false → lt (bare y) (bare z) ≡ true
    → lt (bare x) (bare z) ≡ true
unfolding lt
bare_trans nan y z fx fy fz p q = absurd (false≢true fx)
bare_trans (inf s) y z fx fy fz p q = absurd (false≢true fx)
bare_trans (fin s a e) nan z fx fy fz p q = absurd (false≢true fy)
bare_trans (fin s a e) (inf t) z fx fy fz p q = absurd (false≢true fy)
bare_trans (fin s a e) (fin t b f) nan fx fy fz p q = absurd (false≢true fz)
bare_trans (fin s a e) (fin t b f) (inf u) fx fy fz p q = absurd (false≢true fz)
bare_trans (fin s a e) (fin t b f) (fin u c g) fx fy fz p q =
    lt-ltb _ _ (frac_trans (a * up e) (b * up f) (c * up g) (down e) (down f) (down g) (down_pos e) (ltb-false _ _ p) (ltb-true _ _ q))

-- |x| ≤ |y| < |z|
pub smaller_trans : (x y z : Float) → finite x ≡ true → finite y ≡ true → finite z ≡ true → smaller y x ≡ false → smaller y z ≡ true → smaller x z ≡ true
smaller_trans x y z fx fy fz p q = smaller_bare x z ∙ bare_trans x y z fx fy fz (sym (smaller_bare y x) ∙ p) (sym (smaller_bare y z) ∙ q)

bare_asym : (x y : Float) → lt (bare x) (bare y) ≡ true → lt (bare y) (bare x) ≡ false
unfolding lt
bare_asym nan y p = absurd (false≢true p)
bare_asym (inf s) nan p = refl
bare_asym (inf s) (inf t) p = refl
bare_asym (inf s) (fin t b f) p = absurd (false≢true p)
bare_asym (fin s a e) nan p = refl
bare_asym (fin s a e) (inf t) p = refl
bare_asym (fin s a e) (fin t b f) p =
    let h : a * up e * down f < b * up f * down e = ltb-true _ _ p in le-ltb (b * up f * down e) (a * up e * down f) (omega arith)

pub smaller_asym : (x y : Float) → smaller x y ≡ true → smaller y x ≡ false
smaller_asym x y p = smaller_bare y x ∙ bare_asym x y (sym (smaller_bare x y) ∙ p)

pub smaller_self : (x : Float) → smaller x x ≡ false
smaller_self x = test_cases (smaller x x) (λ p. smaller_asym x x p) (λ p. p)
