-- What is not finite stays so. Each law is said the other way round: where the result is finite, so was what it was made from. Assumes nothing.
use mathlib.Core.Path.{◌≡◌, refl, sym, ◌∙◌}
use mathlib.Core.Bool.{Bool, true, false, cond, beq, false≢true}
use lib.Dec.{eqb}
use lib.Ieee.{Float, nan, inf, fin, binary64, neg, add, sub, mul, div, unlike}
use lib.Ieee.Scale.{finite}

-- the same read forwards: a test that fails goes on failing
pub lasting : (t u : Bool) → (u ≡ true → t ≡ true) → t ≡ false → u ≡ false
lasting t true h e = absurd (false≢true (sym e ∙ h refl))
lasting t false h e = refl

-- ---- one number

pub neg_finite : (x : Float) → finite (neg x) ≡ finite x
unfolding neg
neg_finite nan = refl
neg_finite (inf s) = refl
neg_finite (fin s m e) = refl

-- a choice between two numbers that are not finite is not finite
neither : (t : Bool) (x y : Float) → finite x ≡ false → finite y ≡ false → finite (cond t x y) ≡ true → ⊥
neither true x y p q h = false≢true (sym p ∙ h)
neither false x y p q h = false≢true (sym q ∙ h)

-- a finite sum has two finite summands
pub sum_finite : (x y : Float) → finite (add binary64 x y) ≡ true → (finite x ≡ true) × (finite y ≡ true)
unfolding add
sum_finite nan y h = absurd (false≢true h)
sum_finite (inf s) nan h = absurd (false≢true h)
sum_finite (inf s) (inf t) h = absurd (neither (beq s t) (inf s) nan refl refl h)
sum_finite (inf s) (fin t n d) h = absurd (false≢true h)
sum_finite (fin s m e) nan h = absurd (false≢true h)
sum_finite (fin s m e) (inf t) h = absurd (false≢true h)
sum_finite (fin s m e) (fin t n d) h = (refl, refl)

-- a finite product has two finite factors: zero times an infinity is a NaN
pub product_finite : (x y : Float) → finite (mul binary64 x y) ≡ true → (finite x ≡ true) × (finite y ≡ true)
unfolding mul
product_finite nan y h = absurd (false≢true h)
product_finite (inf s) nan h = absurd (false≢true h)
product_finite (inf s) (inf t) h = absurd (false≢true h)
product_finite (inf s) (fin t n d) h = absurd (neither (eqb n 0) nan (inf (unlike s t)) refl refl h)
product_finite (fin s m e) nan h = absurd (false≢true h)
product_finite (fin s m e) (inf t) h = absurd (neither (eqb m 0) nan (inf (unlike s t)) refl refl h)
product_finite (fin s m e) (fin t n d) h = (refl, refl)

-- a finite quotient has a finite dividend; not so the divisor, since 1 / infinity is 0
pub quotient_finite : (x y : Float) → finite (div binary64 x y) ≡ true → finite x ≡ true
unfolding div
quotient_finite nan y h = absurd (false≢true h)
quotient_finite (inf s) nan h = absurd (false≢true h)
quotient_finite (inf s) (inf t) h = absurd (false≢true h)
quotient_finite (inf s) (fin t n d) h = absurd (false≢true h)
quotient_finite (fin s m e) y h = refl

pub difference_finite : (x y : Float) → finite (sub binary64 x y) ≡ true → (finite x ≡ true) × (finite y ≡ true)
unfolding sub
difference_finite x y h = let both = sum_finite x (neg y) h in (both.0, sym (neg_finite y) ∙ both.1)
