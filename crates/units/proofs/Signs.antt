-- The sign stands apart: a product or a quotient without its sign is that of the two numbers without theirs, since a rounding puts the sign on last.
-- By cases on the doubles. Assumes nothing.
use mathlib.Core.Path.{◌≡◌, refl}
use Prim.Native.Nat.{ℕ, zero, suc, ◌+◌, ◌-◌, ◌*◌, ◌/◌, ◌%◌, ◌^◌, compare}
use mathlib.Core.Bool.{Bool, false, cond}
use lib.Dec.{ltb, eqb}
use lib.Ieee.{Float, nan, inf, fin, Format, prec, emax, low, unlike, up, down, size, nearest, odd, units, round, mul, div}
use lib.Ieee.Scale.{finite}
use Rattle.numbers.proofs.Smaller.{bare}
use Rattle.numbers.proofs.Choice.{cond_both}

bare_odd : (d : ℕ) (s : Bool) (q k l : ℕ) → bare (odd d s q k l) ≡ odd d false q k l
unfolding odd
bare_odd d s zero k l = refl
bare_odd d s (suc q) k l = refl

bare_cond : (b : Bool) (x x' y y' : Float) → bare x ≡ x' → bare y ≡ y' → bare (cond b x y) ≡ cond b x' y'
bare_cond b x x' y y' p q = cond_both (λ u v. bare u ≡ v) b (λ _. p) (λ _. q)

bare_units : (f : Format) (s : Bool) (q k : ℕ) → bare (units f s q k) ≡ units f false q k
unfolding units
bare_units f s q k =
    bare_cond (ltb (q * 2 ^ k) (2 ^ (low f + suc (emax f)))) (odd (suc (prec f)) s q k (low f)) (odd (suc (prec f)) false q k (low f)) (inf s) (inf false)
    (bare_odd (suc (prec f)) s q k (low f)) refl

pub bare_round : (f : Format) (s : Bool) (a c : ℕ) → bare (round f s a c) ≡ round f false a c
unfolding round
bare_round f s a c =
    let n = a * 2 ^ low f in
    let k = size (n / c) - prec f in
    let u = c * 2 ^ k in
    bare_units f s (nearest (n / u) (compare (n % u * 2) u)) k

pub bare_mul : (f : Format) (x y : Float) → bare (mul f x y) ≡ mul f (bare x) (bare y)
unfolding mul
bare_mul f nan y = refl
bare_mul f (inf s) nan = refl
bare_mul f (inf s) (inf t) = refl
bare_mul f (inf s) (fin t n d) = bare_cond (eqb n 0) nan nan (inf (unlike s t)) (inf false) refl refl
bare_mul f (fin s m e) nan = refl
bare_mul f (fin s m e) (inf t) = bare_cond (eqb m 0) nan nan (inf (unlike s t)) (inf false) refl refl
bare_mul f (fin s m e) (fin t n d) = bare_round f (unlike s t) (m * up e * (n * up d)) (down e * down d)

pub bare_div : (f : Format) (x y : Float) → bare (div f x y) ≡ div f (bare x) (bare y)
unfolding div
bare_div f nan y = refl
bare_div f (inf s) nan = refl
bare_div f (inf s) (inf t) = refl
bare_div f (inf s) (fin t n d) = refl
bare_div f (fin s m e) nan = refl
bare_div f (fin s m e) (inf t) = refl
bare_div f (fin s m e) (fin t n d) =
    bare_cond (eqb n 0) (cond (eqb m 0) nan (inf (unlike s t))) (cond (eqb m 0) nan (inf false))
    (round f (unlike s t) (m * up e * down d) (n * up d * down e)) (round f false (m * up e * down d) (n * up d * down e))
    (bare_cond (eqb m 0) nan nan (inf (unlike s t)) (inf false) refl refl)
    (bare_round f (unlike s t) (m * up e * down d) (n * up d * down e))

pub bare_finite : (x : Float) → finite (bare x) ≡ finite x
bare_finite nan = refl
bare_finite (inf s) = refl
bare_finite (fin s m e) = refl
