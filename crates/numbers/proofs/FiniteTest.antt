-- The test of the code for a finite number, x - x == x - x: a rounded sum is never a NaN, so only an infinity or a NaN fails it. Assumes nothing.
use mathlib.Core.Path.{◌≡◌, refl, sym, ap, ◌∙◌, subst}
use mathlib.Core.Bool.{Bool, true, false, cond, not, ◌&&◌, beq}
use Prim.Native.Nat.{ℕ, zero, suc, ◌+◌, ◌-◌, ◌*◌, ◌^◌}
use lib.Dec.{T, ltb}
use lib.IntN.{ℤ}
use lib.Ieee.{Float, nan, inf, fin, Format, binary64, eq, ne, sub, add, neg, sum, round, units, odd, is_nan, low, emax, prec, up, down}
use lib.Ieee.Scale.{finite}
use lib.Ieee.Compare.{differs_from_itself}

odd_number : (d : ℕ) (s : Bool) (q k l : ℕ) → is_nan (odd d s q k l) ≡ false
unfolding odd is_nan
odd_number d s zero k l = refl
odd_number d s (suc q) k l = refl

cond_number : (b : Bool) (x y : Float) → is_nan x ≡ false → is_nan y ≡ false → is_nan (cond b x y) ≡ false
cond_number true x y p q = p
cond_number false x y p q = q

inf_number : (s : Bool) → is_nan (inf s) ≡ false
unfolding is_nan
inf_number s = refl

units_number : (f : Format) (s : Bool) (q k : ℕ) → is_nan (units f s q k) ≡ false
unfolding units
units_number f s q k = cond_number (ltb (q * 2 ^ k) (2 ^ (low f + suc (emax f)))) _ _ (odd_number (suc (prec f)) s q k (low f)) (inf_number s)

-- what is rounded is a number or an infinity
pub round_number : (f : Format) (s : Bool) (a c : ℕ) → is_nan (round f s a c) ≡ false
unfolding round
round_number f s a c = units_number f s _ _

self : (b : Bool) (y : Float) → (T (not b) → y ≡ nan) → is_nan y ≡ false → b ≡ true
unfolding is_nan
self true y h k = refl
self false y h k = absurd (subst T (sym (ap is_nan (h tt)) ∙ k) tt)

-- what is no NaN equals itself
pub eq_self : (y : Float) → is_nan y ≡ false → eq y y ≡ true
unfolding ne
eq_self y k = self (eq y y) y (differs_from_itself y) k

-- the sum of two numbers is a number or an infinity
pub sum_number : (f : Format) (s : Bool) (a : ℕ) (t : Bool) (b c : ℕ) → is_nan (sum f s a t b c) ≡ false
unfolding sum
sum_number f s a t b c =
    cond_number (beq s t) _ _ (round_number f s (a + b) c)
    (cond_number (ltb a b) _ _ (round_number f t (b - a) c) (round_number f (s && ltb b a) (a - b) c))

zero_sum : (s : Bool) (m : ℕ) (e : ℤ) → is_nan (sub binary64 (fin s m e) (fin s m e)) ≡ false
unfolding sub add neg
zero_sum s m e = sum_number binary64 s (m * up e * down e) (not s) (m * up e * down e) (down e * down e)

-- a number less itself is a number, and an infinity less itself is none
pub finite_test : (x : Float) → eq (sub binary64 x x) (sub binary64 x x) ≡ finite x
unfolding sub add neg eq
finite_test nan = refl
finite_test (inf true) = refl
finite_test (inf false) = refl
finite_test (fin true m e) = eq_self (sub binary64 (fin true m e) (fin true m e)) (zero_sum true m e)
finite_test (fin false m e) = eq_self (sub binary64 (fin false m e) (fin false m e)) (zero_sum false m e)
