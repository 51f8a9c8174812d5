-- What holds of a choice between two values, by cases on its test. Assumes nothing.
use mathlib.Core.Path.{◌≡◌, refl, sym}
use mathlib.Core.Bool.{Bool, true, false, cond, ◌&&◌, false≢true}

pub test_cases : {Q : Type 0} (t : Bool) → (t ≡ true → Q) → (t ≡ false → Q) → Q
test_cases true f g = f refl
test_cases false f g = g refl

pub cond_cases : {A : Type 0} (P : A → Type 0) (t : Bool) {a b : A} → (t ≡ true → P a) → (t ≡ false → P b) → P (cond t a b)
cond_cases P true f g = f refl
cond_cases P false f g = g refl

pub cond_both : {A B : Type 0} (P : A → B → Type 0) (t : Bool) {a b : A} {x y : B} → (t ≡ true → P a x) → (t ≡ false → P b y) → P (cond t a b) (cond t x y)
cond_both P true f g = f refl
cond_both P false f g = g refl

pub cond_map : {A B : Type 0} (f : A → B) (t : Bool) (a b : A) → cond t (f a) (f b) ≡ f (cond t a b)
cond_map f true a b = refl
cond_map f false a b = refl

pub and_first : (t u : Bool) → (t && u) ≡ true → t ≡ true
and_first true u e = refl
and_first false u e = absurd (false≢true e)

pub and_second : (t u : Bool) → (t && u) ≡ true → u ≡ true
and_second true u e = e
and_second false u e = absurd (false≢true e)

pub and_both : (t u : Bool) → t ≡ true → u ≡ true → (t && u) ≡ true
and_both t u e d = rw (e, d)

-- two tests are equal where each passes with the other
pub same_test : (t u : Bool) → (t ≡ true → u ≡ true) → (u ≡ true → t ≡ true) → t ≡ u
same_test true u f g = sym (f refl)
same_test false true f g = g refl
same_test false false f g = refl

pub and_true : (t : Bool) → (t && true) ≡ t
and_true true = refl
and_true false = refl
