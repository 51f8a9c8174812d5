-- A whole number in decimal with no zeros in front, and with its sign: how many digits there are is told by their being as few as can be, and a number without
-- its sign goes through an i32 and a u64, which hold it. Assumes nothing.
use mathlib.Core.Path.{◌≡◌, refl, sym, ap, ◌∙◌, subst}
use mathlib.Core.Bool.{Bool, true, false, true≢false}
use mathlib.Core.List.{List, [], ◌∷◌, ◌++◌}
use Prim.Native.Nat.{ℕ, zero, suc, ◌+◌, ◌-◌, ◌*◌, ◌/◌, ◌^◌, ◌≤◌, ◌<◌}
use native.Mathlib.Nat.{pow-suc, pow-succ', le-div_iff_mul-le, div-lt_iff_lt-mul}
use native.Mathlib.Omega.{arith}
use borrow.Author.Tests.{ltb-true, lt-ltb}
use lib.Dec.{T, ltb}
use lib.IntN.{ℤ, pos, negsuc, nat_abs, ◌-ℤ◌}
use lib.ListN.{length, set, length-append, length-set}
use lib.Signed.{mag, lt_z, non_neg}
use mir.Syntax.{w32, w64}
use mir.Val.{Fits, SFits, to_z, of_z}
use mir.ValLaws.{to_z-of_z}
use Rattle.numbers.proofs.Choice.{cond_cases}
use Rattle.io.specs.Digits.{last_digits, IsDigitCount}
use Rattle.panel_text.specs.Text.{written, digits_in, whole, signed}
use Rattle.panel_text.proofs.Writing.{written_byte, length_written, written_more, length_digits}

-- ---- the digits
ten : 0 < 10
ten = omega arith

least_power : (j : ℕ) → 1 ≤ 10 ^ j
least_power zero = omega arith
least_power (suc j) = rw (pow-suc 10 j) (omega (arith, least_power j))

one_digit : (n k : ℕ) → n < 10 → IsDigitCount 10 1 n k → k ≡ 1
one_digit n zero h f = absurd (let z = f.0 in let no : ⊥ = omega arith in no)
one_digit n (suc zero) h f = refl
one_digit n (suc (suc j)) h f =
    let shape : suc (suc j) - 1 ≡ suc j = omega arith in
    let least : 10 ^ suc j ≤ n = rw shape at (f.2 (omega arith)) in
    let power : 10 ^ suc j ≡ 10 * 10 ^ j = pow-succ' 10 j in
    absurd (let no : ⊥ = omega (arith, least_power j) in no)

fewer : (n j : ℕ) → IsDigitCount 10 1 n (suc (suc j)) → IsDigitCount 10 1 (n / 10) (suc j)
fewer n j f = (
  omega arith,
  (div-lt_iff_lt-mul ten).1 (rw (pow-suc 10 (suc j)) at f.1),
  λ h. (le-div_iff_mul-le ten).1 (least h),
)
  where
    least : 1 < suc j → 10 ^ (suc j - 1) * 10 ≤ n
    least h =
        let shape : suc (suc j) - 1 ≡ suc (suc j - 1) = omega arith in
        rw (pow-suc 10 (suc j - 1)) at (rw shape at (f.2 (omega arith)))

pub fewest_digits : (f n k : ℕ) → n < 10 ^ suc f → IsDigitCount 10 1 n k → k ≡ digits_in f n
unfolding digits_in
fewest_digits zero n k h few = one_digit n k h few
fewest_digits (suc f) n zero h few = absurd (let z = few.0 in let no : ⊥ = omega arith in no)
fewest_digits (suc f) n (suc zero) h few = let small : n < 10 = few.1 in rw (lt-ltb n 10 small)
fewest_digits (suc f) n (suc (suc j)) h few =
    cond_cases (λ (d : ℕ). suc (suc j) ≡ d) (ltb n 10) (λ t. one_digit n (suc (suc j)) (ltb-true n 10 t) few)
    (λ t. ap suc (fewest_digits f (n / 10) (suc j) ((div-lt_iff_lt-mul ten).1 (rw (pow-suc 10 (suc f)) at h)) (fewer n j few)))

digits_few : (f n : ℕ) → digits_in f n ≤ suc f
unfolding digits_in
digits_few zero n = omega arith
digits_few (suc f) n = cond_cases (λ (d : ℕ). d ≤ suc (suc f)) (ltb n 10) (λ _. omega arith) (λ _. omega (arith, digits_few f (n / 10)))

pub whole_few : (n : ℕ) → length (whole n) ≤ 5
whole_few n = omega (arith, length_digits 10 (digits_in 4 n) n, digits_few 4 n)

-- what the digits spell
pub spelled : (n k : ℕ) (t : List ℕ) → n < 100000 → IsDigitCount 10 1 n k → t ≡ last_digits 10 k n → t ≡ whole n
spelled n k t h f e = e ∙ ap (λ (j : ℕ). last_digits 10 j n) (fewest_digits 4 n k h f)

-- ---- the sign
not_below : (n : ℕ) → ltb n 0 ≡ true → ⊥
not_below n h = let z : n < 0 = ltb-true n 0 h in omega arith

pub signed_below : (e : ℤ) → lt_z e (pos 0) ≡ true → signed e ≡ 45 ∷ whole (nat_abs e)
unfolding signed
signed_below (pos n) h = absurd (not_below n h)
signed_below (negsuc n) h = refl

pub signed_above : (e : ℤ) → lt_z e (pos 0) ≡ false → signed e ≡ whole (nat_abs e)
unfolding signed
signed_above (pos n) h = refl
signed_above (negsuc n) h = absurd (true≢false h)

pub signed_few : (e : ℤ) → length (signed e) ≤ 6
unfolding signed
signed_few (pos n) = omega (arith, whole_few n)
signed_few (negsuc n) = omega (arith, whole_few (suc n))

-- a minus and the number behind it
pub minus_written : (at n r : ℕ) (e : ℤ) (s t : List ℕ) → at + 6 ≤ length s → signed e ≡ 45 ∷ whole n → r ≡ at + 1 + length (whole n)
    → t ≡ written (at + 1) (whole n) (set s at 45) → (r ≡ at + length (signed e)) × (t ≡ written at (signed e) s)
minus_written at n r e s t h is d f =
    let few = whole_few n in
    let more = written_more at (at + 1) (45 ∷ []) (whole n) s (set s at 45) t (written_byte at 45 s (omega arith)) refl f (omega arith) in
    rw is (omega arith, more)

-- ---- the line of a scaled determinant: 16 digits d, a space, the exponent e, the newline
abbrev pub line_with : List ℕ → ℤ → List ℕ
line_with d e = d ++ 32 ∷ [] ++ signed e ++ 10 ∷ []

pub record ScaledLine (d : List ℕ) (e : ℤ) (s s2 : List ℕ) (end : ℕ) : Type 0 where
  pub size : length s2 ≡ 1288
  pub room : end + 1 < 1288
  pub count : end + 1 ≡ length (line_with d e)
  pub text : set s2 end 10 ≡ written 0 (line_with d e) s

pub scaled_line : (d : List ℕ) (e : ℤ) (s s1 s2 : List ℕ) (end : ℕ) → length d ≡ 16 → length s ≡ 1288 → s1 ≡ written 0 d s
    → s2 ≡ written 17 (signed e) (set s1 16 32) → end ≡ 17 + length (signed e) → ScaledLine d e s s2 end
scaled_line d e s s1 s2 end long room hex tail place =
    let few = signed_few e in
    let z1 : length s1 ≡ 1288 = ap length hex ∙ length_written 0 d s (omega arith) ∙ room in
    let y1 : length (set s1 16 32) ≡ 1288 = length-set s1 16 32 ∙ z1 in
    let z2 : length s2 ≡ 1288 = ap length tail ∙ length_written 17 (signed e) (set s1 16 32) (omega arith) ∙ y1 in
    let a1 = d ++ 32 ∷ [] in
    let a2 = a1 ++ signed e in
    let l1 : length a1 ≡ 17 = length-append d (32 ∷ []) ∙ omega arith in
    let l2 : length a2 ≡ 17 + length (signed e) = length-append a1 (signed e) ∙ omega arith in
    let l3 : length (a2 ++ 10 ∷ []) ≡ 18 + length (signed e) = length-append a2 (10 ∷ []) ∙ omega arith in
    let w1 : set s1 16 32 ≡ written 0 a1 s =
    written_more 0 16 d (32 ∷ []) s s1 _ hex (omega arith) (written_byte 16 32 s1 (omega arith)) (omega arith) in
    let w2 : s2 ≡ written 0 a2 s = written_more 0 17 a1 (signed e) s _ s2 w1 (omega arith) tail (omega arith) in
    record {
      size = z2;
      room = omega arith;
      count = omega arith;
      text = written_more 0 end a2 (10 ∷ []) s s2 _ w2 (omega arith) (written_byte end 10 s2 (omega arith)) (omega arith);
    }

-- ---- through the machine's numbers, of five digits at most
module _ (e : ℤ) (few : mag e < 99999) where
  pub bare_few : nat_abs e < 100000
  bare_few = go e few
    where
      go : (e : ℤ) → mag e < 99999 → nat_abs e < 100000
      go (pos n) h = omega arith
      go (negsuc n) h = omega arith

  pub kept_is : to_z w32 (of_z w32 e) ≡ e
  kept_is = to_z-of_z w32 e (record { sfits = omega (arith, few) })

  -- the code's test of the sign
  pub sign_is : (b : Bool) → lt_z (to_z w32 (of_z w32 e)) (pos 0) ≡ b → lt_z e (pos 0) ≡ b
  sign_is b h = ap (λ (z : ℤ). lt_z z (pos 0)) (sym kept_is) ∙ h

  module _ (below : lt_z (to_z w32 (of_z w32 e)) (pos 0) ≡ true) where
    negated : pos 0 -ℤ to_z w32 (of_z w32 e) ≡ pos (nat_abs e)
    negated = ap (λ (z : ℤ). pos 0 -ℤ z) kept_is ∙ go e (sign_is true below)
      where
        go : (e : ℤ) → lt_z e (pos 0) ≡ true → pos 0 -ℤ e ≡ pos (nat_abs e)
        go (pos n) h = absurd (not_below n h)
        go (negsuc n) h = ap pos (let z : 0 + suc n ≡ suc n = omega arith in z)

    pub negated_held : SFits w32 (pos 0 -ℤ to_z w32 (of_z w32 e))
    negated_held = subst (SFits w32) (sym negated) (record { sfits = omega (arith, bare_few) })

    pub negated_is : to_z w32 (of_z w32 (pos 0 -ℤ to_z w32 (of_z w32 e))) ≡ pos (nat_abs e)
    negated_is = to_z-of_z w32 (pos 0 -ℤ to_z w32 (of_z w32 e)) negated_held ∙ negated

    pub negated_cast : let z = to_z w32 (of_z w32 (pos 0 -ℤ to_z w32 (of_z w32 e))) in T (non_neg z) × Fits w64 (nat_abs z)
    negated_cast = subst (λ (z : ℤ). T (non_neg z) × Fits w64 (nat_abs z)) (sym negated_is) (tt, record { fits = omega (arith, bare_few) })

  pub above_cast : lt_z (to_z w32 (of_z w32 e)) (pos 0) ≡ false → let z = to_z w32 (of_z w32 e) in T (non_neg z) × Fits w64 (nat_abs z)
  above_cast above =
      subst (λ (z : ℤ). T (non_neg z) × Fits w64 (nat_abs z)) (sym kept_is) (go e (sign_is false above), record { fits = omega (arith, bare_few) })
    where
      go : (e : ℤ) → lt_z e (pos 0) ≡ false → T (non_neg e)
      go (pos n) h = tt
      go (negsuc n) h = absurd (true≢false h)
