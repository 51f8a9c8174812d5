-- The least magnitude on a diagonal: each turn as the loop makes it; it is no NaN; and it is the magnitude of one of the diagonal's numbers, none being
-- smaller. By the turns. Assumes nothing.
use mathlib.Core.Path.{◌≡◌, refl, sym, ◌∙◌}
use mathlib.Core.Bool.{true, false, not, false≢true, true≢false}
use Prim.Native.Nat.{ℕ, zero, suc, ◌+◌, ◌≤◌, ◌<◌}
use native.Mathlib.Nat.{eq-or-lt_of_le, le_of_suc-le-suc, not-suc-le-zero, zero-add}
use native.Mathlib.Omega.{arith}
use mathlib.Core.Logic.{inl, inr}
use lib.Dec.{T}
use lib.Ieee.{Float, nan, inf, fin, lt, is_nan, of_bits}
use lib.Ieee.Scale.{finite}
use Rattle.numbers.specs.Each.{turns_from}
use Rattle.numbers.specs.Numbers.{zero64, magnitude}
use Rattle.numbers.specs.Column.{entry}
use Rattle.numbers.proofs.Choice.{test_cases, cond_cases}
use Rattle.numbers.proofs.Each.{turns_last}
use Rattle.numbers.proofs.Smaller.{smaller, smaller_self}
use Rattle.numbers.proofs.Equal.{smaller_less}
use Rattle.numbers.proofs.Lasting.{neg_finite}
use Rattle.store.specs.Steps.{Matrix, column}
use Rattle.bands.specs.Bands.{infinity64, less_at, least_on_diagonal}

-- ---- a turn of the loop, x being the magnitude that it looks at
module _ (cs : Matrix) (i : ℕ) (least x : Float) (is : x ≡ magnitude (entry (column cs i) i)) where
  pub less_taken : lt x least ≡ true → x ≡ less_at cs i least
  unfolding less_at
  less_taken t = rw (← is, t)

  pub less_left : lt x least ≡ false → least ≡ less_at cs i least
  unfolding less_at
  less_left t = rw (← is, t)

-- ---- no NaN is less than anything
less_number : (x y : Float) → lt x y ≡ true → T (not (is_nan x))
unfolding lt is_nan
less_number nan y e = absurd (false≢true e)
less_number (inf s) y e = tt
less_number (fin s m e) y d = tt

turns_number : (cs : Matrix) (i c : ℕ) (least : Float) → T (not (is_nan least)) → T (not (is_nan (turns_from (less_at cs) i c least)))
unfolding turns_from less_at
turns_number cs i zero least h = h
turns_number cs i (suc c) least h =
    turns_number cs (i + 1) c _
    (cond_cases (λ (x : Float). T (not (is_nan x))) (lt (magnitude (entry (column cs i) i)) least) (λ e. less_number _ least e) (λ e. h))

pub least_number : (n : ℕ) (cs : Matrix) → T (not (is_nan (least_on_diagonal n cs)))
unfolding least_on_diagonal is_nan of_bits
least_number n cs = turns_number cs 0 n infinity64 tt

-- ---- THEOREM. Of a diagonal that begins with a finite number the least is the magnitude of one of its numbers, and no number of it is smaller.

-- number i of the diagonal
abbrev pub diagonal_at : Matrix → ℕ → Float
diagonal_at cs i = entry (column cs i) i

-- of the first k numbers, that at `place` is of magnitude `least`, and none is smaller
pub record Least (cs : Matrix) (k : ℕ) (least : Float) : Type 0 where
  pub place : ℕ
  pub here : place < k
  pub is : least ≡ magnitude (diagonal_at cs place)
  pub none_smaller : (i : ℕ) → i < k → smaller (diagonal_at cs i) (diagonal_at cs place) ≡ false

pub finite_magnitude : (x : Float) → finite x ≡ true → finite (magnitude x) ≡ true
unfolding magnitude
finite_magnitude x f = cond_cases (λ (y : Float). finite y ≡ true) (lt x zero64) (λ t. neg_finite x ∙ f) (λ t. f)

below_infinity : (x : Float) → finite x ≡ true → lt x infinity64 ≡ true
unfolding lt of_bits
below_infinity nan f = absurd (false≢true f)
below_infinity (inf s) f = absurd (false≢true f)
below_infinity (fin s m e) f = refl

module _ (cs : Matrix) (first : finite (diagonal_at cs 0) ≡ true) where
  begins : Least cs 1 (less_at cs 0 infinity64)
  begins =
      let d = below_infinity _ (finite_magnitude (diagonal_at cs 0) first) in
      record {
        place = 0;
        here = omega arith;
        is = sym (less_taken cs 0 infinity64 _ refl d);
        none_smaller = λ i h. (let z : i ≡ 0 = omega arith in rw z (smaller_self (diagonal_at cs 0)));
      }

  below_suc : (P : ℕ → Type 0) (k : ℕ) → ((i : ℕ) → i < k → P i) → P k → (i : ℕ) → i < suc k → P i
  below_suc P k g z i h = elim (eq-or-lt_of_le (le_of_suc-le-suc h)) [ inl e ↦ rw e z | inr l ↦ g i l ]

  goes_on : (k : ℕ) (least : Float) → Least cs k least → Least cs (suc k) (less_at cs k least)
  goes_on k least l =
      let x = diagonal_at cs k in
      let p = diagonal_at cs l.place in
      test_cases (lt (magnitude x) least)
      (λ t.
      let less : smaller x p ≡ true = rw l.is at t in
      record {
        place = k;
        here = omega arith;
        is = sym (less_taken cs k least _ refl t);
        none_smaller = below_suc (λ i. smaller (diagonal_at cs i) x ≡ false) k
            (λ i h. test_cases (smaller (diagonal_at cs i) x)
            (λ s. absurd (true≢false (sym (smaller_less (diagonal_at cs i) x p s less) ∙ l.none_smaller i h))) (λ s. s))
            (smaller_self x);
      })
      (λ t.
      record {
        place = l.place;
        here = let h = l.here in omega arith;
        is = sym (less_left cs k least _ refl t) ∙ l.is;
        none_smaller = below_suc (λ i. smaller (diagonal_at cs i) p ≡ false) k l.none_smaller (rw l.is at t);
      })

  turns_least : (k : ℕ) → Least cs (suc k) (turns_from (less_at cs) 0 (suc k) infinity64)
  unfolding turns_from
  turns_least zero = begins
  turns_least (suc k) = rw (turns_last (less_at cs) 0 (suc k) infinity64, zero-add (suc k)) (goes_on (suc k) _ (turns_least k))

  pub least_is : (n : ℕ) → 1 ≤ n → Least cs n (least_on_diagonal n cs)
  unfolding least_on_diagonal
  least_is zero h = absurd (not-suc-le-zero h)
  least_is (suc n) h = turns_least n
