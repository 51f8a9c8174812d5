-- The pivot search from one greatest row so far to the next. A row above one that is strictly greater cannot equal it, whatever the doubles are, so another row
-- than the pivot has its magnitude exactly when one below it has. Assumes nothing.
use mathlib.Core.Path.{◌≡◌, refl, sym, ap, ◌∙◌}
use mathlib.Core.Logic.{inl, inr}
use mathlib.Core.Bool.{Bool, and-false, true, false, cond, not, ◌&&◌, ◌||◌, or-true, or-false, or_assoc}
use Prim.Native.Nat.{ℕ, zero, suc, ◌+◌, ◌-◌, ◌≤◌, ◌<◌}
use native.Mathlib.Nat.{eq-or-lt_of_le}
use native.Mathlib.Numerals.{add-one}
use native.Mathlib.Omega.{arith}
use borrow.Author.Tests.{eq-eqb, ne_eqb}
use lib.Dec.{eqb}
use lib.ListN.{length, drop, drop_of_length-le}
use lib.Ieee.{Float, nan, lt, eq}
use Rattle.numbers.specs.Numbers.{magnitude, is_zero}
use Rattle.numbers.specs.Column.{Column, entry}
use Rattle.min_max.specs.Pivot.{search_from, pivot_row}
use Rattle.min_max.specs.TossUp.{shared_from, above_from, pivot_of}
use Rattle.numbers.proofs.Choice.{cond_cases}
use Rattle.numbers.proofs.Smaller.{smaller, smaller_self}
use Rattle.numbers.proofs.Equal.{equal, smaller_less, apart, equal_swap, zero_magnitude}
use Rattle.min_max.proofs.TossUp.{shared_next, found_by}
use Rattle.numbers.proofs.Walk.{drop_next}
use Rattle.min_max.proofs.Walk.{search_next, search_end}

-- ---- rows that do not have the magnitude are passed over
shared_past : (v : Float) (p : ℕ) (c : Column) (n k i : ℕ) → k + n ≡ i → i ≤ length c
    → ((j : ℕ) → k ≤ j → j < i → eq (magnitude (entry c j)) v ≡ false) → shared_from v p k (drop k c) ≡ shared_from v p i (drop i c)
shared_past v p c zero k i e h none = let is : k ≡ i = omega (arith, e) in ap (λ (k : ℕ). shared_from v p k (drop k c)) is
shared_past v p c (suc n) k i e h none =
    shared_next v p c k (omega (arith, e)) false (ap (λ (b : Bool). not (eqb k p) && b) (none k (omega arith) (omega (arith, e))) ∙ and-false (not (eqb k p)))
    ∙ shared_past v p c n (k + 1) i (omega (arith, e)) h (λ j lo hi. none j (omega arith) hi)

-- ---- what holds before row i is looked at: t is the greatest magnitude so far, b the first row that has it
pub record Searched (c : Column) (from : ℕ) (t : Float) (b last i : ℕ) : Type 0 where
  pub found : search_from t b i (drop i c) ≡ pivot_row from c
  pub greatest : t ≡ magnitude (entry c b)
  pub shared : (not (eqb last b) || shared_from t b i (drop i c)) ≡ shared_from t b from (drop from c)
  pub above : (j : ℕ) → from ≤ j → j < i → (y : Float) → smaller (entry c b) y ≡ true → equal (entry c j) y ≡ false
  pub begun : from < i
  pub passed : b < i

module _ (c : Column) (from : ℕ) where
  up_to : (P : ℕ → Type 0) (i : ℕ) → ((j : ℕ) → from ≤ j → j < i → P j) → P i → (j : ℕ) → from ≤ j → j < i + 1 → P j
  up_to P i g z j lo hi = elim (eq-or-lt_of_le (let h : j ≤ i = omega arith in h)) [ inl e ↦ rw e z | inr l ↦ g j lo l ]

  -- the pivot row itself is none that shares
  itself : (v : Float) (k : ℕ) → k < length c → shared_from v k k (drop k c) ≡ shared_from v k (k + 1) (drop (k + 1) c)
  itself v k h = shared_next v k c k h false (rw (eq-eqb k k refl))

  pub searched_begin : from < length c → (t : Float) → t ≡ magnitude (entry c from) → Searched c from t from from (from + 1)
  unfolding pivot_row
  searched_begin h t e =
      record {
        found = λ i. search_from (e i) from (add-one from i) (drop (add-one from i) c);
        greatest = e;
        shared = rw (eq-eqb from from refl) (sym (itself t from h));
        above = up_to (λ j. (y : Float) → smaller (entry c from) y ≡ true → equal (entry c j) y ≡ false) from
            (λ j lo hi. absurd (let n : ⊥ = omega arith in n)) (λ y. apart (entry c from) (entry c from) y (smaller_self (entry c from)));
        begun = omega arith;
        passed = omega arith;
      }

  module _ (t : Float) (b last i : ℕ) (s : Searched c from t b last i) (h : i < length c) where
    abbrev v : Float
    v = magnitude (entry c i)

    -- row i is strictly greater: no row above it has its magnitude
    moved : lt t v ≡ true → Searched c from v i i (i + 1)
    moved g =
        let more : smaller (entry c b) (entry c i) ≡ true = rw s.greatest at g in
        let past = s.begun in
        let none = shared_past v i c (i - from) from i (omega arith) (omega arith) (λ j lo hi. s.above j lo hi (entry c i) more) in
        record {
          found = sym (search_next c i h t b true g) ∙ s.found;
          greatest = refl;
          shared = rw (eq-eqb i i refl) (sym (none ∙ itself v i h));
          above = up_to (λ j. (y : Float) → smaller (entry c i) y ≡ true → equal (entry c j) y ≡ false) i
              (λ j lo hi y p. s.above j lo hi y (smaller_less (entry c b) (entry c i) y more p))
              (λ y. apart (entry c i) (entry c i) y (smaller_self (entry c i)));
          begun = omega arith;
          passed = omega arith;
        }

    -- row i is not greater: it shares the magnitude where it equals it
    stayed : (d : Bool) (last' : ℕ) → lt t v ≡ false → eq t v ≡ d → (not (eqb last' b)) ≡ (not (eqb last b) || d) → Searched c from t b last' (i + 1)
    stayed d last' g e n =
        let less : smaller (entry c b) (entry c i) ≡ false = rw s.greatest at g in
        let past = s.begun in
        let passed = s.passed in
        let same : eq v t ≡ d = rw s.greatest (equal_swap (entry c i) (entry c b)) ∙ e in
        let here : (not (eqb i b) && eq v t) ≡ d = rw (ne_eqb i b (λ q. omega arith)) same in
        record {
          found = sym (search_next c i h t b false g) ∙ s.found;
          greatest = s.greatest;
          shared = ap (λ (a : Bool). a || shared_from t b (i + 1) (drop (i + 1) c)) n ∙ or_assoc (not (eqb last b)) d _
              ∙ ap (λ (a : Bool). not (eqb last b) || a) (sym (shared_next t b c i h d here)) ∙ s.shared;
          above = up_to (λ j. (y : Float) → smaller (entry c b) y ≡ true → equal (entry c j) y ≡ false) i s.above
              (λ y. apart (entry c b) (entry c i) y less);
          begun = omega arith;
          passed = omega arith;
        }

    by_tests : (g d : Bool) → lt t v ≡ g → eq t v ≡ d → Searched c from (cond g v t) (cond g i b) (cond (g || d) i last) (i + 1)
    by_tests true d p q = moved p
    by_tests false true p q = let passed = s.passed in stayed true i p q (rw (ne_eqb i b (λ q. omega arith)) (sym (or-true (not (eqb last b)))))
    by_tests false false p q = stayed false last p q (sym (or-false (not (eqb last b))))

  -- Rows that are not above the greatest magnitude leave it, so the search may go on at the next one that is.
  abbrev Next : Float → ℕ → ℕ → Type 0
  Next t b r = ((last : ℕ) × Searched c from t b last r) × (r < length c → lt t (magnitude (entry c r)) ≡ true)

  skip : (t : Float) (b last n k : ℕ) → k + n ≡ length c → Searched c from t b last k → Next t b (above_from t k (drop k c))
  unfolding above_from
  skip t b last zero k e s = rw (drop_of_length-le c {i = k} (omega (arith, e))) ((last, s), λ h. absurd (let no : ⊥ = omega (arith, e) in no))
  skip t b last (suc n) k e s =
      let here : k < length c = omega (arith, e) in
      rw (drop_next c k nan here)
      (cond_cases (Next t b) (lt t (magnitude (entry c k))) (λ z. ((last, s), λ h. z))
      (λ z.
      let d = eq t (magnitude (entry c k)) in
      rw (← add-one k) (skip t b (cond d k last) n (k + 1) (omega (arith, e)) (by_tests t b last k s here false d z refl))))

  -- before the first row: the next one that is greater, and what holds there
  pub searched_next : (t : Float) (b last r : ℕ) → Searched c from t b last (b + 1) → b < length c → r ≡ above_from t (b + 1) (drop (b + 1) c) → Next t b r
  searched_next t b last r s h e = rw e (skip t b last (length c - (b + 1)) (b + 1) (omega arith) s)

  -- that row is the greatest so far
  pub searched_moved : (t : Float) (b r : ℕ) → Next t b r → r < length c → Searched c from (magnitude (entry c r)) r r (r + 1)
  searched_moved t b r s h = moved t b s.0.0 r s.0.1 h (s.1 h)

  -- there is none: the answer
  pub searched_end : (t : Float) (b r : ℕ) → Searched c from t b b (b + 1) → Next t b r → length c ≤ r → (z shared : Bool) → z ≡ is_zero t
      → shared ≡ shared_from t b (b + 1) (drop (b + 1) c)
      → record { row = b; tossed = not z && shared } ≡ pivot_of from c
  searched_end t b r s end h z shared e is =
      found_by from b c (sym (search_end c r t b h) ∙ end.0.1.found) z shared (e ∙ ap is_zero s.greatest ∙ zero_magnitude (entry c b))
      (is ∙ sym (ap (λ (a : Bool). not a || shared_from t b (b + 1) (drop (b + 1) c)) (eq-eqb b b refl)) ∙ s.shared
      ∙ ap (λ (w : Float). shared_from w b from (drop from c)) s.greatest)
