-- The first entry, and the first turn, that fails a test (`first_failing`, `first_turn`). Where a test that fails goes on failing, no turn fails it exactly
-- when the last state passes. Assumes nothing.
use mathlib.Core.Path.{◌≡◌, refl}
use mathlib.Core.Bool.{Bool, true, false}
use mathlib.Core.List.{List, [], ◌∷◌}
use mathlib.Core.Option.{Option, none, some, or_else}
use Prim.Native.Nat.{ℕ, zero, suc, ◌+◌, ◌≤◌, ◌<◌}
use native.Mathlib.Nat.{not-suc-le-zero, le_of_suc-le-suc, add-zero, zero-add}
use native.Mathlib.Omega.{arith}
use lib.ListN.{length, get_or}
use Rattle.numbers.specs.Each.{turns_from}
use Rattle.numbers.specs.First.{first_failing, first_turn, first_some}
use Rattle.numbers.proofs.Choice.{cond_cases}
use Rattle.numbers.proofs.Lasting.{lasting}

-- ---- the first entry
module _ {A : Type 0} (test : A → Bool) (d : A) where
  -- it fails, where there is one, and every entry before it passes
  pub failing_fails : (l : List A) → first_failing test l < length l → test (get_or l (first_failing test l) d) ≡ false
  unfolding first_failing
  failing_fails [] = λ h. absurd (not-suc-le-zero h)
  failing_fails (x ∷ l) =
      cond_cases (λ (k : ℕ). k < suc (length l) → test (get_or (x ∷ l) k d) ≡ false) (test x) (λ t h. failing_fails l (le_of_suc-le-suc h)) (λ t h. t)

  pub failing_before : (l : List A) (k : ℕ) → k < first_failing test l → test (get_or l k d) ≡ true
  unfolding first_failing
  failing_before [] k = λ h. absurd (not-suc-le-zero h)
  failing_before (x ∷ l) zero = cond_cases (λ (n : ℕ). 0 < n → test x ≡ true) (test x) (λ t h. t) (λ t h. absurd (not-suc-le-zero h))
  failing_before (x ∷ l) (suc k) =
      cond_cases (λ (n : ℕ). suc k < n → test (get_or l k d) ≡ true) (test x) (λ t h. failing_before l k (le_of_suc-le-suc h))
      (λ t h. absurd (not-suc-le-zero h))

-- ---- the first answer
pub or_cases : {R : Type 0} (P : Option R → Type 0) (first second : Option R) → (first ≡ none → P second) → ((r : R) → first ≡ some r → P (some r))
    → P (or_else first second)
unfolding or_else
or_cases P none second f g = f refl
or_cases P (some r) second f g = g r refl

module _ {A R : Type 0} (d : A) (P : Option R → Type 0) where
  -- no entry is answered, or entry j is the first that is
  pub some_cases : (f : ℕ → A → Option R) (k : ℕ) (l : List A)
      → (((j : ℕ) → j < length l → f (k + j) (get_or l j d) ≡ none) → P none)
      → ((j : ℕ) (r : R) → j < length l → ((i : ℕ) → i < j → f (k + i) (get_or l i d) ≡ none) → f (k + j) (get_or l j d) ≡ some r → P (some r))
      → P (first_some f k l)
  unfolding first_some
  some_cases f k [] all first = all (λ j h. absurd (not-suc-le-zero h))
  some_cases f k (x ∷ l) all first =
      or_cases P (f k x) (first_some f (suc k) l)
      (λ e. some_cases f (suc k) l (λ h. all (front e (length l) h)) (λ j r q h s. first (suc j) r (omega arith) (front e j h) (rw (shift j) s)))
      (λ r e. first 0 r (omega arith) (λ i h. absurd (not-suc-le-zero h)) (rw (add-zero k) e))
    where
      shift : (j : ℕ) → k + suc j ≡ suc k + j
      shift j = omega arith

      front : f k x ≡ none → (n : ℕ) → ((i : ℕ) → i < n → f (suc k + i) (get_or l i d) ≡ none) → (i : ℕ) → i < suc n → f (k + i) (get_or (x ∷ l) i d) ≡ none
      front e n h zero q = rw (add-zero k) e
      front e n h (suc i) q = rw (shift i) (h i (le_of_suc-le-suc q))

-- ---- turns whose test, once failed, goes on failing
module _ {S : Type 0} (test : S → Bool) (f : ℕ → S → S) (lasts : (i : ℕ) (s : S) → test (f i s) ≡ true → test s ≡ true) where
  pub passed_before : (i c : ℕ) (s : S) → test (turns_from f i c s) ≡ true → test s ≡ true
  unfolding turns_from
  passed_before i zero s h = h
  passed_before i (suc c) s h = lasts i s (passed_before (i + 1) c (f i s) h)

  -- where the last state passes, so does the state after any number of turns up to then
  pub passed_then : (i c n : ℕ) (s : S) → c ≤ n → test (turns_from f i n s) ≡ true → test (turns_from f i c s) ≡ true
  unfolding turns_from
  passed_then i zero n s l h = passed_before i n s h
  passed_then i (suc c) zero s l h = absurd (not-suc-le-zero l)
  passed_then i (suc c) (suc n) s l h = passed_then (i + 1) c n (f i s) (le_of_suc-le-suc l) h

  -- What is told of the first turn that fails, by cases: all turns pass, or turn k is the first that does not.
  module _ {R : Type 0} (told : ℕ → S → R) (else : R) (P : R → Type 0) where
    cases_from : (i c : ℕ) (s : S) → test s ≡ true → (test (turns_from f i c s) ≡ true → P else)
        → ((k : ℕ) → k < c → test (turns_from f i k s) ≡ true → test (f (i + k) (turns_from f i k s)) ≡ false → test (turns_from f i c s) ≡ false → P
        (told (i + k) (f (i + k) (turns_from f i k s))))
        → P (first_turn test told else f i c s)
    unfolding first_turn turns_from
    cases_from i zero s ok all first = all ok
    cases_from i (suc c) s ok all first =
        cond_cases P (test (f i s))
        (λ t. cases_from (i + 1) c (f i s) t all (λ k l. (let e : i + 1 + k ≡ i + suc k = omega arith in rw e (first (suc k) (omega arith)))))
        (λ t. (rw (add-zero i) at (first 0 (omega arith))) ok t
        (lasting (test (f i s)) (test (turns_from f (i + 1) c (f i s))) (passed_before (i + 1) c (f i s)) t))

    pub turn_cases : (c : ℕ) (s : S) → test s ≡ true → (test (turns_from f 0 c s) ≡ true → P else)
        → ((k : ℕ) → k < c → test (turns_from f 0 k s) ≡ true → test (f k (turns_from f 0 k s)) ≡ false → test (turns_from f 0 c s) ≡ false → P
        (told k (f k (turns_from f 0 k s))))
        → P (first_turn test told else f 0 c s)
    turn_cases c s ok all first = cases_from 0 c s ok all (λ k. rw (zero-add k) (first k))
