-- The first result that is not finite: of lists one behind the other, of a column's numbers, and of what the entries of a list store in turn. By induction on
-- the lists. Assumes nothing.
use mathlib.Core.Path.{◌≡◌, refl, sym, ap, ◌∙◌}
use mathlib.Core.Bool.{true, false, true≢false}
use mathlib.Core.List.{List, [], ◌∷◌, ◌++◌}
use mathlib.Core.Option.{none, some, or_else}
use Prim.Native.Nat.{ℕ, zero, suc, ◌+◌, ◌≤◌, ◌<◌}
use native.Mathlib.Nat.{le_of_suc-le-suc, not-suc-le-zero, add-zero}
use native.Mathlib.Omega.{arith}
use lib.ListN.{length, get_or}
use lib.Ieee.{nan}
use lib.Ieee.Scale.{finite}
use Rattle.numbers.specs.First.{first_failing}
use Rattle.numbers.specs.Column.{Column, entry}
use Rattle.numbers.proofs.Choice.{test_cases}
use Rattle.numbers.proofs.First.{failing_before, failing_fails}
use Rattle.finite.specs.Finite.{all_finite}
use Rattle.finite.proofs.Finite.{finite_entry, entries_finite}
use Rattle.why.specs.Results.{Result, first_overflow, rows_from, in_turn}

module _ {Place : Type 0} where
  pub first_append : (xs ys : List (Result Place)) → first_overflow (xs ++ ys) ≡ or_else (first_overflow xs) (first_overflow ys)
  unfolding first_overflow or_else
  first_append [] ys = refl
  first_append (x ∷ xs) ys = test_cases (finite x.value) (λ t. rw t (first_append xs ys)) (λ t. rw t)

  -- ---- THEOREM. The named result is not finite, and every result before it is.
  pub record First (results : List (Result Place)) (p : Place) : Type 0 where
    pub before : List (Result Place)
    pub named : Result Place
    pub behind : List (Result Place)
    pub is : results ≡ before ++ named ∷ behind
    pub there : named.place ≡ p
    pub fails : finite named.value ≡ false
    pub fine : first_overflow before ≡ none

  pub first_named : (xs : List (Result Place)) (p : Place) → first_overflow xs ≡ some p → First xs p
  unfolding first_overflow
  first_named [] p e = absurd (let z : ◌≡◌ {A = ℕ} 0 1 = cc in omega arith)
  first_named (x ∷ xs) p e =
      test_cases (finite x.value)
      (λ t.
      let rest = first_named xs p (rw t at e) in
      record {
        before = x ∷ rest.before;
        named = rest.named;
        behind = rest.behind;
        is = ap (λ (l : List (Result Place)). x ∷ l) rest.is;
        there = rest.there;
        fails = rest.fails;
        fine = rw t rest.fine;
      })
      (λ t.
      let same : some x.place ≡ some p = rw t at e in
      record { before = []; named = x; behind = xs; is = refl; there = cc; fails = t; fine = refl })

  -- ---- a column's numbers
  pub rows_none : (at : ℕ → Place) (r : ℕ) (c : Column) → ((k : ℕ) → k < length c → finite (entry c k) ≡ true) → first_overflow (rows_from at r c) ≡ none
  unfolding first_overflow rows_from
  rows_none at r [] h = refl
  rows_none at r (v ∷ c) h = rw (h 0 (omega arith)) (rows_none at (suc r) c (λ k q. h (suc k) (omega arith)))

  pub rows_first : (at : ℕ → Place) (r : ℕ) (c : Column) (k : ℕ) → k < length c → finite (entry c k) ≡ false → ((q : ℕ) → q < k → finite (entry c q) ≡ true)
      → first_overflow (rows_from at r c) ≡ some (at (r + k))
  unfolding first_overflow rows_from
  rows_first at r [] k h bad fine = absurd (not-suc-le-zero h)
  rows_first at r (v ∷ c) zero h bad fine = rw (bad, add-zero r)
  rows_first at r (v ∷ c) (suc k) h bad fine =
      let shift : suc r + k ≡ r + suc k = omega arith in
      rw (fine 0 (omega arith))
      (rows_first at (suc r) c k (le_of_suc-le-suc h) bad (λ q l. fine (suc q) (omega arith)) ∙ ap (λ (j : ℕ). some (at j)) shift)

  -- ---- in turn
  module _ {A : Type 0} (f : ℕ → A → List (Result Place)) (d : A) where
    pub turn_none : (k : ℕ) (l : List A) → ((q : ℕ) → q < length l → first_overflow (f (k + q) (get_or l q d)) ≡ none) → first_overflow (in_turn f k l) ≡ none
    unfolding in_turn first_overflow or_else
    turn_none k [] h = refl
    turn_none k (x ∷ l) h =
        let shift : (q : ℕ) → suc k + q ≡ k + suc q = λ q. omega arith in
        first_append (f k x) (in_turn f (suc k) l)
        ∙ rw (rw (add-zero k) at (h 0 (omega arith))) (turn_none (suc k) l (λ q u. rw (shift q) (h (suc q) (omega arith))))

    pub turn_first : (k : ℕ) (l : List A) (j : ℕ) (p : Place) → j < length l → ((q : ℕ) → q < j → first_overflow (f (k + q) (get_or l q d)) ≡ none)
        → first_overflow (f (k + j) (get_or l j d)) ≡ some p → first_overflow (in_turn f k l) ≡ some p
    unfolding in_turn or_else
    turn_first k [] j p h fine bad = absurd (not-suc-le-zero h)
    turn_first k (x ∷ l) zero p h fine bad = first_append (f k x) (in_turn f (suc k) l) ∙ rw (rw (add-zero k) at bad)
    turn_first k (x ∷ l) (suc j) p h fine bad =
        let shift : (q : ℕ) → suc k + q ≡ k + suc q = λ q. omega arith in
        first_append (f k x) (in_turn f (suc k) l)
        ∙ rw (rw (add-zero k) at (fine 0 (omega arith)))
        (turn_first (suc k) l j p (le_of_suc-le-suc h) (λ q u. rw (shift q) (fine (suc q) (omega arith))) (rw (shift j) bad))

-- a column is finite exactly where the place of the first number that is not is its length
pub failing_all : (s : Column) → length s ≤ first_failing finite s → all_finite s ≡ true
failing_all s h = entries_finite s (λ k q. failing_before finite nan s k (omega arith))

pub failing_some : (s : Column) → first_failing finite s < length s → all_finite s ≡ false
failing_some s h =
    test_cases (all_finite s)
    (λ t. absurd (true≢false (sym (finite_entry s (first_failing finite s) t h) ∙ failing_fails finite nan s h))) (λ t. t)
