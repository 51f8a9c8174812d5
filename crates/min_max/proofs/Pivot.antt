-- The pivot row: where it lies, that a row the search moved to is not zero, and that in a finite column it is the first row of greatest magnitude.
-- A search is one step for each row (`pivot_rule`). Assumes nothing.
use Prim.Native.Nat.{ℕ, zero, suc, ◌+◌, ◌-◌, ◌≤◌, ◌<◌}
use native.Mathlib.Nat.{eq-or-lt_of_le, le_of_suc-le-suc, add-zero}
use native.Mathlib.Omega.{arith}
use mathlib.Core.Logic.{◌⊎◌, inl, inr}
use mathlib.Core.Path.{◌≡◌, refl, sym, ◌∙◌}
use mathlib.Core.Bool.{true, false, true≢false}
use lib.ListN.{length, drop, drop_of_length-le}
use lib.Seq.{drop-cons}
use lib.Ieee.{nan}
use Rattle.numbers.specs.Numbers.{magnitude, is_zero}
use Rattle.numbers.specs.Column.{Column, entry}
use Rattle.min_max.specs.Pivot.{search_from, pivot_row}
use Rattle.finite.specs.Finite.{all_finite}
use Rattle.numbers.proofs.Choice.{cond_both}
use Rattle.finite.proofs.Finite.{finite_entry}
use Rattle.numbers.proofs.Smaller.{smaller, smaller_nonzero, smaller_trans, smaller_asym, smaller_self}

-- ---- The search, row by row: what holds of row `from` alone, and still holds whether the search moves to the next row or stays, holds of the pivot row.
-- R k b is said of row b, found among the rows from `from` to k - 1.
module _ (from : ℕ) (c : Column) (R : ℕ → ℕ → Type 0)
    (moves : (k b : ℕ) → from ≤ b → b < k → k < length c → smaller (entry c b) (entry c k) ≡ true → R k b → R (suc k) k)
    (stays : (k b : ℕ) → from ≤ b → b < k → k < length c → smaller (entry c b) (entry c k) ≡ false → R k b → R (suc k) b) where
  searched : (n k b : ℕ) → length c - k ≡ n → from ≤ b → b < k → R k b → R (k + n) (search_from (magnitude (entry c b)) b k (drop k c))
  unfolding search_from
  searched zero k b e lo hi r = let h : length c ≤ k = omega arith in rw (add-zero k, drop_of_length-le c h) r
  searched (suc n) k b e lo hi r =
      let h : k < length c = omega arith in
      let s : k + suc n ≡ suc k + n = omega arith in
      rw (drop-cons c k nan h, s)
      (cond_both (λ t x. R (suc k + n) (search_from t x (suc k) (drop (suc k) c))) (smaller (entry c b) (entry c k))
      (λ g. searched n (suc k) k (omega arith) (omega arith) (omega arith) (moves k b lo hi h g r))
      (λ g. searched n (suc k) b (omega arith) lo (omega arith) (stays k b lo hi h g r)))

  pub pivot_rule : R (suc from) from → R (suc from + (length c - suc from)) (pivot_row from c)
  unfolding pivot_row
  pivot_rule r = searched (length c - suc from) (suc from) from refl (omega arith) (omega arith) r

-- ---- where the pivot row lies
module _ (from : ℕ) (c : Column) where
  range : (from ≤ pivot_row from c) × (pivot_row from c < suc from + (length c - suc from))
  range =
      pivot_rule from c (λ k b. (from ≤ b) × (b < k)) (λ k b lo hi h g r. (omega arith, omega arith)) (λ k b lo hi h g r. (lo, omega arith))
      (omega arith, omega arith)

  pub pivot_from : from ≤ pivot_row from c
  pivot_from = range.0

  pub pivot_to : from < length c → pivot_row from c < length c
  pivot_to h = let r = range.1 in omega arith

  -- the search stayed, or it moved to a row that is not zero
  stayed_or_nonzero : (pivot_row from c ≡ from) ⊎ (is_zero (entry c (pivot_row from c)) ≡ false)
  stayed_or_nonzero =
      pivot_rule from c (λ k b. (b ≡ from) ⊎ (is_zero (entry c b) ≡ false)) (λ k b lo hi h g r. inr (smaller_nonzero (entry c b) (entry c k) g))
      (λ k b lo hi h g r. r) (inl refl)

  pub pivot_moved_nonzero : (pivot_row from c ≡ from → ⊥) → is_zero (entry c (pivot_row from c)) ≡ false
  pivot_moved_nonzero n = elim stayed_or_nonzero [ inl e ↦ absurd (n e) | inr f ↦ f ]

  pub pivot_zero : is_zero (entry c (pivot_row from c)) ≡ true → is_zero (entry c from) ≡ true
  pivot_zero z = elim stayed_or_nonzero [ inl e ↦ rw e at z | inr f ↦ absurd (true≢false (sym z ∙ f)) ]

-- ---- of the rows from `from` to k - 1, row b is the first of greatest magnitude
pub record First (c : Column) (from k b : ℕ) : Type 0 where
  pub greatest : (j : ℕ) → from ≤ j → j < k → smaller (entry c b) (entry c j) ≡ false
  pub before : (j : ℕ) → from ≤ j → j < b → smaller (entry c j) (entry c b) ≡ true

pub pivot_first : (from : ℕ) (c : Column) → all_finite c ≡ true → from < length c → First c from (length c) (pivot_row from c)
pivot_first from c f h =
    let e : suc from + (length c - suc from) ≡ length c = omega arith in
    rw e at (pivot_rule from c (First c from) moves stays
    (record {
      greatest = λ j p q. (let s : from ≡ j = omega arith in rw (← s) (smaller_self (entry c from)));
      before = λ j p q. absurd (let n : ⊥ = omega arith in n);
    }))
  where
    below_suc : (P : ℕ → Type 0) (k : ℕ) → ((j : ℕ) → from ≤ j → j < k → P j) → P k → (j : ℕ) → from ≤ j → j < suc k → P j
    below_suc P k g z j p q = elim (eq-or-lt_of_le (le_of_suc-le-suc q)) [ inl e ↦ rw e z | inr l ↦ g j p l ]

    moves : (k b : ℕ) → from ≤ b → b < k → k < length c → smaller (entry c b) (entry c k) ≡ true → First c from k b → First c from (suc k) k
    moves k b lo hi kc g r =
        let less : (j : ℕ) → from ≤ j → j < k → smaller (entry c j) (entry c k) ≡ true =
        λ j p q. smaller_trans (entry c j) (entry c b) (entry c k) (finite_entry c j f (omega arith)) (finite_entry c b f (omega arith))
        (finite_entry c k f kc) (r.greatest j p q) g in
        record {
          greatest = below_suc (λ j. smaller (entry c k) (entry c j) ≡ false) k (λ j p q. smaller_asym (entry c j) (entry c k) (less j p q))
              (smaller_self (entry c k));
          before = less;
        }

    stays : (k b : ℕ) → from ≤ b → b < k → k < length c → smaller (entry c b) (entry c k) ≡ false → First c from k b → First c from (suc k) b
    stays k b lo hi kc g r = record { greatest = below_suc (λ j. smaller (entry c b) (entry c j) ≡ false) k r.greatest g; before = r.before }
