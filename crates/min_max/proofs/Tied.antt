-- In a finite column the toss-up is what its name says: two different rows at or below have the greatest magnitude, and this is not zero. The rows
-- that share the pivot's magnitude are as great as the pivot, which is the first of the greatest. Assumes nothing.
use mathlib.Core.Path.{◌≡◌, refl, sym, ◌∙◌}
use mathlib.Core.Bool.{true, false, not, ◌&&◌, true≢false, false≢true}
use Prim.Native.Nat.{ℕ, zero, suc, ◌+◌, ◌-◌, ◌≤◌, ◌<◌}
use native.Mathlib.Omega.{arith}
use borrow.Author.Tests.{eqb-true, eqb-false, ne_eqb, not-true}
use lib.Dec.{eqb}
use lib.ListN.{length, drop}
use lib.Ieee.{Float, eq}
use lib.Ieee.Scale.{finite}
use Rattle.numbers.specs.Numbers.{magnitude, is_zero}
use Rattle.numbers.specs.Column.{Column, entry}
use Rattle.min_max.specs.Pivot.{pivot_row}
use Rattle.finite.specs.Finite.{all_finite}
use Rattle.min_max.specs.TossUp.{shared_from, toss_up}
use Rattle.numbers.proofs.Equal.{equal, neither_equal, equal_neither, zero_smaller}
use Rattle.numbers.proofs.Choice.{test_cases, and_first, and_second}
use Rattle.finite.proofs.Finite.{finite_entry}
use Rattle.numbers.proofs.Smaller.{smaller, smaller_trans}
use Rattle.min_max.proofs.Pivot.{First, pivot_first, pivot_from, pivot_to}
use Rattle.min_max.proofs.TossUp.{shared_next, shared_end}

-- ---- the rows that share a magnitude
module _ (v : Float) (p : ℕ) (c : Column) where
  -- row j is another one with the magnitude v
  pub record Shares (k j : ℕ) : Type 0 where
    pub from : k ≤ j
    pub within : j < length c
    pub other : j ≡ p → ⊥
    pub same : eq (magnitude (entry c j)) v ≡ true

  shared_some : (n k : ℕ) → length c - k ≡ n → shared_from v p k (drop k c) ≡ true → (j : ℕ) × Shares k j
  shared_some zero k e t = absurd (false≢true (sym (shared_end v p c k (omega arith)) ∙ t))
  shared_some (suc n) k e t =
      let h : k < length c = omega arith in
      let test = not (eqb k p) && eq (magnitude (entry c k)) v in
      test_cases test
      (λ b. (
        k,
        record {
          from = omega arith;
          within = h;
          other = eqb-false k p (not-true (eqb k p) (and_first (not (eqb k p)) (eq (magnitude (entry c k)) v) b));
          same = and_second (not (eqb k p)) (eq (magnitude (entry c k)) v) b;
        },
      ))
      (λ b.
      let later = shared_some n (k + 1) (omega arith) (sym (shared_next v p c k h false b) ∙ t) in (
        later.0,
        record {
          from = (let up : k + 1 ≤ later.0 = later.1.from in omega arith);
          within = later.1.within;
          other = later.1.other;
          same = later.1.same;
        },
      ))

  shared_one : (n k j : ℕ) → j - k ≡ n → Shares k j → shared_from v p k (drop k c) ≡ true
  shared_one zero k j e s =
      let up = s.from in
      let is : k ≡ j = omega arith in
      let here : (not (eqb k p) && eq (magnitude (entry c k)) v) ≡ true = rw (is, ne_eqb j p s.other, s.same) in
      shared_next v p c k (rw is s.within) true here
  shared_one (suc n) k j e s =
      let up = s.from in
      let last = s.within in
      let test = not (eqb k p) && eq (magnitude (entry c k)) v in
      let later : shared_from v p (k + 1) (drop (k + 1) c) ≡ true =
      shared_one n (k + 1) j (omega arith) (record { from = omega arith; within = last; other = s.other; same = s.same }) in
      test_cases test
      (λ b. shared_next v p c k (omega arith) true b)
      (λ b. shared_next v p c k (omega arith) false b ∙ later)

-- ---- two different rows at or below have the greatest magnitude, and it is not zero
abbrev Greatest : Column → ℕ → ℕ → Type 0
Greatest c from b = (j : ℕ) → from ≤ j → j < length c → smaller (entry c b) (entry c j) ≡ false

pub record TwoGreatest (c : Column) (from : ℕ) : Type 0 where
  pub one : ℕ
  pub other : ℕ
  pub apart : one ≡ other → ⊥
  pub one_within : (from ≤ one) × (one < length c)
  pub other_within : (from ≤ other) × (other < length c)
  pub one_greatest : Greatest c from one
  pub other_greatest : Greatest c from other
  pub not_zero : is_zero (entry c one) ≡ false

module _ (from : ℕ) (c : Column) (f : all_finite c ≡ true) (h : from < length c) where
  abbrev p : ℕ
  p = pivot_row from c

  first : First c from (length c) p
  first = pivot_first from c f h

  low : from ≤ p
  low = pivot_from from c

  high : p < length c
  high = pivot_to from c h

  fine : (j : ℕ) → j < length c → finite (entry c j) ≡ true
  fine j g = finite_entry c j f g

  -- what is as great as the pivot is greatest
  as_great : (k : ℕ) → k < length c → equal (entry c k) (entry c p) ≡ true → Greatest c from k
  as_great k g e j lo hi =
      test_cases (smaller (entry c k) (entry c j))
      (λ t.
      let more = smaller_trans (entry c p) (entry c k) (entry c j) (fine p high) (fine k g) (fine j hi)
      (equal_neither (entry c k) (entry c p) (fine k g) (fine p high) e) t in
      absurd (true≢false (sym more ∙ first.greatest j lo hi)))
      (λ t. t)

  -- and the other way round
  greatest_equal : (k : ℕ) → from ≤ k → k < length c → Greatest c from k → equal (entry c k) (entry c p) ≡ true
  greatest_equal k lo g great = neither_equal (entry c k) (entry c p) (fine k g) (fine p high) (great p low high) (first.greatest k lo g)

  tossed : toss_up from c ≡ true → TwoGreatest c from
  unfolding toss_up
  tossed t =
      let nonzero = not-true (is_zero (entry c p)) (and_first (not (is_zero (entry c p))) _ t) in
      let found = shared_some (magnitude (entry c p)) p c (length c - from) from refl (and_second (not (is_zero (entry c p))) _ t) in
      let k = found.0 in
      let s = found.1 in
      record {
        one = p;
        other = k;
        apart = λ e. s.other (sym e);
        one_within = (low, high);
        other_within = (s.from, s.within);
        one_greatest = first.greatest;
        other_greatest = as_great k s.within s.same;
        not_zero = nonzero;
      }

  two_tossed : TwoGreatest c from → toss_up from c ≡ true
  unfolding toss_up
  two_tossed w =
      let share : (k : ℕ) → (k ≡ p → ⊥) → (from ≤ k) × (k < length c) → Greatest c from k → shared_from (magnitude (entry c p)) p from (drop from c) ≡ true =
      λ k apart within great.
      shared_one (magnitude (entry c p)) p c (k - from) from k refl
      (record { from = within.0; within = within.1; other = apart; same = greatest_equal k within.0 within.1 great }) in
      let shared : shared_from (magnitude (entry c p)) p from (drop from c) ≡ true =
      test_cases (eqb w.one p)
      (λ e. share w.other (λ g. w.apart (eqb-true w.one p e ∙ sym g)) w.other_within w.other_greatest)
      (λ e. share w.one (eqb-false w.one p e) w.one_within w.one_greatest) in
      let some : is_zero (entry c p) ≡ false =
      test_cases (is_zero (entry c p))
      (λ z. absurd (true≢false (sym (zero_smaller (entry c p) (entry c w.one) (fine p high) (fine w.one w.one_within.1) z w.not_zero)
      ∙ first.greatest w.one w.one_within.0 w.one_within.1)))
      (λ z. z) in
      rw (some, shared)

  -- THEOREM. In a finite column the pivot was a toss-up exactly when two different rows at or below have the greatest magnitude and it is not zero.
  pub toss_up_is : (toss_up from c ≡ true → TwoGreatest c from) × (TwoGreatest c from → toss_up from c ≡ true)
  toss_up_is = (tossed, two_tossed)
