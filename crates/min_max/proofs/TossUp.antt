-- The toss-up: one turn of its test and the end, that a pivot of zero is none, and the search's answer put together and taken apart. Assumes nothing.
use mathlib.Core.Path.{◌≡◌, sym, ap, ap₂, ◌∙◌}
use mathlib.Core.Bool.{Bool, true, false, not, and-false, ◌&&◌, ◌||◌}
use Prim.Native.Nat.{ℕ, ◌+◌, ◌≤◌, ◌<◌}
use native.Mathlib.Numerals.{add-one}
use native.Mathlib.Omega.{arith}
use borrow.Author.Tests.{ne_eqb}
use lib.Dec.{eqb}
use lib.ListN.{length, drop, drop_of_length-le}
use lib.Ieee.{Float, nan, eq}
use Rattle.numbers.specs.Numbers.{magnitude, is_zero}
use Rattle.numbers.specs.Column.{Column, entry}
use Rattle.min_max.specs.Pivot.{pivot_row}
use Rattle.min_max.specs.declared.FoundPivot.{FoundPivot}
use Rattle.min_max.specs.TossUp.{shared_from, toss_up, pivot_of}
use Rattle.numbers.proofs.Walk.{drop_next}

-- ---- the test row by row
module _ (v : Float) (p : ℕ) (c : Column) where
  pub shared_next : (k : ℕ) → k < length c → (b : Bool) → (not (eqb k p) && eq (magnitude (entry c k)) v) ≡ b
      → shared_from v p k (drop k c) ≡ (b || shared_from v p (k + 1) (drop (k + 1) c))
  unfolding shared_from
  shared_next k h b e =
      ap (shared_from v p k) (drop_next c k nan h) ∙ (λ i. e i || shared_from v p (sym (add-one k) i) (drop (k + 1) c))

  pub shared_end : (k : ℕ) → length c ≤ k → shared_from v p k (drop k c) ≡ false
  unfolding shared_from
  shared_end k h = ap (shared_from v p k) (drop_of_length-le c h)

-- the same for a row below p
module _ (v : Float) (p : ℕ) (c : Column) (k : ℕ) (h : k < length c) (below : p < k) where
  apart : not (eqb k p) ≡ true
  apart = rw (ne_eqb k p (λ e. omega arith))

  pub shared_here : eq (magnitude (entry c k)) v ≡ true → shared_from v p k (drop k c) ≡ true
  shared_here e = shared_next v p c k h true (rw (apart, e))

  pub shared_not_here : eq (magnitude (entry c k)) v ≡ false → shared_from v p (k + 1) (drop (k + 1) c) ≡ shared_from v p k (drop k c)
  shared_not_here e = sym (shared_next v p c k h false (rw (apart, e)))

-- a pivot of zero, and a column with no row to look at, are no toss-ups
pub zero_toss_up : (from : ℕ) (c : Column) → is_zero (entry c (pivot_row from c)) ≡ true → toss_up from c ≡ false
unfolding toss_up
zero_toss_up from c z = rw z

pub none_toss_up : (from : ℕ) (c : Column) → length c ≤ from → toss_up from c ≡ false
unfolding toss_up
none_toss_up from c h =
    let p = pivot_row from c in
    rw (shared_end (magnitude (entry c p)) p c from h) (and-false (not (is_zero (entry c p))))

-- ---- the answer, from what the code finds
module _ (from row : ℕ) (c : Column) (is : row ≡ pivot_row from c) where
  pub found_none : length c ≤ from → record { row = row; tossed = false } ≡ pivot_of from c
  unfolding pivot_of
  found_none h = λ i. record { row = is i; tossed = sym (none_toss_up from c h) i }

  pub found_by : (zero_there shared : Bool) → zero_there ≡ is_zero (entry c row) → shared ≡ shared_from (magnitude (entry c row)) row from (drop from c)
      → record { row = row; tossed = not zero_there && shared } ≡ pivot_of from c
  unfolding pivot_of toss_up
  found_by zero_there shared z s =
      let test : ℕ → Bool = λ p. not (is_zero (entry c p)) && shared_from (magnitude (entry c p)) p from (drop from c) in
      let same = ap₂ (λ (a b : Bool). not a && b) z s ∙ ap test is in λ i.
      record { row = is i; tossed = same i }

-- ---- the answer's two parts
module _ (from : ℕ) (c : Column) (r : FoundPivot) (is : r ≡ pivot_of from c) where
  pub found_row : r.row ≡ pivot_row from c
  unfolding pivot_of
  found_row = ap (λ (q : FoundPivot). q.row) is

  pub found_tossed : r.tossed ≡ toss_up from c
  unfolding pivot_of
  found_tossed = ap (λ (q : FoundPivot). q.tossed) is
