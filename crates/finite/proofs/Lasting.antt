-- A column that holds a number that is not finite goes on holding one. Each law is said the other way round: where the changed column is finite, so
-- was the old one. Row by row. Assumes nothing.
use mathlib.Core.Path.{◌≡◌, refl}
use mathlib.Core.Bool.{true}
use mathlib.Core.List.{[], ◌∷◌}
use Prim.Native.Nat.{ℕ, zero, suc, ◌<◌}
use borrow.Author.Tests.{eqb-true, eqb-false}
use lib.Dec.{eqb}
use lib.ListN.{length, set, length-set}
use lib.Seq.{get_or-set_same, get_or-set_other}
use lib.Ieee.{Float, nan, binary64, mul}
use lib.Ieee.Scale.{finite}
use Rattle.numbers.specs.Each.{each_from}
use Rattle.numbers.specs.Column.{Column, entry}
use Rattle.numbers.proofs.Choice.{test_cases, cond_cases, and_first, and_second, and_both}
use Rattle.numbers.proofs.Lasting.{sum_finite, product_finite}
use Rattle.blas.specs.Blas.{scale_from, axpy_from}
use Rattle.finite.specs.Finite.{all_finite}
use Rattle.finite.proofs.Finite.{finite_entry, entries_finite}

-- ---- a column of which some entries were changed, each in a way that lasts
pub each_finite : (f : ℕ → Float → Float) → ((k : ℕ) (x : Float) → finite (f k x) ≡ true → finite x ≡ true)
    → (k : ℕ) (c : Column) → all_finite (each_from f k c) ≡ true → all_finite c ≡ true
unfolding each_from all_finite
each_finite f lasts k [] h = refl
each_finite f lasts zero (x ∷ c) h =
    and_both (finite x) (all_finite c) (lasts 0 x (and_first (finite (f 0 x)) (all_finite (each_from (λ i. f (suc i)) 0 c)) h))
    (each_finite (λ i. f (suc i)) (λ i. lasts (suc i)) 0 c (and_second (finite (f 0 x)) (all_finite (each_from (λ i. f (suc i)) 0 c)) h))
each_finite f lasts (suc k) (x ∷ c) h =
    and_both (finite x) (all_finite c) (and_first (finite x) (all_finite (each_from (λ i. f (suc i)) k c)) h)
    (each_finite (λ i. f (suc i)) (λ i. lasts (suc i)) k c (and_second (finite x) (all_finite (each_from (λ i. f (suc i)) k c)) h))

pub scale_finite : (from : ℕ) (r : Float) (c : Column) → all_finite (scale_from from r c) ≡ true → all_finite c ≡ true
unfolding scale_from
scale_finite from r c = each_finite _ (λ k x h. (product_finite x r h).0) from c

pub axpy_finite : (from : ℕ) (a : Float) (x y : Column) → all_finite (axpy_from from a x y) ≡ true → all_finite y ≡ true
unfolding axpy_from
axpy_finite from a x y =
    cond_cases (λ (z : Column). all_finite z ≡ true → all_finite y ≡ true) (eqb (length x) (length y))
    (λ t. each_finite _ (λ k v h. (sum_finite (mul binary64 a (entry x k)) v h).1) from y) (λ t h. h)

-- one entry stored, whose being finite tells that the old one was
pub set_finite : (c : Column) (i : ℕ) (x : Float) → (finite x ≡ true → finite (entry c i) ≡ true) → all_finite (set c i x) ≡ true → all_finite c ≡ true
set_finite c i x tells h = entries_finite c λ k hk.
    let done = finite_entry (set c i x) k h (rw length-set hk) in
    test_cases (eqb k i)
    (λ t.
    let same = eqb-true k i t in
    let hi : i < length c = rw same at hk in
    rw same (tells (rw (same, get_or-set_same c i x nan hi) at done)))
    (λ t. rw (get_or-set_other c i k x nan (eqb-false k i t)) at done)
