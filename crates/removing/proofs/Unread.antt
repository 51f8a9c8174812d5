-- Removing does not read what follows the last pair: two swap stores that agree on their pairs give the same answer and factors, and agree on the pairs
-- of the new record; what followed the old ones stays as it was. By the two ends of the call. Assumes nothing.
use mathlib.Core.Path.{◌≡◌, refl, sym, ◌∙◌}
use mathlib.Core.Bool.{true}
use mathlib.Core.List.{List}
use Prim.Native.Nat.{ℕ, ◌+◌, ◌-◌, ◌*◌, ◌≤◌, ◌<◌}
use native.Mathlib.Omega.{arith}
use borrow.Author.Tests.{ltb-true}
use lib.Dec.{ltb, eqb}
use lib.ListN.{length, get_or, set}
use lib.Seq.{get_or-set_other, length-take-le}
use Rattle.numbers.specs.Column.{Column}
use Rattle.numbers.proofs.Choice.{cond_cases, cond_both, and_first}
use Rattle.refusals.specs.Outcome.{tested, leaving}
use Rattle.refusals.proofs.Outcomes.{tested_cases}
use Rattle.swap_list.specs.SwapList.{Swaps, pairs_of, with_pair}
use Rattle.swap_list.proofs.SwapList.{length_pairs, length_with}
use Rattle.factors.specs.declared.Record.{Record}
use Rattle.factors.specs.Factors.{Factors, factors_in, slices, record_after}
use Rattle.factors.proofs.Unread.{SamePairs, swaps_unread, held_unread}
use Rattle.elimination.specs.Removing.{last_pair, undoes, pairs_before, remove_column}
use Rattle.adding.proofs.Unread.{Unread}
use Rattle.removing.specs.Removing.{good_undoing, removing_asks, removing_refusal, erased, removing_made, removing}

-- a pair written over another changes nothing elsewhere
with_other : (pairs i j : ℕ) (store : List ℕ) (k : ℕ) → (k ≡ 2 * pairs → ⊥) → (k ≡ 2 * pairs + 1 → ⊥) → get_or (with_pair pairs i j store) k 0
    ≡ get_or store k 0
unfolding with_pair
with_other pairs i j store k first second =
    get_or-set_other (set store (2 * pairs) i) (2 * pairs + 1) k j 0 second ∙ get_or-set_other store (2 * pairs) k i 0 first

-- where a pair is undone, there is one
some_undone : (n : ℕ) (swaps : Swaps) → undoes n swaps ≡ true → 0 < length swaps
unfolding undoes
some_undone n swaps t = ltb-true 0 (length swaps) (and_first (ltb 0 (length swaps)) (eqb (last_pair swaps).0 n) t)

-- the pairs that remain lie before the pair that is erased
erased_before : (n : ℕ) (swaps : Swaps) (store : List ℕ) (k : ℕ) → k < 2 * length (pairs_before n swaps) → get_or (erased n swaps store) k 0 ≡ get_or store k 0
unfolding erased pairs_before
erased_before n swaps store k =
    cond_both (λ (left : Swaps) (s : List ℕ). k < 2 * length left → get_or s k 0 ≡ get_or store k 0) (undoes n swaps)
    (λ t h.
    let left = length-take-le (length swaps - 1) swaps (omega arith) in
    with_other (length swaps - 1) 0 0 store k (λ e. omega arith) (λ e. omega arith))
    (λ t h. refl)

-- what followed the pairs
erased_behind : (n : ℕ) (swaps : Swaps) (store : List ℕ) (k : ℕ) → 2 * length swaps ≤ k → get_or (erased n swaps store) k 0 ≡ get_or store k 0
unfolding erased
erased_behind n swaps store k h =
    cond_cases (λ (s : List ℕ). get_or s k 0 ≡ get_or store k 0) (undoes n swaps)
    (λ t. let some = some_undone n swaps t in with_other (length swaps - 1) 0 0 store k (λ e. omega arith) (λ e. omega arith))
    (λ t. refl)

length_erased : (n : ℕ) (swaps : Swaps) (store : List ℕ) → length (erased n swaps store) ≡ length store
unfolding erased
length_erased n swaps store =
    cond_cases (λ (s : List ℕ). length s ≡ length store) (undoes n swaps) (λ t. length_with (length swaps - 1) 0 0 store) (λ t. refl)

few_before : (n : ℕ) (swaps : Swaps) → length (pairs_before n swaps) ≤ length swaps
unfolding pairs_before
few_before n swaps =
    cond_cases (λ (s : Swaps). length s ≤ length swaps) (undoes n swaps)
    (λ t. omega (arith, length-take-le (length swaps - 1) swaps (omega arith))) (λ t. omega arith)

module _ (r : Record) (s : Column) (a b : List ℕ) (alike : SamePairs r.pairs a b) where
  abbrev n : ℕ
  n = r.columns - 1

  abbrev f : Factors
  f = factors_in s r.rows r.columns b r.pairs

  refusal_unread : removing_refusal s a r ≡ removing_refusal s b r
  unfolding removing_refusal
  refusal_unread =
      rw (swaps_unread r a b alike) (held_unread r a b alike s (removing_asks r (good_undoing r.rows n (pairs_of r.pairs b))))

  made_unread : Unread r (removing_made a r f) (removing_made b r f)
  unfolding removing_made record_after remove_column
  made_unread =
      let swaps = f.swaps in
      let count = length_pairs r.pairs b in
      let few = few_before n swaps in
      record {
        answer = refl;
        factors = refl;
        pairs = record {
          long = length_erased n swaps a ∙ alike.long ∙ sym (length_erased n swaps b);
          same = λ k h. erased_before n swaps a k h ∙ alike.same k (omega arith) ∙ sym (erased_before n swaps b k h);
        };
      }

  -- THEOREM. Two swap stores that agree on their pairs give the same answer and the same factors, and agree on the pairs of the record that is left.
  pub removing_unread : Unread r (removing s a r) (removing s b r)
  unfolding removing tested record_after
  removing_unread =
      rw (refusal_unread, swaps_unread r a b alike)
      (cond_both (Unread r) (eqb (removing_refusal s b r) 0)
      (λ t. made_unread) (λ t. record { answer = refl; factors = refl; pairs = alike }))

-- THEOREM. What followed the pairs of the record stays as it was.
pub removing_behind : (r : Record) (s : Column) (store : List ℕ) (k : ℕ) → 2 * r.pairs ≤ k → get_or (removing s store r).left.store k 0 ≡ get_or store k 0
unfolding removing removing_made
removing_behind r s store k h =
    let swaps = pairs_of r.pairs store in
    tested_cases (removing_refusal s store r) (leaving (slices s store)) (removing_made store r (factors_in s r.rows r.columns store r.pairs))
    (λ o. get_or o.left.store k 0 ≡ get_or store k 0)
    (λ e. let count = length_pairs r.pairs store in erased_behind (r.columns - 1) swaps store k (omega arith)) (λ e. refl)
