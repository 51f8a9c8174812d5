-- The swaps that factoring records: pairs (i, p) with i < p < m and i rising, at most one a step, so that they pass refusal 4. By the steps.
-- Assumes nothing.
use mathlib.Core.Path.{◌≡◌, refl}
use mathlib.Core.Bool.{true}
use mathlib.Core.List.{[], ◌∷◌, ◌++◌}
use Prim.Native.Nat.{ℕ, zero, suc, ◌≤◌, ◌<◌, min}
use native.Mathlib.Omega.{arith}
use borrow.Author.Tests.{eqb-false, ne_eqb, lt-ltb}
use lib.Dec.{eqb}
use lib.ListN.{length, length-append}
use Rattle.numbers.specs.Each.{turns_from}
use Rattle.numbers.proofs.Choice.{cond_cases}
use Rattle.min_max.proofs.Pivot.{pivot_from, pivot_to}
use Rattle.store.specs.Columns.{HasRows}
use Rattle.store.specs.Steps.{Matrix, column}
use Rattle.swap_list.specs.SwapList.{Swaps, good_pair, good_pairs, good_list}
use Rattle.swap_list.proofs.SwapList.{goods_snoc, is_good}
use Rattle.factors.specs.Factors.{Factors, record_swap, store_of}
use Rattle.elimination.specs.Elimination.{pivot_step, step, unfactored, eliminate}
use Rattle.elimination.proofs.Step.{pivot_at, step_cases, steps, steps_next, length_steps, rows_steps}
use Rattle.factors.proofs.Swaps.{length_store, pairs_store}

-- the pairs of the first k steps: a step records none, or (k, p) with k < p < m
pub data Rising (m : ℕ) : ℕ → Swaps → Type 0 where
  no_steps : Rising m 0 []
  none_more : {k : ℕ} {swaps : Swaps} → Rising m k swaps → Rising m (suc k) swaps
  one_more : {k : ℕ} {swaps : Swaps} (p : ℕ) → k < p → p < m → Rising m k swaps → Rising m (suc k) (swaps ++ (k, p) ∷ [])

pub step_rising : (m k : ℕ) (f : Factors) → HasRows m f.columns → k < m → k < length f.columns → Rising m k f.swaps
    → Rising m (suc k) (step k f).swaps
unfolding pivot_step record_swap
step_rising m k f rows km kn r =
    step_cases k f (λ g. Rising m (suc k) g.swaps) (λ e. none_more r) λ e.
    let x = column f.columns k in
    let lx : length x ≡ m = rows k kn in
    let from : k ≤ pivot_at k f = pivot_from k x in
    let to : pivot_at k f < length x = pivot_to k x (rw lx km) in
    cond_cases (λ (s : Swaps). Rising m (suc k) s) (eqb (pivot_at k f) k) (λ d. none_more r)
    (λ d. let ne : pivot_at k f ≡ k → ⊥ = eqb-false _ _ d in one_more (pivot_at k f) (omega arith) (omega arith) r)

module _ (m : ℕ) (a : Matrix) (rows : HasRows m a) where
  steps_rising : (k : ℕ) → k ≤ m → k ≤ length a → Rising m k (steps k (unfactored a)).swaps
  unfolding turns_from
  steps_rising zero km kn = no_steps
  steps_rising (suc k) km kn =
      let f = steps k (unfactored a) in
      rw (steps_next k (unfactored a))
      (step_rising m k f (rows_steps m k (unfactored a) rows) km (rw (length_steps k (unfactored a)) kn) (steps_rising k (omega arith) (omega arith)))

  -- THEOREM. The recorded pairs are (i, p) with i < p < m, i rising below min(m, n).
  pub eliminate_rising : Rising m (min m (length a)) (eliminate m a).swaps
  unfolding eliminate
  eliminate_rising = steps_rising (min m (length a)) (omega arith) (omega arith)

-- ---- so the list passes the test of refusal 4
rising_pairs : (m k : ℕ) (swaps : Swaps) → Rising m k swaps → good_pairs m swaps ≡ true
unfolding good_pairs good_pair
rising_pairs m k swaps no_steps = refl
rising_pairs m k swaps (none_more {k = j} r) = rising_pairs m j swaps r
rising_pairs m k swaps (one_more {k = j} {swaps = t} p lo hi r) =
    goods_snoc m t (j, p) (rising_pairs m j t r) (rw (ne_eqb j p (λ e. omega arith), lt-ltb j m (omega arith), lt-ltb p m hi))

pub rising_few : (m k : ℕ) (swaps : Swaps) → Rising m k swaps → length swaps ≤ k
rising_few m k swaps no_steps = omega arith
rising_few m k swaps (none_more {k = j} r) = let h = rising_few m j swaps r in omega arith
rising_few m k swaps (one_more {k = j} {swaps = t} p lo hi r) = let h = rising_few m j t r in omega (arith, length-append t ((j, p) ∷ []))

pub rising_good : (m k : ℕ) (swaps : Swaps) → k ≤ 64 → Rising m k swaps → good_list (store_of swaps) (length swaps) m k ≡ true
rising_good m k swaps h r =
    let few = rising_few m k swaps r in
    is_good m k (length swaps) (store_of swaps)
    (record {
      few = few;
      room = rw (length_store swaps (omega arith)) (omega arith);
      each = rw (pairs_store swaps) (rising_pairs m k swaps r);
    })
