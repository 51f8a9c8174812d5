-- Taking the last column off undoes adding it: the pair that adding recorded is the last one and alone begins with that column's number, and exchanging
-- the two rows once more restores the older columns. By the recorded pairs, which rise. Assumes nothing.
use mathlib.Core.Path.{◌≡◌, refl, ap, ◌∙◌}
use mathlib.Core.Bool.{Bool, true, false, not, ◌&&◌}
use mathlib.Core.List.{List, [], ◌∷◌, ◌++◌}
use Prim.Native.Nat.{ℕ, ◌+◌, ◌-◌, ◌*◌, ◌≤◌, ◌<◌, min}
use native.Mathlib.Omega.{arith}
use borrow.Author.Tests.{eqb-true, eq-eqb, ne_eqb, ltb-true, lt-ltb, le-ltb, le-leb}
use lib.Dec.{ltb, eqb}
use lib.ListN.{length, get_or, take, length-append}
use lib.Seq.{get_or-append_seam, take_at}
use lib.Ieee.{nan}
use Rattle.numbers.specs.Column.{Column}
use Rattle.numbers.proofs.Choice.{test_cases, and_first}
use Rattle.numbers.proofs.Each.{each_id, each_each}
use Rattle.blas.proofs.Exchange.{exchanged_twice}
use Rattle.store.specs.Steps.{Matrix, swap_in_all}
use Rattle.store.proofs.Steps.{length_swap_in_all}
use Rattle.swap_list.specs.SwapList.{Swaps, pairs_of}
use Rattle.swap_list.proofs.SwapList.{length_pairs, pairs_at}
use Rattle.factors.specs.Factors.{Factors, record_swap, store_of}
use Rattle.elimination.specs.Removing.{last_pair, undoes, pairs_before, remove_column}
use Rattle.removing.specs.Removing.{good_undoing, erased}
use Rattle.elimination.proofs.Own.{joined, swap_none}
use Rattle.elimination.proofs.Recorded.{Rising, no_steps, none_more, one_more}
use Rattle.factors.proofs.Swaps.{store_erased}

-- ---- the last pair of a store
module _ (pairs : ℕ) (store : List ℕ) (some : 0 < pairs) where
  last_at : last_pair (pairs_of pairs store) ≡ (get_or store (2 * pairs - 2) 0, get_or store (2 * pairs - 1) 0)
  unfolding last_pair
  last_at =
      let first : 2 * (pairs - 1) ≡ 2 * pairs - 2 = omega arith in
      let second : 2 * (pairs - 1) + 1 ≡ 2 * pairs - 1 = omega arith in
      ap (λ (k : ℕ). get_or (pairs_of pairs store) (k - 1) (0, 0)) (length_pairs pairs store)
      ∙ pairs_at pairs store (pairs - 1) (omega arith)
      ∙ (λ t. (get_or store (first t) 0, get_or store (second t) 0))

  pub undoes_at : (n : ℕ) → undoes n (pairs_of pairs store) ≡ eqb (get_or store (2 * pairs - 2) 0) n
  unfolding undoes
  undoes_at n = rw (length_pairs pairs store, lt-ltb 0 pairs some, last_at)

  pub second_at : (last_pair (pairs_of pairs store)).1 ≡ get_or store (2 * pairs - 1) 0
  second_at = ap (λ (q : ℕ × ℕ). q.1) last_at

pub undoes_empty : (pairs n : ℕ) (store : List ℕ) → pairs ≡ 0 → undoes n (pairs_of pairs store) ≡ false
unfolding undoes
undoes_empty pairs n store e = rw (length_pairs pairs store, e)

pub undoes_some : (pairs n : ℕ) (store : List ℕ) → undoes n (pairs_of pairs store) ≡ true → 0 < pairs
unfolding undoes
undoes_some pairs n store t =
    rw (length_pairs pairs store) at (ltb-true 0 (length (pairs_of pairs store))
    (and_first (ltb 0 (length (pairs_of pairs store))) (eqb (last_pair (pairs_of pairs store)).0 n) t))

-- ---- the last pair of a list that one was put behind
last_snoc : (swaps : Swaps) (q : ℕ × ℕ) → last_pair (swaps ++ q ∷ []) ≡ q
unfolding last_pair
last_snoc swaps q =
    let e : length (swaps ++ q ∷ []) - 1 ≡ length swaps = omega (arith, length-append swaps (q ∷ [])) in
    ap (λ (k : ℕ). get_or (swaps ++ q ∷ []) k (0, 0)) e ∙ get_or-append_seam swaps q [] (0, 0)

undoes_snoc : (n : ℕ) (swaps : Swaps) (q : ℕ × ℕ) → undoes n (swaps ++ q ∷ []) ≡ eqb q.0 n
unfolding undoes
undoes_snoc n swaps q = rw (lt-ltb 0 (length (swaps ++ q ∷ [])) (omega (arith, length-append swaps (q ∷ []))), last_snoc swaps q)

-- a list of pairs that begin below n has none of column n
pub rising_kept : (m k n : ℕ) (swaps : Swaps) → k ≤ n → Rising m k swaps → undoes n swaps ≡ false
unfolding undoes
rising_kept m k n swaps h no_steps = refl
rising_kept m k n swaps h (none_more {k = j} r) = rising_kept m j n swaps (omega arith) r
rising_kept m k n swaps h (one_more {k = j} {swaps = t} p lo hi r) = undoes_snoc n t (j, p) ∙ ne_eqb j n (λ e. omega arith)

-- ---- a recorded swap of column n, and what is left when it is undone
module _ (n p : ℕ) (swaps : Swaps) (kept : undoes n swaps ≡ false) where
  -- the list with the pair behind it, where there is one
  snoc_undone : (undoes n (swaps ++ (n, p) ∷ []) ≡ true) × (length (swaps ++ (n, p) ∷ []) - 1 ≡ length swaps)
  snoc_undone = (undoes_snoc n swaps (n, p) ∙ eq-eqb n n refl, omega (arith, length-append swaps ((n, p) ∷ [])))

  before_recorded : pairs_before n (record_swap n p swaps) ≡ swaps
  unfolding pairs_before record_swap
  before_recorded =
      test_cases (eqb p n) (λ t. rw (t, kept))
      (λ t. rw (t, snoc_undone.0, snoc_undone.1) (take_at swaps ((n, p) ∷ []) (length swaps) refl))

  pub erased_recorded : length swaps < 64 → erased n (record_swap n p swaps) (store_of (record_swap n p swaps)) ≡ store_of swaps
  unfolding erased record_swap
  erased_recorded room =
      test_cases (eqb p n) (λ t. rw (t, kept))
      (λ t. rw (t, snoc_undone.0, snoc_undone.1) (store_erased swaps n p room))

  pub undoing_recorded : (m : ℕ) → length swaps ≤ min m n → n ≤ p → good_undoing m n (record_swap n p swaps) ≡ true
  unfolding good_undoing record_swap
  undoing_recorded m few up =
      rw (before_recorded, le-leb (length swaps) (min m n) few) (not_backwards (eqb p n) refl)
    where
      not_backwards : (b : Bool) → eqb p n ≡ b
          → not (undoes n (record_swap n p swaps) && ltb (last_pair (record_swap n p swaps)).1 (last_pair (record_swap n p swaps)).0) ≡ true
      not_backwards true t = rw (t, kept)
      not_backwards false t = rw (t, snoc_undone.0, last_snoc swaps (n, p), le-ltb p n up)

-- ---- the older columns
swapped_twice : (i p : ℕ) (cs : Matrix) → swap_in_all i p (swap_in_all i p cs) ≡ cs
unfolding swap_in_all
swapped_twice i p cs = each_each _ _ 0 cs ∙ each_id _ 0 cs (λ j c h. exchanged_twice nan i p c)

-- THEOREM. Removing the last column undoes the exchange and the record with which it was joined to the factors.
pub removed_joined : (p : ℕ) (f : Factors) (x : Column) → undoes (length f.columns) f.swaps ≡ false
    → remove_column (length f.columns) (joined (length f.columns) p f x) ≡ f
unfolding remove_column record_swap
removed_joined p f x kept =
    let n = length f.columns in
    let front : take n (swap_in_all n p f.columns ++ x ∷ []) ≡ swap_in_all n p f.columns =
    take_at (swap_in_all n p f.columns) (x ∷ []) n (length_swap_in_all n p f.columns) in
    let left = before_recorded n p f.swaps kept in
    test_cases (eqb p n)
    (λ t.
    let none : swap_in_all n p f.columns ≡ f.columns = rw (eqb-true p n t) (swap_none n f.columns) in
    rw (t, kept) (λ i. record { columns = (front ∙ none) i; swaps = (rw t at left) i }))
    (λ t.
    rw (t, (snoc_undone n p f.swaps kept).0, last_snoc f.swaps (n, p))
    (λ i. record { columns = (ap (swap_in_all n p) front ∙ swapped_twice n p f.columns) i; swaps = (rw t at left) i }))
