-- A list of pairs as it lies in the swap store: read back, and one more pair recorded. By induction on the list. Assumes nothing.
use mathlib.Core.Path.{◌≡◌, refl, sym, ap, ap₂, ◌∙◌}
use mathlib.Core.Bool.{true, cond}
use mathlib.Core.List.{List, [], ◌∷◌, ◌++◌, append_assoc}
use Prim.Native.Nat.{ℕ, zero, suc, ◌+◌, ◌-◌, ◌*◌, ◌/◌, ◌≤◌, ◌<◌}
use native.Mathlib.Nat.{sub-zero}
use native.Mathlib.Omega.{arith}
use borrow.Author.Tests.{lt-ltb}
use lib.Dec.{eqb, ltb}
use lib.ListN.{length, replicate, get_or, set, take, drop, length-append, length-replicate, take-append-drop}
use lib.Seq.{set_at, drop-append-add, length-take-le}
use Rattle.numbers.proofs.Choice.{cond_cases, cond_both, test_cases}
use Rattle.numbers.proofs.Walk.{drop_next}
use Rattle.swap_list.specs.SwapList.{Swaps, pairs_of, with_pair}
use Rattle.swap_list.proofs.SwapList.{length_pairs}
use Rattle.factors.specs.Factors.{record_swap, numbers_of, store_of, written, takes_pair, pairs_with, store_with}

pub length_numbers : (swaps : Swaps) → length (numbers_of swaps) ≡ 2 * length swaps
unfolding numbers_of
length_numbers [] = refl
length_numbers (p ∷ swaps) = let e = length_numbers swaps in omega arith

-- the store has 128 numbers, for as many pairs as fit
pub length_store : (swaps : Swaps) → length swaps ≤ 64 → length (store_of swaps) ≡ 128
unfolding store_of
length_store swaps h =
    length-append (numbers_of swaps) (replicate (128 - 2 * length swaps) 0)
    ∙ ap₂ (λ (a b : ℕ). a + b) (length_numbers swaps) (length-replicate (128 - 2 * length swaps) 0)
    ∙ omega arith

pairs_numbers : (swaps : Swaps) (rest : List ℕ) → pairs_of (length swaps) (numbers_of swaps ++ rest) ≡ swaps
unfolding pairs_of numbers_of
pairs_numbers [] rest = refl
pairs_numbers (p ∷ swaps) rest = ap (λ (s : Swaps). p ∷ s) (pairs_numbers swaps rest)

-- the pairs of the store are the list
pub pairs_store : (swaps : Swaps) → pairs_of (length swaps) (store_of swaps) ≡ swaps
unfolding store_of
pairs_store swaps = pairs_numbers swaps (replicate (128 - 2 * length swaps) 0)

numbers_snoc : (swaps : Swaps) (p : ℕ × ℕ) → numbers_of (swaps ++ p ∷ []) ≡ numbers_of swaps ++ p.0 ∷ p.1 ∷ []
unfolding numbers_of
numbers_snoc [] p = refl
numbers_snoc (q ∷ swaps) p = ap (λ (s : List ℕ). q.0 ∷ q.1 ∷ s) (numbers_snoc swaps p)

-- the pairs before the last
pairs_front : (swaps : Swaps) (i p : ℕ) → pairs_of (length swaps) (store_of (swaps ++ (i, p) ∷ [])) ≡ swaps
unfolding store_of
pairs_front swaps i p =
    let rest : List ℕ = replicate (128 - 2 * length (swaps ++ (i, p) ∷ [])) 0 in
    ap (λ (s : List ℕ). pairs_of (length swaps) (s ++ rest)) (numbers_snoc swaps (i, p))
    ∙ ap (pairs_of (length swaps)) (append_assoc (numbers_of swaps) (i ∷ p ∷ []) rest)
    ∙ pairs_numbers swaps (i ∷ p ∷ rest)

-- the next pair is written over two of the zeros
module _ (swaps : Swaps) (i p : ℕ) (room : length swaps < 64) where
  pub store_snoc : with_pair (length swaps) i p (store_of swaps) ≡ store_of (swaps ++ (i, p) ∷ [])
  unfolding store_of with_pair
  store_snoc =
      let k = length swaps in
      let ns = numbers_of swaps in
      let rest : List ℕ = replicate (126 - 2 * k) 0 in
      let two : 128 - 2 * k ≡ suc (suc (126 - 2 * k)) = omega arith in
      let left : 126 - 2 * k ≡ 128 - 2 * length (swaps ++ (i, p) ∷ []) = omega (arith, length-append swaps ((i, p) ∷ [])) in
      let len : length ns ≡ 2 * k = length_numbers swaps in
      let len' : length (ns ++ i ∷ []) ≡ 2 * k + 1 = length-append ns (i ∷ []) ∙ omega arith in
      ap (λ (c : ℕ). set (set (ns ++ replicate c 0) (2 * k) i) (2 * k + 1) p) two
      ∙ ap (λ (s : List ℕ). set s (2 * k + 1) p) (set_at ns 0 (0 ∷ rest) i (2 * k) len ∙ sym (append_assoc ns (i ∷ []) (0 ∷ rest)))
      ∙ set_at (ns ++ i ∷ []) 0 rest p (2 * k + 1) len'
      ∙ append_assoc ns (i ∷ []) (p ∷ rest)
      ∙ sym (append_assoc ns (i ∷ p ∷ []) rest)
      ∙ ap₂ (λ (s : List ℕ) (c : ℕ). s ++ replicate c 0) (sym (numbers_snoc swaps (i, p))) left

  -- a recorded swap, in the store and in the count
  pub store_record : cond (eqb p i) (store_of swaps) (with_pair (length swaps) i p (store_of swaps)) ≡ store_of (record_swap i p swaps)
  unfolding record_swap
  store_record = cond_both (λ (s : List ℕ) (t : Swaps). s ≡ store_of t) (eqb p i) (λ e. refl) (λ e. store_snoc)

  pub count_record : cond (eqb p i) (length swaps) (length swaps + 1) ≡ length (record_swap i p swaps)
  unfolding record_swap
  count_record = cond_both (λ (n : ℕ) (t : Swaps). n ≡ length t) (eqb p i) (λ e. refl) (λ e. sym (length-append swaps ((i, p) ∷ [])))

-- ---- pairs written at the front of a store
drop_replicate : (k n : ℕ) → drop k (replicate n 0) ≡ replicate {A = ℕ} (n - k) 0
drop_replicate zero n = ap (λ (c : ℕ). replicate {A = ℕ} c 0) (sym (sub-zero n))
drop_replicate (suc k) zero = let e : 0 ≡ 0 - suc k = omega arith in ap (λ (c : ℕ). replicate {A = ℕ} c 0) e
drop_replicate (suc k) (suc n) =
    let e : n - k ≡ suc n - suc k = omega arith in
    drop_replicate k n ∙ ap (λ (c : ℕ). replicate {A = ℕ} c 0) e

-- over a store with no more pairs than these: what follows stays zero
pub written_store : (swaps more : Swaps) → length swaps ≤ length more → written more (store_of swaps) ≡ store_of more
unfolding written store_of
written_store swaps more h =
    let a = length (numbers_of swaps) in
    let b = 2 * length more - a in
    let is : a ≡ 2 * length swaps = length_numbers swaps in
    let sum : 2 * length more ≡ a + b = omega arith in
    let left : 128 - 2 * length swaps - b ≡ 128 - 2 * length more = omega arith in
    ap (λ (s : List ℕ). numbers_of more ++ s)
    (ap (λ (k : ℕ). drop k (numbers_of swaps ++ replicate (128 - 2 * length swaps) 0)) sum
    ∙ drop-append-add (numbers_of swaps) (replicate (128 - 2 * length swaps) 0) b
    ∙ drop_replicate b (128 - 2 * length swaps)
    ∙ ap (λ (c : ℕ). replicate {A = ℕ} c 0) left)

pub record_more : (i p : ℕ) (swaps : Swaps) → length swaps ≤ length (record_swap i p swaps)
unfolding record_swap
record_more i p swaps = cond_cases (λ (s : Swaps). length swaps ≤ length s) (eqb p i) (λ e. omega arith) (λ e. omega (arith, length-append swaps ((i, p) ∷ [])))

-- the pairs that a store holds are its front
numbers_front : (pairs : ℕ) (store : List ℕ) → 2 * pairs ≤ length store → numbers_of (pairs_of pairs store) ≡ take (2 * pairs) store
unfolding pairs_of numbers_of
numbers_front zero store h = refl
numbers_front (suc pairs) [] h = absurd (let n : ⊥ = omega arith in n)
numbers_front (suc pairs) (x ∷ []) h = absurd (let n : ⊥ = omega arith in n)
numbers_front (suc pairs) (x ∷ y ∷ store) h =
    let e : suc (suc (2 * pairs)) ≡ 2 * suc pairs = omega arith in
    ap (λ (s : List ℕ). x ∷ y ∷ s) (numbers_front pairs store (omega arith)) ∙ ap (λ (k : ℕ). take k (x ∷ y ∷ store)) e

-- written over themselves they change nothing, and with the next pair they write that pair alone
module _ (pairs i p : ℕ) (store : List ℕ) (room : 2 * pairs + 1 < length store) where
  pub written_same : written (pairs_of pairs store) store ≡ store
  unfolding written
  written_same =
      ap₂ (λ (a : List ℕ) (k : ℕ). a ++ drop (2 * k) store) (numbers_front pairs store (omega arith)) (length_pairs pairs store)
      ∙ take-append-drop (2 * pairs) store

  pub written_next : written (pairs_of pairs store ++ (i, p) ∷ []) store ≡ with_pair pairs i p store
  unfolding written with_pair
  written_next =
      let k = 2 * pairs in
      let front = take k store in
      let len : length front ≡ k = length-take-le k store (omega arith) in
      let x = get_or store k 0 in
      let y = get_or store (k + 1) 0 in
      let rest = drop (k + 1 + 1) store in
      let cut : store ≡ front ++ x ∷ y ∷ rest =
      sym (take-append-drop k store)
      ∙ ap (λ (s : List ℕ). front ++ s) (drop_next store k 0 (omega arith) ∙ ap (λ (s : List ℕ). x ∷ s) (drop_next store (k + 1) 0 (omega arith))) in
      let len' : length (front ++ i ∷ []) ≡ k + 1 = length-append front (i ∷ []) ∙ omega arith in
      let more : 2 * length (pairs_of pairs store ++ (i, p) ∷ []) ≡ k + 1 + 1 =
      omega (arith, length-append (pairs_of pairs store) ((i, p) ∷ []), length_pairs pairs store) in
      ap₂ (λ (a : List ℕ) (j : ℕ). a ++ drop j store)
      (numbers_snoc (pairs_of pairs store) (i, p) ∙ ap (λ (a : List ℕ). a ++ i ∷ p ∷ []) (numbers_front pairs store (omega arith))) more
      ∙ append_assoc front (i ∷ p ∷ []) rest
      ∙ sym
      (ap (λ (s : List ℕ). set (set s k i) (k + 1) p) cut
      ∙ ap (λ (s : List ℕ). set s (k + 1) p) (set_at front x (y ∷ rest) i k len ∙ sym (append_assoc front (i ∷ []) (y ∷ rest)))
      ∙ set_at (front ++ i ∷ []) y rest p (k + 1) len'
      ∙ append_assoc front (i ∷ []) (p ∷ rest))

  -- a recorded swap: the store and the count that are left
  pub written_record : written (record_swap i p (pairs_of pairs store)) store ≡ cond (eqb p i) store (with_pair pairs i p store)
  unfolding record_swap
  written_record = cond_both (λ (s : Swaps) (t : List ℕ). written s store ≡ t) (eqb p i) (λ e. written_same) (λ e. written_next)

  pub count_held : length (record_swap i p (pairs_of pairs store)) ≡ cond (eqb p i) pairs (pairs + 1)
  unfolding record_swap
  count_held =
      cond_both (λ (s : Swaps) (k : ℕ). length s ≡ k) (eqb p i) (λ e. length_pairs pairs store)
      (λ e. length-append (pairs_of pairs store) ((i, p) ∷ []) ∙ ap (λ (k : ℕ). k + 1) (length_pairs pairs store))

-- the last pair of a store that holds nothing behind it becomes zero: the store of the pairs before it
zeros_behind : (swaps : Swaps) → length swaps < 64 → store_of (swaps ++ (0, 0) ∷ []) ≡ store_of swaps
unfolding store_of
zeros_behind swaps room =
    let k = length swaps in
    let left : 128 - 2 * length (swaps ++ (0, 0) ∷ []) ≡ 126 - 2 * k = omega (arith, length-append swaps ((0, 0) ∷ [])) in
    let two : suc (suc (126 - 2 * k)) ≡ 128 - 2 * k = omega arith in
    ap₂ (λ (s : List ℕ) (c : ℕ). s ++ replicate {A = ℕ} c 0) (numbers_snoc swaps (0, 0)) left
    ∙ append_assoc (numbers_of swaps) (0 ∷ 0 ∷ []) (replicate (126 - 2 * k) 0)
    ∙ ap (λ (c : ℕ). numbers_of swaps ++ replicate {A = ℕ} c 0) two

pub store_erased : (swaps : Swaps) (i p : ℕ) → length swaps < 64 → with_pair (length swaps) 0 0 (store_of (swaps ++ (i, p) ∷ [])) ≡ store_of swaps
store_erased swaps i p room =
    let more : Swaps = swaps ++ (i, p) ∷ [] in
    let count : length more ≡ length swaps + 1 = length-append swaps ((i, p) ∷ []) in
    let same : length more ≡ length (swaps ++ (0, 0) ∷ []) = count ∙ sym (length-append swaps ((0, 0) ∷ [])) in
    let fits : 2 * length swaps + 1 < length (store_of more) = omega (arith, length_store more (omega arith)) in
    sym (written_next (length swaps) 0 0 (store_of more) fits)
    ∙ ap (λ (s : Swaps). written (s ++ (0, 0) ∷ []) (store_of more)) (pairs_front swaps i p)
    ∙ written_store more (swaps ++ (0, 0) ∷ []) (omega arith)
    ∙ zeros_behind swaps room

-- ---- a swap recorded in a store that has room

-- the pair (i, p) behind the pairs of a store, unless the two numbers are one
pub record Recorded (i p pairs now-pairs : ℕ) (was is : List ℕ) : Type 0 where
  pub count : now-pairs ≡ cond (eqb p i) pairs (pairs + 1)
  pub store : is ≡ cond (eqb p i) was (with_pair pairs i p was)

pub recorded : (i p pairs now-pairs : ℕ) (was is : List ℕ) → pairs < 64 → length was ≡ 128
    → now-pairs ≡ pairs_with was pairs i p → is ≡ store_with was pairs i p → Recorded i p pairs now-pairs was is
unfolding pairs_with store_with takes_pair
recorded i p pairs now-pairs was is few room count store =
    let fits : ltb pairs (length was / 2) ≡ true = lt-ltb pairs (length was / 2) (rw room few) in
    test_cases (eqb p i)
    (λ t. record { count = rw t (rw t at count); store = rw t (rw t at store) })
    (λ t. record { count = rw t (rw (t, fits) at count); store = rw t (rw (t, fits) at store) })

-- at most one pair more
pub few_recorded : (i p pairs pairs' : ℕ) (was is : List ℕ) → Recorded i p pairs pairs' was is → pairs ≤ i → pairs' ≤ i + 1
few_recorded i p pairs pairs' was is rec h =
    rw rec.count (cond_cases (λ (k : ℕ). k ≤ i + 1) (eqb p i) (λ t. omega arith) (λ t. omega arith))

pub more_recorded : (i p pairs pairs' : ℕ) (was is : List ℕ) → Recorded i p pairs pairs' was is → pairs ≤ pairs'
more_recorded i p pairs pairs' was is rec =
    rw rec.count (cond_cases (λ (k : ℕ). pairs ≤ k) (eqb p i) (λ t. omega arith) (λ t. omega arith))
