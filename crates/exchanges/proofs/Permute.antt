-- Laws of permuting by a list of pairs: turn by turn as a loop goes, one list behind another, back again, and on each column of a matrix. By induction
-- on the list; exchanging twice restores, so the way back needs no sizes. Assumes nothing.
use mathlib.Core.Path.{◌≡◌, refl, sym, ap, ◌∙◌}
use mathlib.Core.Bool.{Bool, true, false, not}
use mathlib.Core.List.{List, [], ◌∷◌, ◌++◌, reverse, reverse-cons, reverse-reverse}
use Prim.Native.Nat.{ℕ, suc, ◌+◌, ◌-◌, ◌*◌, ◌≤◌, ◌<◌}
use native.Mathlib.Nat.{not-suc-le-zero}
use native.Mathlib.Omega.{arith}
use borrow.Author.Tests.{ltb-true, ltb-false}
use lib.Dec.{ltb}
use lib.ListN.{length, get_or, drop, drop_of_length-le, length-reverse, get_or-append}
use lib.Seq.{get_or_at}
use lib.Ieee.{nan}
use Rattle.numbers.specs.Each.{each_from}
use Rattle.numbers.specs.Column.{Column}
use Rattle.blas.specs.Blas.{swap_rows}
use Rattle.numbers.proofs.Choice.{test_cases}
use Rattle.numbers.proofs.Each.{each_each, each_id}
use Rattle.blas.proofs.Exchange.{length_exchanged}
use Rattle.numbers.proofs.Walk.{drop_next}
use Rattle.store.specs.Steps.{Matrix, swap_in_all}
use Rattle.swap_list.specs.SwapList.{Swaps, pairs_of}
use Rattle.exchanges.specs.Permute.{permuted_by, permute, rows_permuted, in_order, pair_of_turn}
use Rattle.swap_list.proofs.SwapList.{length_pairs, pair_at, pairs_at, four_pairs}

module _ {X : Type 0} (exchange : ℕ → ℕ → X → X) where
  -- one list behind another
  pub permuted_append : (swaps more : Swaps) (x : X) → permuted_by exchange (swaps ++ more) x ≡ permuted_by exchange more (permuted_by exchange swaps x)
  unfolding permuted_by
  permuted_append [] more x = refl
  permuted_append (p ∷ swaps) more x = permuted_append swaps more (exchange p.0 p.1 x)

  -- no pairs
  pub permuted_nothing : (backwards : Bool) (x : X) → permuted_by exchange (in_order backwards []) x ≡ x
  unfolding permuted_by in_order
  permuted_nothing true x = refl
  permuted_nothing false x = refl

  -- what each exchange keeps is kept
  pub permuted_keeps : (P : X → Type 0) → ((i j : ℕ) (x : X) → P x → P (exchange i j x)) → (swaps : Swaps) (x : X) → P x → P (permuted_by exchange swaps x)
  unfolding permuted_by
  permuted_keeps P keeps [] x px = px
  permuted_keeps P keeps (p ∷ swaps) x px = permuted_keeps P keeps swaps (exchange p.0 p.1 x) (keeps p.0 p.1 x px)

  -- there and back, where exchanging twice restores
  module _ (twice : (i j : ℕ) (x : X) → exchange i j (exchange i j x) ≡ x) where
    permuted_reverse : (swaps : Swaps) (x : X) → permuted_by exchange (reverse swaps) (permuted_by exchange swaps x) ≡ x
    unfolding permuted_by
    permuted_reverse [] x = refl
    permuted_reverse (p ∷ swaps) x =
        let y = exchange p.0 p.1 x in
        ap (λ (s : Swaps). permuted_by exchange s (permuted_by exchange swaps y)) (reverse-cons p swaps)
        ∙ permuted_append (reverse swaps) (p ∷ []) (permuted_by exchange swaps y)
        ∙ ap (exchange p.0 p.1) (permuted_reverse swaps y)
        ∙ twice p.0 p.1 x

    pub permuted_back : (backwards : Bool) (swaps : Swaps) (x : X)
        → permuted_by exchange (in_order (not backwards) swaps) (permuted_by exchange (in_order backwards swaps) x) ≡ x
    unfolding in_order
    permuted_back false swaps x = permuted_reverse swaps x
    permuted_back true swaps x =
        ap (λ (s : Swaps). permuted_by exchange s (permuted_by exchange (reverse swaps) x)) (sym (reverse-reverse swaps)) ∙ permuted_reverse (reverse swaps) x

-- ---- the loop over the pairs of a store

reverse_at : {A : Type 0} (l : List A) (k : ℕ) (d : A) → k < length l → get_or (reverse l) k d ≡ get_or l (length l - 1 - k) d
reverse_at [] k d h = absurd (not-suc-le-zero h)
reverse_at (x ∷ l) k d h =
    ap (λ r. get_or r k d) (reverse-cons x l)
    ∙ test_cases (ltb k (length l))
    (λ t.
    let g : k < length l = ltb-true k (length l) t in
    let e : suc (length l - 1 - k) ≡ suc (length l) - 1 - k = omega arith in
    get_or-append (reverse l) (x ∷ []) d k (rw length-reverse g) ∙ reverse_at l k d g ∙ ap (λ (i : ℕ). get_or (x ∷ l) i d) e)
    (λ t.
    let g : length l ≤ k = ltb-false k (length l) t in
    let e : 0 ≡ suc (length l) - 1 - k = omega arith in
    get_or_at (reverse l) x [] d k (length-reverse l ∙ omega arith) ∙ ap (λ (i : ℕ). get_or (x ∷ l) i d) e)

length_in_order : (backwards : Bool) (swaps : Swaps) → length (in_order backwards swaps) ≡ length swaps
unfolding in_order
length_in_order true swaps = length-reverse swaps
length_in_order false swaps = refl

-- the pair that comes at turn k
order_at : (backwards : Bool) (pairs : ℕ) (store : List ℕ) (k : ℕ) → k < pairs
    → get_or (in_order backwards (pairs_of pairs store)) k (0, 0) ≡ pair_at store (pair_of_turn backwards pairs k)
unfolding in_order pair_of_turn
order_at true pairs store k h =
    reverse_at (pairs_of pairs store) k (0, 0) (rw length_pairs h)
    ∙ ap (λ (n : ℕ). get_or (pairs_of pairs store) (n - 1 - k) (0, 0)) (length_pairs pairs store)
    ∙ pairs_at pairs store (pairs - 1 - k) (omega arith)
order_at false pairs store k h = pairs_at pairs store k h

module _ (backwards : Bool) (pairs : ℕ) (store : List ℕ) where
  -- one turn, and the end
  pub permuted_turn : {X : Type 0} (exchange : ℕ → ℕ → X → X) (k p : ℕ) (x y : X) → k < pairs → p ≡ pair_of_turn backwards pairs k
      → y ≡ exchange (get_or store (2 * p) 0) (get_or store (2 * p + 1) 0) x
      → permuted_by exchange (drop (k + 1) (in_order backwards (pairs_of pairs store))) y ≡ permuted_by exchange
      (drop k (in_order backwards (pairs_of pairs store))) x
  unfolding permuted_by
  permuted_turn exchange k p x y h e made =
      let swaps = in_order backwards (pairs_of pairs store) in
      let next : get_or swaps k (0, 0) ≡ pair_at store p = order_at backwards pairs store k h ∙ ap (pair_at store) (sym e) in
      ap (permuted_by exchange (drop (k + 1) swaps)) (made ∙ ap (λ (q : ℕ × ℕ). exchange q.0 q.1 x) (sym next))
      ∙ ap (λ (s : Swaps). permuted_by exchange s x) (sym (drop_next swaps k (0, 0) (rw (length_in_order, length_pairs) h)))

  pub permuted_end : {X : Type 0} (exchange : ℕ → ℕ → X → X) (k : ℕ) (x : X) → pairs ≤ k
      → permuted_by exchange (drop k (in_order backwards (pairs_of pairs store))) x ≡ x
  unfolding permuted_by
  permuted_end exchange k x h =
      ap (λ (s : Swaps). permuted_by exchange s x) (drop_of_length-le (in_order backwards (pairs_of pairs store)) {i =
      k} (rw (length_in_order, length_pairs) h))

-- ---- one column, and each column of a matrix

pub permute_append : (swaps more : Swaps) (c : Column) → permute (swaps ++ more) c ≡ permute more (permute swaps c)
permute_append = permuted_append swap_rows

-- four pairs as they were read
pub permute_four : (store : List ℕ) (c new : Column) → new ≡ permute (pair_at store 0 ∷ pair_at store 1 ∷ pair_at store 2 ∷ pair_at store 3 ∷ []) c
    → new ≡ permute (pairs_of 4 store) c
permute_four store c new e = e ∙ ap (λ (swaps : Swaps). permute swaps c) (sym (four_pairs store))

pub length_permute : (swaps : Swaps) (c : Column) → length (permute swaps c) ≡ length c
length_permute swaps c = permuted_keeps swap_rows (λ x. length x ≡ length c) (λ i j x e. length_exchanged nan i j x ∙ e) swaps c refl

pub rows_each : (swaps : Swaps) (cs : Matrix) → rows_permuted swaps cs ≡ each_from (λ j c. permute swaps c) 0 cs
unfolding permuted_by swap_in_all
rows_each [] cs = sym (each_id (λ j c. c) 0 cs (λ j c h. refl))
rows_each (p ∷ swaps) cs =
    rows_each swaps (swap_in_all p.0 p.1 cs) ∙ each_each (λ j c. permute swaps c) (λ j c. swap_rows p.0 p.1 c) 0 cs
