-- Removing's outcomes, each from what the code found and left on the way to it. Assumes nothing.
use mathlib.Core.Path.{◌≡◌, refl, sym, ap, ap₂, ◌∙◌}
use mathlib.Core.Bool.{Bool, true, false, not, and-true}
use mathlib.Core.List.{List, ◌∷◌, [], ◌++◌}
use Prim.Native.Nat.{ℕ, ◌+◌, ◌-◌, ◌*◌, ◌≤◌, ◌<◌, min}
use native.Mathlib.Omega.{arith}
use borrow.Author.Tests.{not-true, eqb-true, ltb-true, ltb-false, le-leb, lt-leb, leb-true}
use borrow.Rule.Slice.PartMut.{mid_of, put_mid, same_len_mid}
use lib.Dec.{ltb, leb, eqb}
use lib.ListN.{length, get_or, set, take, drop}
use lib.Seq.{take_at, length-take-le}
use Rattle.numbers.specs.Column.{Column, zeros}
use Rattle.numbers.proofs.Choice.{test_cases, and_second}
use Rattle.store.specs.Columns.{columns, flat, is_matrix, on_columns}
use Rattle.store.specs.Steps.{Matrix, swap_in_all, rows_swapped}
use Rattle.store.proofs.Columns.{sized, column_within, same_matrix, length_columns, column_length, flat_columns, flat_snoc}
use Rattle.dead_columns.specs.Dead.{dead_at, dead_in}
use Rattle.dead_columns.proofs.Dead.{dead_snoc, dead_swapped}
use Rattle.std.proofs.Common.{Ok}
use Rattle.refusals.specs.Outcome.{done, number, first_holding}
use Rattle.refusals.proofs.Outcomes.{tested_none}
use Rattle.swap_list.specs.SwapList.{Swaps, pairs_of, with_pair, good_list}
use Rattle.swap_list.proofs.SwapList.{length_pairs, good}
use Rattle.factors.specs.declared.Record.{Record}
use Rattle.factors.specs.Factors.{record_of, factors_in, record_after}
use Rattle.factors.specs.Held.{held_refusal}
use Rattle.factors.proofs.Held.{passed}
use Rattle.elimination.specs.Removing.{last_pair, undoes, pairs_before, remove_column}
use Rattle.removing.specs.Removing.{good_undoing, removing_asks, removing_refusal, erased, removing_made, removing}
use Rattle.removing.specs.Inner.{RemovableIf, Ready, RemovedFrom}
use Rattle.adding.proofs.Slot.{slot_columns, slot_lent, slot_part, older_exchanged}
use Rattle.removing.proofs.Undone.{second_at}

-- ---- what is asked of the list does not matter where the list is not good
list_unread : (s : Column) (store : List ℕ) (r : Record) (b c : Bool) → good_list store r.pairs r.rows (min r.rows r.columns) ≡ false
    → held_refusal s store r (removing_asks r b) ≡ held_refusal s store r (removing_asks r c)
unfolding held_refusal first_holding
list_unread s store r b c t = rw t

-- ---- what refusal 4 asks besides a good list, as the code tests it
module _ (m n pairs : ℕ) (store : List ℕ) where
  -- the last pair is undone: of at most min(m, n + 1) pairs one goes
  pub undoing_test : pairs ≤ min m (n + 1) → 0 < pairs → undoes n (pairs_of pairs store) ≡ true
      → leb n (get_or store (2 * pairs - 1) 0) ≡ good_undoing m n (pairs_of pairs store)
  unfolding good_undoing pairs_before undoes
  undoing_test few some t =
      let first : (last_pair (pairs_of pairs store)).0 ≡ n =
      eqb-true (last_pair (pairs_of pairs store)).0 n (and_second (ltb 0 (length (pairs_of pairs store))) (eqb (last_pair (pairs_of pairs store)).0 n) t) in
      let left : length (take (length (pairs_of pairs store) - 1) (pairs_of pairs store)) ≡ pairs - 1 =
      length-take-le (length (pairs_of pairs store) - 1) (pairs_of pairs store) (omega arith) ∙ ap (λ (k : ℕ). k - 1) (length_pairs pairs store) in
      rw (t, left, le-leb (pairs - 1) (min m n) (omega arith), first, second_at pairs store some) (turned n (get_or store (2 * pairs - 1) 0))
    where
      turned : (a b : ℕ) → leb a b ≡ not (ltb b a)
      turned a b =
          test_cases (ltb b a)
          (λ t. rw t (lt-leb a b (ltb-true b a t)))
          (λ t. rw t (le-leb a b (ltb-false b a t)))

  -- none is
  pub kept_test : undoes n (pairs_of pairs store) ≡ false → leb pairs (min m n) ≡ good_undoing m n (pairs_of pairs store)
  unfolding good_undoing pairs_before
  kept_test t = rw (t, length_pairs pairs store) (sym (and-true (leb pairs (min m n))))

module _ (r : Record) (s : Column) (store : List ℕ) where
  abbrev m : ℕ
  m = r.rows

  -- the number of the last column
  abbrev n : ℕ
  n = r.columns - 1

  abbrev swaps : Swaps
  swaps = pairs_of r.pairs store

  -- from what was found of the list: where it is not good, no more of it is looked at
  pub refusal_found : (list : Bool) (number : ℕ) → RemovableIf store r list → number ≡ held_refusal s store r (removing_asks r list)
      → number ≡ removing_refusal s store r
  unfolding removing_refusal
  refusal_found list number found e =
      e
      ∙ test_cases (good_list store r.pairs m (min m r.columns))
      (λ t. ap (λ (b : Bool). held_refusal s store r (removing_asks r b)) (found.good t))
      (λ t. list_unread s store r list (good_undoing m n swaps) t)

  -- past the tests
  pub ready : removing_refusal s store r ≡ 0 → Ready s store r
  unfolding removing_refusal
  ready e =
      let p = passed s store r (removing_asks r (good_undoing m n swaps)) e in
      let some = leb-true 1 r.columns p.sizes in
      let few = (good m (min m r.columns) r.pairs store p.list).few in
      let rows = p.rows.at_most in
      record {
        none = e;
        some = some;
        few = p.cols.at_most;
        matrix = p.matrix;
        within = column_within m r.columns n s (omega arith) (sized m r.columns s p.matrix).size;
        few_pairs = omega arith;
        room = p.room;
        undoing = p.list_asked;
        dead = p.dead;
      }

  module _ (go : Ready s store r) where
    pub worked : removing s store r ≡ removing_made store r (factors_in s m r.columns store r.pairs)
    unfolding removing
    worked = tested_none _ _ _ go.none

    one_more : r.columns ≡ n + 1
    one_more = omega (arith, go.some)

    pub size : length s ≡ (n + 1) * m
    size = rw (← one_more) (sized m r.columns s go.matrix).size

    wide : length (columns m n s) ≡ n
    wide = length_columns m n s

    pub older : take n (columns m r.columns s) ≡ columns m n s
    older =
        ap (λ (k : ℕ). take n (columns m k s)) one_more
        ∙ ap (take n) (slot_columns m n s size)
        ∙ take_at (columns m n s) (drop (n * m) s ∷ []) n wide

    -- the dead columns before, and the last one where it is dead
    pub dead_split : r.dead ≡ dead_in m (columns m n s) + dead_at n (mid_of (n * m) (n * m + m - n * m) s)
    dead_split =
        let last = drop (n * m) s in
        let slot : mid_of (n * m) (n * m + m - n * m) s ≡ last = slot_part m n s last (columns m n s) wide (slot_columns m n s size) in
        let tall : length last ≡ m = ap length (sym slot) ∙ column_length m (n + 1) n s (omega arith) size in
        go.dead
        ∙ ap (λ (k : ℕ). dead_in m (columns m k s)) one_more
        ∙ ap (dead_in m) (slot_columns m n s size)
        ∙ dead_snoc m (columns m n s) last tall
        ∙ ap₂ (λ (k : ℕ) (c : Column). dead_in m (columns m n s) + dead_at k c) wide (sym slot)

    -- the pair that goes exchanges no row above the last column's number
    below : undoes n swaps ≡ true → n ≤ (last_pair swaps).1
    unfolding good_undoing undoes
    below u =
        let first : (last_pair swaps).0 ≡ n = eqb-true (last_pair swaps).0 n (and_second (ltb 0 (length swaps)) (eqb (last_pair swaps).0 n) u) in
        let both = and_second (leb (length (pairs_before n swaps)) (min m n)) _ go.undoing in
        let least : ltb (last_pair swaps).1 (last_pair swaps).0 ≡ false = not-true _ (rw u at both) in
        omega (arith, ltb-false (last_pair swaps).1 (last_pair swaps).0 least)

    -- ---- z is the slot as it was zeroed, t the store with it
    module _ (z : Column) (kept : length z ≡ length (mid_of (n * m) (n * m + m - n * m) s))
        (zeroed : z ≡ zeros (length (mid_of (n * m) (n * m + m - n * m) s))) where
      abbrev t : Column
      t = put_mid (n * m) (n * m + m - n * m) s z

      long : length t ≡ length s
      long = same_len_mid (n * m) (n * m + m - n * m) s z kept

      behind : columns m (n + 1) t ≡ columns m n s ++ zeros m ∷ []
      behind =
          slot_lent (λ _. zeros m) m n s z (drop (n * m) s) (columns m n s) size wide (slot_columns m n s size) kept
          (zeroed ∙ ap zeros (column_length m (n + 1) n s (omega arith) size))

      -- a store whose columns are these, and zeros in the slot
      made_of : (v : Column) (cs : Matrix) → length v ≡ length s → columns m (n + 1) v ≡ cs ++ zeros m ∷ [] → v ≡ flat cs ++ zeros m
      made_of v cs len is = sym (flat_columns m (n + 1) v (len ∙ size)) ∙ ap flat is ∙ flat_snoc cs (zeros m)

      -- no pair goes
      pub promise_kept : (dead : ℕ) → dead ≡ dead_in m (columns m n s) → undoes n swaps ≡ false
          → RemovedFrom s store r (Ok (record_of m n r.pairs dead)) t store
      unfolding removing_made remove_column pairs_before erased record_after
      promise_kept dead left u =
          let count = length_pairs r.pairs store in
          let dead_is = left ∙ ap (dead_in m) (sym older) in
          record {
            answer = rw (worked, u, count) (ap (λ (k : ℕ). done (record_of m n r.pairs k)) dead_is);
            told = rw (worked, u, count) (ap (λ (k : ℕ). record_of m n r.pairs k) dead_is);
            factors = rw (worked, u) (made_of t (columns m n s) long behind ∙ ap (λ (cs : Matrix). flat cs ++ zeros m) (sym older));
            pairs = rw (worked, u) refl;
          }

      -- the last pair goes, and its two rows are exchanged in the older columns
      pub promise_undone : (dead : ℕ) (v : Column) (store' : List ℕ) → dead ≡ dead_in m (columns m n s) → 0 < r.pairs → undoes n swaps ≡ true
          → length v ≡ length t
          → v ≡ on_columns m (n + 1) (rows_swapped n (get_or store (2 * r.pairs - 1) 0) 0 n) t
          → store' ≡ set (set store (2 * r.pairs - 2) 0) (2 * r.pairs - 1) 0
          → RemovedFrom s store r (Ok (record_of m n (r.pairs - 1) dead)) v store'
      unfolding removing_made remove_column pairs_before erased record_after with_pair
      promise_undone dead v store' left some u kv swapped wrote =
          let p = get_or store (2 * r.pairs - 1) 0 in
          let count : length (take (length swaps - 1) swaps) ≡ r.pairs - 1 =
          length-take-le (length swaps - 1) swaps (omega arith) ∙ ap (λ (k : ℕ). k - 1) (length_pairs r.pairs store) in
          let row : p ≡ (last_pair swaps).1 = sym (second_at r.pairs store some) in
          let first : 2 * r.pairs - 2 ≡ 2 * (length swaps - 1) = omega (arith, length_pairs r.pairs store) in
          let second : 2 * r.pairs - 1 ≡ 2 * (length swaps - 1) + 1 = omega (arith, length_pairs r.pairs store) in
          let fits = same_matrix m (n + 1) s t long ∙ ap (λ (k : ℕ). is_matrix s m k) (sym one_more) ∙ go.matrix in
          let columns_are : columns m (n + 1) v ≡ swap_in_all n p (columns m n s) ++ zeros m ∷ [] =
          older_exchanged m n p t v (columns m n s) (zeros m) wide fits behind swapped in
          let whole = made_of v (swap_in_all n p (columns m n s)) (kv ∙ long) columns_are ∙ (λ i. flat (swap_in_all n (row i) (sym older i)) ++ zeros m) in
          let dead_is =
          left ∙ sym (dead_swapped m n (last_pair swaps).1 (columns m n s) (omega (arith, wide)) (omega (arith, wide, below u)))
          ∙ ap (λ (cs : Matrix). dead_in m (swap_in_all n (last_pair swaps).1 cs)) (sym older) in
          record {
            answer = rw (worked, u) (λ i. done (record_of m n (sym count i) (dead_is i)));
            told = rw (worked, u) (λ i. record_of m n (sym count i) (dead_is i));
            factors = rw (worked, u) whole;
            pairs = rw (worked, u) (wrote ∙ (λ i. set (set store (first i) 0) (second i) 0));
          }
