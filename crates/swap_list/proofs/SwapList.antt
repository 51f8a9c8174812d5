-- Laws of swap lists: the pairs of a store one by one, the list test as a loop meets it, what a good list is known by, and a pair written behind the
-- last one. By induction on the number of pairs. Assumes nothing.
use mathlib.Core.Path.{◌≡◌, refl, sym, ap, ap₂, ◌∙◌}
use mathlib.Core.Bool.{Bool, false, true, ◌&&◌}
use mathlib.Core.List.{List, [], ◌∷◌, ◌++◌}
use Prim.Native.Nat.{ℕ, zero, suc, ◌+◌, ◌-◌, ◌*◌, ◌≤◌, ◌<◌}
use native.Mathlib.Nat.{le_of_suc-le-suc, not-suc-le-zero, zero-add, suc-add}
use native.Mathlib.Numerals.{add-one}
use native.Mathlib.Omega.{arith}
use borrow.Author.Tests.{leb-true, le-leb, lt-leb}
use lib.Dec.{leb}
use lib.ListN.{length, get_or, take, drop, set, drop_of_length-le, length-set}
use lib.Seq.{drop-drop, get_or-take, get_or-drop, get_or-set_same, get_or-set_other, ext_get_or}
use Rattle.numbers.proofs.Choice.{and_first, and_second, and_both}
use Rattle.numbers.proofs.Walk.{drop_next}
use Rattle.swap_list.specs.SwapList.{Swaps, pairs_of, holds, held, with_pair, good_pair, good_pairs, good_list}

-- ---- the pairs of a store

pub length_pairs : (pairs : ℕ) (store : List ℕ) → length (pairs_of pairs store) ≡ pairs
unfolding pairs_of
length_pairs zero store = refl
length_pairs (suc pairs) store = ap suc (length_pairs pairs (drop 2 store))

-- pair k stands at 2 * k and behind it
abbrev pub pair_at : List ℕ → ℕ → ℕ × ℕ
pair_at store k = (get_or store (2 * k) 0, get_or store (2 * k + 1) 0)

-- two stores with the same numbers at a pair's places
pair_same : (a b : List ℕ) (j k : ℕ) → get_or a (2 * j) 0 ≡ get_or b (2 * k) 0 → get_or a (2 * j + 1) 0 ≡ get_or b (2 * k + 1) 0 → pair_at a j ≡ pair_at b k
pair_same a b j k e f = ap₂ (λ (x y : ℕ). (x, y)) e f

pair_drop : (store : List ℕ) (k : ℕ) → pair_at (drop 2 store) k ≡ pair_at store (suc k)
pair_drop store k =
    let first : 2 + 2 * k ≡ 2 * suc k = omega arith in
    let second : 2 + (2 * k + 1) ≡ 2 * suc k + 1 = omega arith in
    pair_same (drop 2 store) store k (suc k)
    (get_or-drop 2 store (2 * k) 0 ∙ ap (λ (j : ℕ). get_or store j 0) first)
    (get_or-drop 2 store (2 * k + 1) 0 ∙ ap (λ (j : ℕ). get_or store j 0) second)

pub pairs_at : (pairs : ℕ) (store : List ℕ) (k : ℕ) → k < pairs → get_or (pairs_of pairs store) k (0, 0) ≡ pair_at store k
unfolding pairs_of
pairs_at zero store k h = absurd (not-suc-le-zero h)
pairs_at (suc pairs) store zero h = refl
pairs_at (suc pairs) store (suc k) h = pairs_at pairs (drop 2 store) k (le_of_suc-le-suc h) ∙ pair_drop store k

-- what follows the last pair is not read
pub pairs_same : (pairs : ℕ) (a b : List ℕ) → ((k : ℕ) → k < 2 * pairs → get_or a k 0 ≡ get_or b k 0) → pairs_of pairs a ≡ pairs_of pairs b
pairs_same pairs a b same =
    ext_get_or (0, 0) (pairs_of pairs a) (pairs_of pairs b) (length_pairs pairs a ∙ sym (length_pairs pairs b)) λ k g.
    let h : k < pairs = rw length_pairs at g in
    pairs_at pairs a k h ∙ pair_same a b k k (same (2 * k) (omega arith)) (same (2 * k + 1) (omega arith)) ∙ sym (pairs_at pairs b k h)

pairs_last : (pairs : ℕ) (store : List ℕ) → pairs_of (suc pairs) store ≡ pairs_of pairs store ++ pair_at store pairs ∷ []
unfolding pairs_of
pairs_last zero store = refl
pairs_last (suc pairs) store =
    ap (λ (s : Swaps). (get_or store 0 0, get_or store 1 0) ∷ s)
    (pairs_last pairs (drop 2 store) ∙ ap (λ (p : ℕ × ℕ). pairs_of pairs (drop 2 store) ++ p ∷ []) (pair_drop store pairs))

-- four pairs by their places
pub four_pairs : (store : List ℕ) → pairs_of 4 store ≡ pair_at store 0 ∷ pair_at store 1 ∷ pair_at store 2 ∷ pair_at store 3 ∷ []
unfolding pairs_of
four_pairs store =
    let behind : ℕ → Swaps → Swaps = λ k s. s ++ pair_at store k ∷ [] in
    pairs_last 3 store ∙ ap (behind 3) (pairs_last 2 store ∙ ap (behind 2) (pairs_last 1 store ∙ ap (behind 1) (pairs_last 0 store)))

-- the first pairs, and those behind them
pub pairs_split : (a b : ℕ) (store : List ℕ) → pairs_of (a + b) store ≡ pairs_of a store ++ pairs_of b (drop (2 * a) store)
unfolding pairs_of
pairs_split zero b store =
    let none : 0 ≡ 2 * 0 = omega arith in ap₂ (λ (n k : ℕ). pairs_of n (drop k store)) (zero-add b) none
pairs_split (suc a) b store =
    let two-more : 2 + 2 * a ≡ 2 * suc a = omega arith in
    ap (λ (n : ℕ). pairs_of n store) (suc-add a b)
    ∙ ap (λ (s : Swaps). (get_or store 0 0, get_or store 1 0) ∷ s)
    (pairs_split a b (drop 2 store)
    ∙ ap (λ (l : List ℕ). pairs_of a (drop 2 store) ++ pairs_of b l) (drop-drop (2 * a) 2 store ∙ ap (λ (k : ℕ). drop k store) two-more))

-- the four pairs behind the first k times four, lent as a part
pub part_pairs : (k : ℕ) (store : List ℕ) → pairs_of 4 (take (8 * k + 8 - 8 * k) (drop (8 * k) store)) ≡ pairs_of 4 (drop (2 * (4 * k)) store)
part_pairs k store =
    let same : 8 * k ≡ 2 * (4 * k) = omega arith in
    pairs_same 4 (take (8 * k + 8 - 8 * k) (drop (8 * k) store)) (drop (2 * (4 * k)) store) λ i h.
    get_or-take (8 * k + 8 - 8 * k) (drop (8 * k) store) i 0 (omega arith) ∙ ap (λ (a : ℕ). get_or (drop a store) i 0) same

-- a pair written behind the last is the new last pair
module _ (pairs i j : ℕ) (store : List ℕ) where
  pub length_with : length (with_pair pairs i j store) ≡ length store
  unfolding with_pair
  length_with = simp length-set

  with_at : 2 * pairs + 1 < length store → pair_at (with_pair pairs i j store) pairs ≡ (i, j)
  unfolding with_pair
  with_at h =
      let one = set store (2 * pairs) i in
      let h' : 2 * pairs + 1 < length one = rw length-set h in
      ap₂ (λ (x y : ℕ). (x, y))
      (get_or-set_other one (2 * pairs + 1) (2 * pairs) j 0 (λ e. omega (arith, e)) ∙ get_or-set_same store (2 * pairs) i 0 (omega arith))
      (get_or-set_same one (2 * pairs + 1) j 0 h')

  with_before : (k : ℕ) → k < 2 * pairs → get_or (with_pair pairs i j store) k 0 ≡ get_or store k 0
  unfolding with_pair
  with_before k h =
      get_or-set_other (set store (2 * pairs) i) (2 * pairs + 1) k j 0 (λ e. omega (arith, e))
      ∙ get_or-set_other store (2 * pairs) k i 0 (λ e. omega (arith, e))

  pub pairs_with : 2 * pairs + 1 < length store → pairs_of (pairs + 1) (with_pair pairs i j store) ≡ pairs_of pairs store ++ (i, j) ∷ []
  pairs_with h =
      ap (λ (c : ℕ). pairs_of c (with_pair pairs i j store)) (add-one pairs)
      ∙ pairs_last pairs (with_pair pairs i j store)
      ∙ ap₂ (λ (s : Swaps) (p : ℕ × ℕ). s ++ p ∷ []) (pairs_same pairs (with_pair pairs i j store) store with_before) (with_at h)

-- what the inner passes take
pub held_all : (pairs : ℕ) (store : List ℕ) → 2 * pairs ≤ length store → held pairs store ≡ pairs_of pairs store
unfolding held holds
held_all pairs store h = rw (le-leb (2 * pairs) (length store) h)

pub held_none : (pairs : ℕ) (store : List ℕ) → length store < 2 * pairs → held pairs store ≡ []
unfolding held holds
held_none pairs store h = rw (lt-leb (2 * pairs) (length store) h)

-- ---- the list test

-- one turn of it, those before it being good or not, and its end
module _ (bound pairs : ℕ) (store : List ℕ) (k : ℕ) where
  pub good_turn : k < pairs → (good b : Bool) → b ≡ good_pair bound (pair_at store k)
      → ((good && b) && good_pairs bound (drop (k + 1) (pairs_of pairs store))) ≡ (good && good_pairs bound (drop k (pairs_of pairs store)))
  unfolding good_pairs
  good_turn h false b e = refl
  good_turn h true b e =
      sym (ap (good_pairs bound) (drop_next (pairs_of pairs store) k (0, 0) (rw length_pairs h))
      ∙ ap (λ (t : Bool). t && good_pairs bound (drop (k + 1) (pairs_of pairs store))) (ap (good_pair bound) (pairs_at pairs store k h) ∙ sym e))

  pub good_end : pairs ≤ k → (good : Bool) → good ≡ (good && good_pairs bound (drop k (pairs_of pairs store)))
  unfolding good_pairs
  good_end h false = refl
  good_end h true = sym (ap (good_pairs bound) (drop_of_length-le (pairs_of pairs store) {i = k} (rw length_pairs h)))

-- what the test says where it is passed
pub record Good (bound most pairs : ℕ) (store : List ℕ) : Type 0 where
  pub few : pairs ≤ most
  pub room : 2 * pairs ≤ length store
  pub each : good_pairs bound (pairs_of pairs store) ≡ true

module _ (bound most pairs : ℕ) (store : List ℕ) where
  pub good : good_list store pairs bound most ≡ true → Good bound most pairs store
  unfolding good_list holds
  good e =
      let both = and_first (leb pairs most && leb (2 * pairs) (length store)) (good_pairs bound (pairs_of pairs store)) e in
      record {
        few = leb-true pairs most (and_first (leb pairs most) (leb (2 * pairs) (length store)) both);
        room = leb-true (2 * pairs) (length store) (and_second (leb pairs most) (leb (2 * pairs) (length store)) both);
        each = and_second (leb pairs most && leb (2 * pairs) (length store)) (good_pairs bound (pairs_of pairs store)) e;
      }

  pub is_good : Good bound most pairs store → good_list store pairs bound most ≡ true
  unfolding good_list holds
  is_good g = rw (le-leb pairs most g.few, le-leb (2 * pairs) (length store) g.room) g.each

  pub held_good : good_list store pairs bound most ≡ true → held pairs store ≡ pairs_of pairs store
  held_good e = held_all pairs store (good e).room

-- the test does not read what follows the last pair
pub good_unread : (bound most pairs : ℕ) (a b : List ℕ) → length a ≡ length b → ((k : ℕ) → k < 2 * pairs → get_or a k 0 ≡ get_or b k 0)
    → good_list a pairs bound most ≡ good_list b pairs bound most
unfolding good_list holds
good_unread bound most pairs a b long same = rw (long, pairs_same pairs a b same)

pub goods_snoc : (bound : ℕ) (swaps : Swaps) (p : ℕ × ℕ) → good_pairs bound swaps ≡ true → good_pair bound p ≡ true → good_pairs bound (swaps ++ p ∷ []) ≡ true
unfolding good_pairs
goods_snoc bound [] p e f = and_both (good_pair bound p) true f refl
goods_snoc bound (q ∷ swaps) p e f =
    and_both (good_pair bound q) (good_pairs bound (swaps ++ p ∷ [])) (and_first (good_pair bound q) (good_pairs bound swaps) e)
    (goods_snoc bound swaps p (and_second (good_pair bound q) (good_pairs bound swaps) e) f)

-- a good list with a good pair behind it
pub good_with : (bound most pairs i j : ℕ) (store : List ℕ) → good_list store pairs bound most ≡ true → pairs < most → 2 * pairs + 1 < length store
    → good_pair bound (i, j) ≡ true
    → good_list (with_pair pairs i j store) (pairs + 1) bound most ≡ true
good_with bound most pairs i j store e few room p =
    is_good bound most (pairs + 1) (with_pair pairs i j store)
    (record {
      few = omega arith;
      room = rw length_with (omega arith);
      each = rw (pairs_with pairs i j store room) (goods_snoc bound (pairs_of pairs store) (i, j) (good bound most pairs store e).each p);
    })
