-- What follows the last pair of a swap store is read by no call on factors: two stores as long that agree on their pairs hold the same swaps, and are refused
-- alike; and pairs written over both leave two stores that agree again. Number by number. Assumes nothing.
use mathlib.Core.Path.{◌≡◌, sym, ap, ◌∙◌}
use mathlib.Core.List.{List, ◌++◌}
use Prim.Native.Nat.{ℕ, ◌+◌, ◌-◌, ◌*◌, ◌≤◌, ◌<◌}
use native.Mathlib.Omega.{arith}
use lib.ListN.{length, get_or, drop, length-append, length-drop, get_or-append}
use lib.Seq.{get_or-append-add, get_or-drop}
use Rattle.numbers.specs.Column.{Column}
use Rattle.swap_list.specs.SwapList.{Swaps, pairs_of}
use Rattle.swap_list.proofs.SwapList.{pairs_same, good_unread}
use Rattle.factors.specs.declared.Record.{Record}
use Rattle.factors.specs.declared.Asks.{Asks}
use Rattle.factors.specs.Factors.{numbers_of, written}
use Rattle.factors.specs.Held.{held_refusal}
use Rattle.factors.proofs.Swaps.{length_numbers}

-- two stores as long, with the same first pairs
pub record SamePairs (pairs : ℕ) (a b : List ℕ) : Type 0 where
  pub long : length a ≡ length b
  pub same : (k : ℕ) → k < 2 * pairs → get_or a k 0 ≡ get_or b k 0

module _ (r : Record) (a b : List ℕ) (alike : SamePairs r.pairs a b) where
  pub swaps_unread : pairs_of r.pairs a ≡ pairs_of r.pairs b
  swaps_unread = pairs_same r.pairs a b alike.same

  -- THEOREM. Two stores that agree on the record's pairs are refused alike by every call on factors.
  pub held_unread : (factors : Column) (asks : Asks) → held_refusal factors a r asks ≡ held_refusal factors b r asks
  unfolding held_refusal
  held_unread factors asks = rw (alike.long, good_unread _ _ r.pairs a b alike.long alike.same)

-- ---- pairs written over the front of a store

pub written_front : (swaps : Swaps) (store : List ℕ) (k : ℕ) → k < 2 * length swaps → get_or (written swaps store) k 0 ≡ get_or (numbers_of swaps) k 0
unfolding written
written_front swaps store k h = get_or-append (numbers_of swaps) (drop (2 * length swaps) store) 0 k (omega (arith, length_numbers swaps))

-- what follows them stays as it was
pub written_behind : (swaps : Swaps) (store : List ℕ) (k : ℕ) → 2 * length swaps ≤ k → get_or (written swaps store) k 0 ≡ get_or store k 0
unfolding written
written_behind swaps store k h =
    let ns = numbers_of swaps in
    let c = 2 * length swaps in
    let at : k ≡ length ns + (k - c) = omega (arith, length_numbers swaps) in
    let back : c + (k - c) ≡ k = omega arith in
    ap (λ (j : ℕ). get_or (ns ++ drop c store) j 0) at
    ∙ get_or-append-add ns (drop c store) (k - c) 0
    ∙ get_or-drop c store (k - c) 0
    ∙ ap (λ (j : ℕ). get_or store j 0) back

length_written : (swaps : Swaps) (store : List ℕ) → length (written swaps store) ≡ 2 * length swaps + (length store - 2 * length swaps)
unfolding written
length_written swaps store =
    let rest = drop (2 * length swaps) store in
    omega (arith, length-append (numbers_of swaps) rest, length_numbers swaps, length-drop (2 * length swaps) store)

pub written_alike : (swaps : Swaps) (a b : List ℕ) → length a ≡ length b → SamePairs (length swaps) (written swaps a) (written swaps b)
written_alike swaps a b long =
    record {
      long = omega (arith, length_written swaps a, length_written swaps b);
      same = λ k h. written_front swaps a k h ∙ sym (written_front swaps b k h);
    }
