-- Document 01, "Sizes": a swap list is a store of whole numbers, pair after pair, and a count of pairs; and what refusal 4 asks of it.
use Rattle.std.specs.Prelude.{Bool, true, not, cond, ◌&&◌, List, [], ◌∷◌, ℕ, zero, suc, ◌+◌, ◌*◌, ltb, leb, eqb, length, get_or, drop, set}

-- pairs of rows or columns, first pair first
abbrev pub Swaps : Type 0
Swaps = List (ℕ × ℕ)

-- the first `pairs` pairs of a store
unfoldable pub pairs_of : ℕ → List ℕ → Swaps
pairs_of zero store = []
pairs_of (suc pairs) store = (get_or store 0 0, get_or store 1 0) ∷ pairs_of pairs (drop 2 store)

-- the store has room for that many pairs
unfoldable pub holds : ℕ → List ℕ → Bool
holds pairs store = leb (2 * pairs) (length store)

-- what the inner passes take from a store: its pairs, and none where it has no room for them
unfoldable pub held : ℕ → List ℕ → Swaps
held pairs store = cond (holds pairs store) (pairs_of pairs store) []

-- the store with a pair written behind its pairs
unfoldable pub with_pair : ℕ → ℕ → ℕ → List ℕ → List ℕ
with_pair pairs i j store = set (set store (2 * pairs) i) (2 * pairs + 1) j

-- "Refusal numbers", 4: two different numbers below the bound
unfoldable pub good_pair : ℕ → ℕ × ℕ → Bool
good_pair bound p = not (eqb p.0 p.1) && ltb p.0 bound && ltb p.1 bound

unfoldable pub good_pairs : ℕ → Swaps → Bool
good_pairs bound [] = true
good_pairs bound (p ∷ swaps) = good_pair bound p && good_pairs bound swaps

-- A good list: at most `most` pairs, for which a store of 128 numbers has room where `most` is at most 64, and every pair is good.
unfoldable pub good_list : List ℕ → ℕ → ℕ → ℕ → Bool
good_list store pairs bound most = leb pairs most && holds pairs store && good_pairs bound (pairs_of pairs store)
