-- Factors as document 01 has them, and as the slices of the code hold them: "Sizes", the swap store; "Elimination", step 3.
use Rattle.std.specs.Prelude.{Bool, cond, not, ◌&&◌, List, [], ◌∷◌, ◌++◌, ℕ, ◌+◌, ◌-◌, ◌*◌, ◌/◌, ltb, eqb, length, drop, replicate}
use Rattle.numbers.specs.Column.{Column}
use Rattle.store.specs.Columns.{columns}
use Rattle.store.specs.Steps.{Matrix}
use Rattle.dead_columns.specs.Dead.{dead_in}
use Rattle.swap_list.specs.SwapList.{Swaps, pairs_of, with_pair}
use Rattle.refusals.specs.Outcome.{Outcome, done, refused, Call}
use Rattle.factors.specs.declared.Record.{Record}

-- L and U packed in one matrix, and the recorded swaps
pub record Factors : Type 0 where
  pub columns : Matrix
  pub swaps : Swaps

-- step 3: "If the row differs from i, record (i, row)"
unfoldable pub record_swap : ℕ → ℕ → Swaps → Swaps
record_swap i p swaps = cond (eqb p i) swaps (swaps ++ (i, p) ∷ [])

-- ---- the swap store

-- "pair after pair"
unfoldable pub numbers_of : Swaps → List ℕ
numbers_of [] = []
numbers_of (p ∷ swaps) = p.0 ∷ p.1 ∷ numbers_of swaps

-- a store of 128 whole numbers in which "what follows the last pair is zero"
unfoldable pub store_of : Swaps → List ℕ
store_of swaps = numbers_of swaps ++ replicate (128 - 2 * length swaps) 0

-- the pairs over the front of a store, and what follows them as it was
unfoldable pub written : Swaps → List ℕ → List ℕ
written swaps store = numbers_of swaps ++ drop (2 * length swaps) store

-- whether the pair (i, p) is recorded behind the pairs of a store: the two numbers differ, and there is room
unfoldable pub takes_pair : List ℕ → ℕ → ℕ → ℕ → Bool
takes_pair store pairs i p = not (eqb p i) && ltb pairs (length store / 2)

-- the number of pairs then, and the store
unfoldable pub pairs_with : List ℕ → ℕ → ℕ → ℕ → ℕ
pairs_with store pairs i p = cond (takes_pair store pairs i p) (pairs + 1) pairs

unfoldable pub store_with : List ℕ → ℕ → ℕ → ℕ → List ℕ
store_with store pairs i p = cond (takes_pair store pairs i p) (with_pair pairs i p store) store

-- ---- the record and the slices

-- a record by its numbers
abbrev pub record_of : ℕ → ℕ → ℕ → ℕ → Record
record_of m n pairs dead = record { rows = m; columns = n; pairs = pairs; dead = dead }

-- the record that goes with the factors of an m by n matrix: the one place where a record is made of factors
abbrev pub record_for : ℕ → ℕ → Factors → Record
record_for m n f = record_of m n (length f.swaps) (dead_in m f.columns)

-- the factors that the slices hold: n columns of m entries, and that many pairs
abbrev pub factors_in : Column → ℕ → ℕ → List ℕ → ℕ → Factors
factors_in s m n store pairs = record { columns = columns m n s; swaps = pairs_of pairs store }

-- what the two slices hold
pub record Slices : Type 0 where
  pub factors : Column
  pub store : List ℕ

abbrev pub slices : Column → List ℕ → Slices
slices factors store = record { factors = factors; store = store }

-- what a call comes to that makes or changes factors: its record or the refusal, and the slices
abbrev pub Factoring : Type 0
Factoring = Call Record Slices

-- the record that is left to a caller who had one: the new one, or the old one where the call was refused
unfoldable pub record_after : Record → Outcome Record → Record
record_after old (done new) = new
record_after old (refused number) = old
