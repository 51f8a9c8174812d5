-- Permuting by a swap list: document 01, "Solving" ("first pair first"), forwards and in reverse.
use Rattle.std.specs.Prelude.{Bool, true, false, cond, List, [], ◌∷◌, reverse, ℕ, ◌-◌}
use Rattle.numbers.specs.Column.{Column}
use Rattle.blas.specs.Blas.{swap_rows}
use Rattle.store.specs.Columns.{on_columns}
use Rattle.store.specs.Steps.{Matrix, swap_in_all, columns_swapped}
use Rattle.swap_list.specs.SwapList.{Swaps, held}

-- the exchange of each pair in turn, first pair first
unfoldable pub permuted_by : {X : Type 0} → (ℕ → ℕ → X → X) → Swaps → X → X
permuted_by exchange [] x = x
permuted_by exchange (p ∷ swaps) x = permuted_by exchange swaps (exchange p.0 p.1 x)

-- the entries of one column, and the rows of a matrix
abbrev pub permute : Swaps → Column → Column
permute swaps c = permuted_by swap_rows swaps c

abbrev pub rows_permuted : Swaps → Matrix → Matrix
rows_permuted swaps cs = permuted_by swap_in_all swaps cs

-- what an exchange of i and j is: of columns, or of rows
abbrev pub exchange_of : Bool → ℕ → ℕ → Matrix → Matrix
exchange_of true i j cs = columns_swapped i j cs
exchange_of false i j cs = swap_in_all i j cs

-- the pairs as they come: in reverse the last pair is first
unfoldable pub in_order : Bool → Swaps → Swaps
in_order backwards swaps = cond backwards (reverse swaps) swaps

-- a pass without the tests: the pairs that a store holds, exchanged in turn in the m by n matrix of a slice
abbrev pub exchanges_on : (ℕ → ℕ → Matrix → Matrix) → Bool → Column → ℕ → ℕ → List ℕ → ℕ → Column
exchanges_on exchange backwards s m n store pairs = on_columns m n (permuted_by exchange (in_order backwards (held pairs store))) s

-- the number of the pair that comes at turn k
unfoldable pub pair_of_turn : Bool → ℕ → ℕ → ℕ
pair_of_turn backwards pairs k = cond backwards (pairs - 1 - k) k
