-- Document 01, "Solving": solve and inverse from the factors; document 02, request 5: the transposed solve from the same factors; and what the
-- three calls answer and leave on every input.
use Rattle.std.specs.Prelude.{Bool, true, false, not, ◌&&◌, List, reverse, ℕ, set}
use Rattle.numbers.specs.Each.{each_from, list_of}
use Rattle.numbers.specs.Numbers.{one64}
use Rattle.numbers.specs.Column.{Column, zeros}
use Rattle.finite.specs.Finite.{all_finite}
use Rattle.store.specs.Columns.{columns, flat, is_matrix}
use Rattle.store.specs.Steps.{Matrix}
use Rattle.refusals.specs.Outcome.{tested, Call, leaving}
use Rattle.refusals.specs.Refusals.{outside, seventh}
use Rattle.swap_list.specs.SwapList.{Swaps, pairs_of}
use Rattle.exchanges.specs.Permute.{permute}
use Rattle.triangular_passes.specs.declared.Pass.TheVariants.{Upper, GivenDiagonal, TransposedUpper, TransposedUnitLower}
use Rattle.triangular_passes.specs.Triangular.{solved_column}
use Rattle.factors.specs.declared.Record.{Record}
use Rattle.factors.specs.declared.Asks.{Asks}
use Rattle.factors.specs.Held.{held_refusal}

-- how one right-hand column is solved: by the n by n columns of the factors, and by the swaps
abbrev pub Way : Type 0
Way = ℕ → Matrix → Swaps → Column → Column

-- "swap the right-hand rows by the list, first pair first; unit lower; then upper"
unfoldable pub solved : Way
solved n cs swaps b = solved_column Upper n cs (solved_column (GivenDiagonal one64) n cs (permute swaps b))

-- "transposed upper, transposed unit lower, then the swaps in reverse"
unfoldable pub tr_solved : Way
tr_solved n cs swaps b = permute (reverse swaps) (solved_column TransposedUnitLower n cs (solved_column TransposedUpper n cs b))

-- of the two, the one that is asked for
abbrev pub way_of : Bool → Way
way_of true = tr_solved
way_of false = solved

-- each right-hand column by itself
unfoldable pub solved_all : Way → ℕ → Matrix → Swaps → Matrix → Matrix
solved_all way n cs swaps bs = each_from (λ j b. way n cs swaps b) 0 bs

-- the identity's columns
unfoldable pub unit_column : ℕ → ℕ → Column
unit_column n j = set (zeros n) j one64

abbrev pub identity : ℕ → Matrix
identity n = list_of n (unit_column n)

-- the right-hand sides solved by the factors of the record
abbrev pub solved_by : Way → Column → List ℕ → Record → Matrix → Column
solved_by way factors store r bs = flat (solved_all way r.rows (columns r.rows r.rows factors) (pairs_of r.pairs store) bs)

-- ---- the calls

abbrev pub solve_asks : Column → ℕ → ℕ → Column → Asks
solve_asks b n k x =
    record { square = true; solves = true; sizes = not (outside 1 k); lengths = is_matrix b n k && is_matrix x n k; list = true; numbers = all_finite b }

-- k right-hand columns b, and the slice for the solution, which held x
abbrev pub solving_by : Way → Column → List ℕ → Record → Column → ℕ → Column → Call (Unit {0}) Column
solving_by way factors store r b k x =
    tested (held_refusal factors store r (solve_asks b r.rows k x)) (leaving x)
    (seventh (solved_by way factors store r (columns r.rows k b)))

unfoldable pub solving : Column → List ℕ → Record → Column → ℕ → Column → Call (Unit {0}) Column
solving factors store r b k x = solving_by solved factors store r b k x

-- "refusals: as for solve, in the same order"
unfoldable pub tr_solving : Column → List ℕ → Record → Column → ℕ → Column → Call (Unit {0}) Column
tr_solving factors store r b k x = solving_by tr_solved factors store r b k x

abbrev pub inverse_asks : Column → ℕ → Asks
inverse_asks x n = record { square = true; solves = true; sizes = true; lengths = is_matrix x n n; list = true; numbers = true }

-- "solve with the identity"
unfoldable pub inverting : Column → List ℕ → Record → Column → Call (Unit {0}) Column
inverting factors store r x =
    tested (held_refusal factors store r (inverse_asks x r.rows)) (leaving x)
    (seventh (solved_by solved factors store r (identity r.rows)))
