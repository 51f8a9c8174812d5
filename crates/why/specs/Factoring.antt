-- Document 02, request 8, for factoring: what the elimination stores, "in the crate's order: step, then column, then row, rows counted where they stood at
-- that moment".
use Rattle.std.specs.Prelude.{cond, List, [], ◌++◌, ℕ, zero, suc, ◌+◌, min, length, drop}
use Rattle.numbers.specs.Numbers.{is_zero}
use Rattle.numbers.specs.Column.{Column, entry}
use Rattle.min_max.specs.Pivot.{pivot_row}
use Rattle.store.specs.Steps.{Matrix, column}
use Rattle.factors.specs.Factors.{Factors}
use Rattle.elimination.specs.Elimination.{step, unfactored}
use Rattle.elimination.specs.Reason.{Place}
use Rattle.why.specs.Results.{Result, rows_from, in_turn}

-- the place in row r of column j, stored by step i
abbrev pub place_at : ℕ → ℕ → ℕ → Place
place_at i j r = record { step = i; column = j; row = r }

-- what step i stores in column j, which is c after it: the rows below i
abbrev pub column_results : ℕ → ℕ → Column → List (Result Place)
column_results i j c = rows_from (place_at i j) (i + 1) (drop (i + 1) c)

-- What step i stores: column i's multipliers, then the numbers of each column to the right. A skipped step stores nothing.
unfoldable pub step_results : ℕ → Factors → List (Result Place)
step_results i f =
    let c = column f.columns i in
    let stored = in_turn (column_results i) i (drop i (step i f).columns) in
    cond (is_zero (entry c (pivot_row i c))) [] stored

-- so many steps, from step i on
unfoldable pub steps_results : ℕ → ℕ → Factors → List (Result Place)
steps_results i zero f = []
steps_results i (suc steps) f = step_results i f ++ steps_results (i + 1) steps (step i f)

-- the elimination of a matrix with m rows
unfoldable pub factoring_results : ℕ → Matrix → List (Result Place)
factoring_results m a = steps_results 0 (min m (length a)) (unfactored a)
