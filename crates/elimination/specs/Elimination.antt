-- Document 01, "Elimination", on the columns of a matrix, over all floats, finite or not.
use Rattle.std.specs.Prelude.{cond, [], ℕ, ◌+◌, min, length, set}
use Rattle.std.specs.Float.{binary64}
use Rattle.std.specs.Float.Ieee.{div}
use Rattle.numbers.specs.Each.{turns_from}
use Rattle.numbers.specs.Numbers.{one64, is_zero}
use Rattle.numbers.specs.Column.{Column, entry}
use Rattle.min_max.specs.Pivot.{pivot_row}
use Rattle.blas.specs.Blas.{scale_from}
use Rattle.store.specs.Steps.{Matrix, column, swap_in_all}
use Rattle.one_step.specs.OneStep.{eliminated}
use Rattle.factors.specs.Factors.{Factors, record_swap}

-- step 4: "Each entry below becomes entry times reciprocal, rounded"; the pivot stands in row i
unfoldable pub multipliers : ℕ → Column → Column
multipliers i c = scale_from (i + 1) (div binary64 one64 (entry c i)) c

-- column i with its multipliers
unfoldable pub scaled : ℕ → Matrix → Matrix
scaled i cs = set cs i (multipliers i (column cs i))

-- steps 3, 4 and 5 of step i, p being the pivot row
unfoldable pub pivot_step : ℕ → ℕ → Factors → Factors
pivot_step i p f = record { columns = eliminated i (scaled i (swap_in_all i p f.columns)); swaps = record_swap i p f.swaps }

-- step i: steps 1 and 2, "If that number is zero, skip the step", and the rest
unfoldable pub step : ℕ → Factors → Factors
step i f =
    let c = column f.columns i in
    let p = pivot_row i c in
    let g = pivot_step i p f in
    cond (is_zero (entry c p)) f g

-- a matrix before its first step
abbrev pub unfactored : Matrix → Factors
unfactored a = record { columns = a; swaps = [] }

-- "For i from 0 to min(m, n) - 1", the matrix having m rows
unfoldable pub eliminate : ℕ → Matrix → Factors
eliminate m a = turns_from step 0 (min m (length a)) (unfactored a)
