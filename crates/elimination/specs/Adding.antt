-- Document 01, "Adding a column", on the columns of the factors, over all floats, finite or not.
use Rattle.std.specs.Prelude.{cond, [], ◌∷◌, ◌++◌, ℕ, min, ltb, length}
use Rattle.numbers.specs.Each.{turns_from}
use Rattle.numbers.specs.Numbers.{is_zero}
use Rattle.numbers.specs.Column.{Column, entry}
use Rattle.store.specs.Steps.{Matrix, column}
use Rattle.one_step.specs.OneStep.{step_column}
use Rattle.exchanges.specs.Permute.{permute}
use Rattle.factors.specs.Factors.{Factors}
use Rattle.elimination.specs.Elimination.{step}

-- one more column
abbrev pub widen : Factors → Column → Factors
widen f x = record { columns = f.columns ++ x ∷ []; swaps = f.swaps }

-- step 5 by column i of the factors, where its packed diagonal is not zero
unfoldable pub update : Matrix → ℕ → Column → Column
update cs i c =
    let u = step_column i (column cs i) c in
    cond (is_zero (entry (column cs i) i)) c u

-- "Permute by the list; for each i below min(m, n) whose packed diagonal is not zero, apply step 5"
unfoldable pub reduced : ℕ → Factors → Column → Column
reduced m f c = turns_from (update f.columns) 0 (min m (length f.columns)) (permute f.swaps c)

-- "If n is below m, find the pivot from row n, and form the swap and multipliers as above": step n of the elimination.
unfoldable pub add_column : ℕ → Factors → Column → Factors
add_column m f c =
    let n = length f.columns in
    let w = widen f (reduced m f c) in
    let g = step n w in
    cond (ltb n m) g w
