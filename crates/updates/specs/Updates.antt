-- Updates of columns by columns left of them, in the order in which the code makes them: one column by one, or all columns right of four steps.
use Rattle.std.specs.Prelude.{Bool, cond, not, ◌||◌, ℕ, ◌+◌, ◌-◌, min, leb, set}
use Rattle.numbers.specs.Each.{each_from, turns_from}
use Rattle.numbers.specs.Numbers.{is_zero}
use Rattle.numbers.specs.Column.{entry}
use Rattle.store.specs.Steps.{Matrix, column}
use Rattle.elimination.specs.Adding.{update}

-- column n updated by column i, the others as they were
unfoldable pub updated_at : ℕ → ℕ → Matrix → Matrix
updated_at n i cs = set cs n (update cs i (column cs n))

-- no zero on the packed diagonal of the columns i to i + 3
unfoldable pub live : ℕ → Matrix → Bool
live i cs =
    let dead : ℕ → Bool = λ k. is_zero (entry (column cs k) k) in
    not ((dead i || dead (i + 1)) || (dead (i + 2) || dead (i + 3)))

-- the updates by the k columns from column i on, on every column from column `from` on
unfoldable pub after_panel : ℕ → ℕ → ℕ → Matrix → Matrix
after_panel i k from cs = each_from (λ j c. turns_from (update cs) i k c) from cs

-- ---- the calls: the same by the columns from i up to but not `to`, where these lie left of column `from` and m rows have them
unfoldable pub updated_from : ℕ → ℕ → ℕ → ℕ → Matrix → Matrix
updated_from m i to from cs = cond (leb to (min m from)) (after_panel i (to - i) from cs) cs
