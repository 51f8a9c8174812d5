-- Document 02, request 3: the number of columns whose pivot was a toss-up, of an elimination and of one column that is added.
use Rattle.std.specs.Prelude.{cond, ℕ, zero, suc, ◌+◌, min, length}
use Rattle.numbers.specs.Column.{Column}
use Rattle.min_max.specs.TossUp.{toss_up}
use Rattle.store.specs.Steps.{Matrix, column}
use Rattle.factors.specs.Factors.{Factors}
use Rattle.elimination.specs.Elimination.{step, unfactored}
use Rattle.elimination.specs.Adding.{reduced}

-- 1 where the pivot that column i has from row i on was a toss-up, else 0; a column past the last row counts 0
unfoldable pub toss_at : ℕ → Column → ℕ
toss_at i c = cond (toss_up i c) 1 0

-- those of the steps i to i + steps - 1
unfoldable pub toss_from : ℕ → ℕ → Factors → ℕ
toss_from i zero f = 0
toss_from i (suc steps) f = toss_at i (column f.columns i) + toss_from (i + 1) steps (step i f)

-- "the number of columns where that was so", of a matrix with m rows
unfoldable pub toss_ups : ℕ → Matrix → ℕ
toss_ups m a = toss_from 0 (min m (length a)) (unfactored a)

-- "adding a column passes on 0 or 1 for its own": the raw column c added to the factors
unfoldable pub own_toss_up : ℕ → Factors → Column → ℕ
own_toss_up m f c = toss_at (length f.columns) (reduced m f c)
