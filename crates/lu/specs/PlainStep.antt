-- Document 01, "Elimination": one step by itself, on the columns alone; what document 02, request 8, goes by.
use Rattle.std.specs.Prelude.{cond, ℕ, min, ltb}
use Rattle.numbers.specs.Column.{Column}
use Rattle.store.specs.Columns.{on_columns}
use Rattle.store.specs.Steps.{Matrix}
use Rattle.elimination.specs.Elimination.{step, unfactored}

-- the columns that step i leaves
abbrev pub step_on : ℕ → Matrix → Matrix
step_on i cs = (step i (unfactored cs)).columns

-- the m by n matrix that s holds after its step i; a slice that holds none, or a matrix without that step, stays as it was
unfoldable pub plain_step : Column → ℕ → ℕ → ℕ → Column
plain_step s m n i = cond (ltb i (min m n)) (on_columns m n (step_on i) s) s
