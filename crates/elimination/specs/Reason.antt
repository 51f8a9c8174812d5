-- Document 02, request 8, for overflow in factoring: "step, column and row of the first stored result that isn't finite, in the crate's order: step, then
-- column, then row, rows counted where they stood at that moment". Step i stores each number below row i in the columns from i on once, and moves the
-- others by its swap alone; so the first number, column by column, that is not finite after the first step that leaves one is the first that was stored.
use Rattle.std.specs.Prelude.{Bool, ℕ, min, length}
use Rattle.std.proofs.Math.Option.{Option, none, some}
use Rattle.numbers.specs.First.{first_turn}
use Rattle.finite.specs.Finite.{all_finite}
use Rattle.store.specs.First.{column_of, row_of}
use Rattle.store.specs.Columns.{flat}
use Rattle.store.specs.Steps.{Matrix}
use Rattle.factors.specs.Factors.{Factors}
use Rattle.elimination.specs.Elimination.{step, unfactored}

-- the step that stored a number, and where it then stands
pub record Place : Type 0 where
  pub step : ℕ
  pub column : ℕ
  pub row : ℕ

-- every number of the columns is finite
abbrev pub finite_in : Factors → Bool
finite_in f = all_finite (flat f.columns)

-- where that number stands which is first, column by column, of those that are not finite
abbrev pub place_of : ℕ → Factors → Place
place_of i f = record { step = i; column = column_of f.columns; row = row_of f.columns }

-- the first stored result that is not finite, the matrix having m rows; `none` where every result is
unfoldable pub first_reason : ℕ → Matrix → Option Place
first_reason m a = first_turn finite_in (λ i f. some (place_of i f)) none step 0 (min m (length a)) (unfactored a)
