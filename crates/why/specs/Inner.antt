-- What the promises of the inner functions speak of: one pass of a solve, turn by turn.
use Rattle.std.specs.Prelude.{◌≡◌, ℕ, ◌≤◌, ◌<◌}
use Rattle.std.proofs.Math.Option.{Option, none, some}
use Rattle.numbers.specs.Column.{Column}
use Rattle.store.specs.Steps.{Matrix}
use Rattle.triangular_passes.specs.declared.Pass.{Pass}
use Rattle.triangular_passes.specs.Triangular.{solved_column, solved_columns}
use Rattle.solve.specs.Reason.{Stored, first_in_column, first_in_pass}
use Rattle.why.specs.declared.Found.{Found}

-- a result that turn k of a pass stored in row r of right-hand column j
abbrev pub stored_at : Pass → ℕ → ℕ → ℕ → Stored
stored_at pass j k r = record { pass = pass; column = j; turn = k; row = r }

-- what a pass on one right-hand column answers: the row of the first result that is not finite; n where there is none, and then the column is solved
pub record Turned (pass : Pass) (n : ℕ) (cs : Matrix) (b : Column) (row : ℕ) (b' : Column) : Type 0 where
  pub fine : n ≤ row → (first_in_column pass n cs 0 b ≡ none) × (b' ≡ solved_column pass n cs b)
  pub spoilt : row < n → (k : ℕ) × (first_in_column pass n cs 0 b ≡ some (stored_at pass 0 k row))

-- and on all k of them
pub record Passed (pass : Pass) (n k : ℕ) (cs bs : Matrix) (found : Found) (bs' : Matrix) : Type 0 where
  pub fine : k ≤ found.column → (first_in_pass pass n cs bs ≡ none) × (bs' ≡ solved_columns pass n cs bs)
  pub spoilt : found.column < k
      → (turn : ℕ) × (first_in_pass pass n cs bs ≡ some (stored_at pass found.column turn found.row))

-- the column that is told; n where none is
abbrev pub column_or : ℕ → Option ℕ → ℕ
column_or n none = n
column_or n (some j) = j
