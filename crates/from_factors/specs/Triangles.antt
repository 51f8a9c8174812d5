-- Document 01, "Elimination", last lines: L is m by min(m, n) with ones on and +0.0 above the diagonal, U is min(m, n) by n with +0.0 below.
use Rattle.std.specs.Prelude.{true, false, List, ◌∷◌, ◌++◌, ℕ, ◌+◌, ◌-◌, min, take, drop}
use Rattle.numbers.specs.Each.{list_of}
use Rattle.numbers.specs.Numbers.{one64}
use Rattle.numbers.specs.Column.{Column, zeros}
use Rattle.store.specs.Columns.{columns, flat, is_matrix}
use Rattle.store.specs.Steps.{Matrix, column}
use Rattle.refusals.specs.Outcome.{done, tested, Call, leaving}
use Rattle.factors.specs.declared.Record.{Record}
use Rattle.factors.specs.declared.Asks.{Asks}
use Rattle.factors.specs.Held.{held_refusal}

-- column j of L, and of U with k rows, c being the packed column
unfoldable pub lower_of : ℕ → Column → Column
lower_of j c = zeros j ++ one64 ∷ drop (j + 1) c

unfoldable pub upper_of : ℕ → ℕ → Column → Column
upper_of k j c = take (min k (j + 1)) c ++ zeros (k - (j + 1))

-- L has k columns, U k rows and n columns
unfoldable pub lower_factor : ℕ → Matrix → Matrix
lower_factor k cs = list_of k (λ j. lower_of j (column cs j))

unfoldable pub upper_factor : ℕ → ℕ → Matrix → Matrix
upper_factor k n cs = list_of n (λ j. upper_of k j (column cs j))

-- what a call asks that reads a triangle into a slice of k rows and n columns
abbrev pub read_asks : Column → ℕ → ℕ → Asks
read_asks out k n = record { square = false; solves = false; sizes = true; lengths = is_matrix out k n; list = true; numbers = true }

-- the two calls: what they answer and leave, on every input
unfoldable pub lowering : Column → List ℕ → Record → Column → Call (Unit {0}) Column
lowering factors store r out =
    let k = min r.rows r.columns in
    tested (held_refusal factors store r (read_asks out r.rows k)) (leaving out)
    (record { answer = done tt; left = flat (lower_factor k (columns r.rows r.columns factors)) })

unfoldable pub uppering : Column → List ℕ → Record → Column → Call (Unit {0}) Column
uppering factors store r out =
    let k = min r.rows r.columns in
    tested (held_refusal factors store r (read_asks out k r.columns)) (leaving out)
    (record { answer = done tt; left = flat (upper_factor k r.columns (columns r.rows r.columns factors)) })
