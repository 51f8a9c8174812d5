-- Document 02, request 10: "a determinant that does not vanish", and what the call answers on every input.
use Rattle.std.specs.Prelude.{cond, List, ℕ, pos}
use Rattle.std.specs.Float.{binary64}
use Rattle.std.specs.Float.Ieee.{mul}
use Rattle.numbers.specs.Each.{turns_from}
use Rattle.numbers.specs.Numbers.{zero64, one64}
use Rattle.numbers.specs.Column.{Column, entry}
use Rattle.store.specs.Columns.{columns}
use Rattle.store.specs.Steps.{Matrix, column}
use Rattle.refusals.specs.Outcome.{Outcome, done, refused, tested}
use Rattle.permutation_sequence.specs.Calls.{sign_of}
use Rattle.solve.specs.Calls.{zero_on_diagonal}
use Rattle.factors.specs.declared.Record.{Record}
use Rattle.factors.specs.Held.{held_refusal}
use Rattle.from_factors.specs.Determinant.{square_asks}
use Rattle.scaled_determinant.specs.declared.Scaled.{Scaled}
use Rattle.scaled_determinant.specs.Scaled.{scaled, scaled_times}

-- "Start at 1 with exponent 0; take each diagonal"
abbrev pub start : Scaled
start = scaled one64 (pos 0)

unfoldable pub scaled_turn : Matrix → ℕ → Scaled → Scaled
scaled_turn cs i r = scaled_times r (entry (column cs i) i)

unfoldable pub scaled_product : ℕ → Matrix → Scaled
scaled_product n cs = turns_from (scaled_turn cs) 0 n start

-- "The swap count gives the sign"
abbrev pub signed_by : ℕ → Scaled → Scaled
signed_by pairs r = scaled (mul binary64 r.significand (sign_of pairs)) r.exponent

-- "Any zero diagonal gives +0.0 with exponent 0"
abbrev pub vanished : Scaled
vanished = scaled zero64 (pos 0)

unfoldable pub scaled_determinant : Column → ℕ → ℕ → Scaled
scaled_determinant factors n pairs = cond (zero_on_diagonal factors n) vanished (signed_by pairs (scaled_product n (columns n n factors)))

-- "Refusals: 1 to 5 and 9 only": those that the determinant meets before its work
unfoldable pub scaling : Column → List ℕ → Record → Outcome Scaled
scaling factors store r = tested (held_refusal factors store r square_asks) refused (done (scaled_determinant factors r.rows r.pairs))
