-- Document 01, "Solving": the determinant, and the invertible test; and what the two calls answer on every input.
use Rattle.std.specs.Prelude.{Bool, true, false, cond, List, ℕ, eqb, Float}
use Rattle.std.specs.Float.{binary64}
use Rattle.std.specs.Float.Ieee.{mul}
use Rattle.std.specs.Float.Ieee.Scale.{finite}
use Rattle.numbers.specs.Each.{turns_from}
use Rattle.numbers.specs.Numbers.{one64}
use Rattle.numbers.specs.Column.{Column, entry}
use Rattle.store.specs.Columns.{columns}
use Rattle.store.specs.Steps.{Matrix, column}
use Rattle.refusals.specs.Outcome.{Outcome, done, refused, tested, and_then}
use Rattle.permutation_sequence.specs.Calls.{sign_of}
use Rattle.factors.specs.declared.Record.{Record}
use Rattle.factors.specs.declared.Asks.{Asks}
use Rattle.factors.specs.Held.{held_refusal}

-- "1 times each diagonal in turn"
unfoldable pub times_diagonal : Matrix → ℕ → Float → Float
times_diagonal cs i d = mul binary64 d (entry (column cs i) i)

unfoldable pub diagonal_product : ℕ → Matrix → Float
diagonal_product n cs = turns_from (times_diagonal cs) 0 n one64

-- "then times 1 or -1 by an even or odd number of swaps"
unfoldable pub determinant_of : ℕ → Matrix → ℕ → Float
determinant_of n cs pairs = mul binary64 (diagonal_product n cs) (sign_of pairs)

-- what both calls ask: a square matrix
abbrev pub square_asks : Asks
square_asks = record { square = true; solves = false; sizes = true; lengths = true; list = true; numbers = true }

-- a finite number, else 7
unfoldable pub number_or7 : Float → Outcome Float
number_or7 x = cond (finite x) (done x) (refused 7)

-- "either one number or a refusal with its number": the product of the diagonal without the sign, or the refusal before the work
unfoldable pub producing : Column → List ℕ → Record → Outcome Float
producing factors store r = tested (held_refusal factors store r square_asks) refused (done (diagonal_product r.rows (columns r.rows r.rows factors)))

unfoldable pub determining : Column → List ℕ → Record → Outcome Float
determining factors store r = and_then (producing factors store r) (λ d. number_or7 (mul binary64 d (sign_of r.pairs)))

-- ---- the invertible test: document 02, request 7, "answers from" the number of dead columns, which the tests have compared

unfoldable pub inverse_test : Column → List ℕ → Record → Outcome Bool
inverse_test factors store r = tested (held_refusal factors store r square_asks) refused (done (eqb r.dead 0))
