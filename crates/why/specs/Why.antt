-- Document 02, request 8: what the two explaining calls answer, on every input. "Bad input is answered by the same number as there"; "no reason" is 0.
use Rattle.std.specs.Prelude.{cond, List, ℕ, eqb, Option as Maybe, Some, None}
use Rattle.std.proofs.Math.Option.{Option, none, some}
use Rattle.numbers.specs.Column.{Column}
use Rattle.store.specs.Columns.{columns}
use Rattle.store.specs.Steps.{Matrix}
use Rattle.refusals.specs.Outcome.{number, tested}
use Rattle.swap_list.specs.SwapList.{pairs_of}
use Rattle.solve.specs.Reason.{lowest_zero}
use Rattle.factors.specs.declared.Record.{Record}
use Rattle.factors.specs.Held.{held_refusal}
use Rattle.elimination.specs.Reason.{Place}
use Rattle.lu.specs.Factoring.{factoring_refusal}
use Rattle.from_factors.specs.Solving.{solve_asks}
use Rattle.why.specs.declared.WhyFactor.{WhyFactor}
use Rattle.why.specs.declared.WhyFactor.TheVariants.{Refused, Overflow}
use Rattle.why.specs.declared.WhySolve.{WhySolve}
use Rattle.why.specs.declared.WhySolve.TheVariants.{Refused as RefusedSolve, Singular, Overflow as OverflowSolve}
use Rattle.why.specs.Results.{Result, first_overflow}
use Rattle.why.specs.Factoring.{place_at, factoring_results}
use Rattle.why.specs.Solving.{Spot, spot_at, solving_results}

-- what an explanation tells: the number of the refusal, 0 for none; for 6 the column, for 7 the place
pub record Told (Where : Type 0) : Type 0 where
  pub number : ℕ
  pub column : Option ℕ
  pub place : Option Where

abbrev pub told_number : {Where : Type 0} → ℕ → Told Where
told_number number = record { number = number; column = none; place = none }

-- refusal 7 with the place of the first result that is not finite, or no reason
unfoldable pub overflowed : {Where : Type 0} → Option Where → Told Where
overflowed none = told_number 0
overflowed (some p) = record { number = 7; column = none; place = some p }

-- ---- factoring

-- what each case of the answer stands for
unfoldable pub told_factor : Maybe WhyFactor → Told Place
told_factor None = told_number 0
told_factor (Some (Refused refusal)) = told_number (number refusal)
told_factor (Some (Overflow i j r)) = overflowed (some (place_at i j r))

unfoldable pub explain_factoring : Column → ℕ → ℕ → Column → List ℕ → Told Place
explain_factoring a m n out store =
    tested (factoring_refusal a m n out store) told_number (overflowed (first_overflow (factoring_results m (columns m n a))))

-- ---- solving

unfoldable pub told_solve : Maybe WhySolve → Told Spot
told_solve None = told_number 0
told_solve (Some (RefusedSolve refusal)) = told_number (number refusal)
told_solve (Some (Singular j)) = record { number = 6; column = some j; place = none }
told_solve (Some (OverflowSolve pass j r)) = overflowed (some (spot_at pass j r))

-- a refusal before the work: "for a singular solve it gives the lowest column with a zero diagonal"
unfoldable pub refused_solving : Column → ℕ → ℕ → Told Spot
refused_solving factors n number =
    record { number = number; column = cond (eqb number 6) (lowest_zero 0 (columns n n factors)) none; place = none }

-- what the solve of right-hand columns by the factors of the record stores
abbrev pub results_of : Column → List ℕ → Record → Matrix → List (Result Spot)
results_of factors store r bs = solving_results r.rows (columns r.rows r.rows factors) (pairs_of r.pairs store) bs

unfoldable pub explain_solving : Column → List ℕ → Record → Column → ℕ → Column → Told Spot
explain_solving factors store r b k x =
    tested (held_refusal factors store r (solve_asks b r.rows k x)) (refused_solving factors r.rows)
    (overflowed (first_overflow (results_of factors store r (columns r.rows k b))))
