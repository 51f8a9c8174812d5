-- Wrong programs for the two explanations (document 02, request 8), each shut out at an input that the call can get: one that tells the last result that is
-- not finite instead of the first; one that counts rows as they stood before the exchange; one that stores the multipliers after the other columns; one that
-- stores the quotient after the rows above it; and one that tells the same always. By computation. Assumes nothing.
use mathlib.Core.Path.{ap}
use mathlib.Core.Bool.{true, false, cond}
use mathlib.Core.List.{List, [], ◌∷◌, ◌++◌}
use mathlib.Core.Option.{Option, none, some, map}
use Prim.Native.Nat.{ℕ, zero, suc, ◌+◌, ◌-◌, ◌*◌, min}
use native.Mathlib.Omega.{arith}
use lib.Dec.{eqb}
use lib.IntN.{pos, negsuc}
use lib.ListN.{length, take, drop, replicate}
use lib.Ieee.{fin}
use lib.Ieee.Scale.{finite}
use Rattle.numbers.specs.Each.{turns_from}
use Rattle.numbers.specs.Numbers.{is_zero, one64}
use Rattle.numbers.specs.Column.{Column, entry, zeros}
use Rattle.min_max.specs.Pivot.{pivot_row}
use Rattle.store.specs.Columns.{columns}
use Rattle.store.specs.Steps.{Matrix, column}
use Rattle.refusals.specs.Outcome.{tested}
use Rattle.refusals.proofs.Strength.{ShutsOut, shut_out, Strong, strong}
use Rattle.triangular_passes.specs.declared.Pass.TheVariants.{Upper, GivenDiagonal}
use Rattle.triangular_passes.specs.Triangular.{solved_from}
use Rattle.factors.specs.Factors.{Factors, store_of, record_of}
use Rattle.factors.specs.Held.{held_refusal}
use Rattle.elimination.specs.Elimination.{step, unfactored}
use Rattle.elimination.specs.Reason.{Place}
use Rattle.lu.specs.Factoring.{factoring_refusal}
use Rattle.from_factors.specs.Solving.{solve_asks}
use Rattle.from_factors.specs.Reason.{swapped_sides, lower_sides}
use Rattle.from_factors.proofs.Figures.{Computes, n0, n1, n2}
use Rattle.why.specs.Results.{Result, first_overflow, rows_from, in_turn}
use Rattle.why.specs.Factoring.{place_at, column_results, step_results, steps_results, factoring_results}
use Rattle.why.specs.Solving.{Spot, spot_at, lower_results, turns_results, pass_results, solving_results}
use Rattle.why.specs.Why.{Told, told_number, overflowed, explain_factoring, refused_solving, explain_solving}

-- the place of the last result that is not finite
unfoldable pub last_overflow : {Where : Type 0} → List (Result Where) → Option Where
last_overflow [] = none
last_overflow (x ∷ l) = keep (last_overflow l) (cond (finite x.value) none (some x.place))
  where
    keep : {W : Type 0} → Option W → Option W → Option W
    keep none o = o
    keep (some p) o = some p

-- ---- factoring: the sizes and the matrix; the slices that it is lent fit
abbrev Given : Type 0
Given = ℕ × (ℕ × Column)

abbrev out : Given → Column
out x = zeros (x.1.0 * x.0)

abbrev explains : Given → Told Place
explains x = explain_factoring x.1.1 x.0 x.1.0 (out x) (replicate 128 0)

-- a program that is right but for the place
abbrev tells_by : (ℕ → Matrix → Option Place) → Given → Told Place
tells_by place x =
    tested (factoring_refusal x.1.1 x.0 x.1.0 (out x) (replicate 128 0)) told_number
    (overflowed (place x.0 (columns x.0 x.1.0 x.1.1)))

-- row r as it stood before rows i and p were exchanged
abbrev row_before : ℕ → ℕ → ℕ → ℕ
row_before i p r = cond (eqb r p) i (cond (eqb r i) p r)

abbrev as_before : Matrix → Place → Place
as_before a p =
    let c = column (turns_from step 0 p.step (unfactored a)).columns p.step in
    place_at p.step p.column (row_before p.step (pivot_row p.step c) p.row)

-- the columns to the right before the multipliers
abbrev other_step : ℕ → Factors → List (Result Place)
other_step i f =
    let c = column f.columns i in
    let made = (step i f).columns in
    cond (is_zero (entry c (pivot_row i c))) [] (in_turn (column_results i) (i + 1) (drop (i + 1) made) ++ column_results i i (column made i))

unfoldable pub other_steps : ℕ → ℕ → Factors → List (Result Place)
other_steps i zero f = []
other_steps i (suc steps) f = other_step i f ++ other_steps (i + 1) steps (step i f)

abbrev last_stored : Given → Told Place
last_stored = tells_by (λ m a. last_overflow (factoring_results m a))

abbrev rows_before : Given → Told Place
rows_before = tells_by (λ m a. map (as_before a) (first_overflow (factoring_results m a)))

abbrev multipliers_last : Given → Told Place
multipliers_last = tells_by (λ m a. first_overflow (other_steps 0 (min m (length a)) (unfactored a)))

-- what tells two explanations apart: the column and the row
abbrev placed : Told Place → ℕ
placed t = digits t.place
  where
    digits : Option Place → ℕ
    digits none = 0
    digits (some p) = 10 * p.column + p.row

-- columns (2^-1024, 0) and (1, 1): the reciprocal is an infinity, so that the multiplier is no number, and neither is what the next column gets by it
abbrev small : Given
small = (2, (2, fin false 1 (negsuc 1023) ∷ n0 ∷ n1 ∷ n1 ∷ []))

-- columns (1, 2, 0) and (1.5, -1.75, 0) times 2^1023: the sum of row 0 overflows, which stands in row 1 after the exchange
abbrev exchanging : Given
exchanging = (3, (2, n1 ∷ n2 ∷ n0 ∷ fin false 3 (pos 1022) ∷ fin true 7 (pos 1021) ∷ n0 ∷ []))

pub why_factor : Strong explains (ShutsOut explains last_stored × ShutsOut explains rows_before × ShutsOut explains multipliers_last)
unfolding Computes first_overflow rows_from in_turn step_results steps_results factoring_results overflowed explain_factoring last_overflow other_steps
why_factor =
    strong explains (1, (1, n1 ∷ [])) small (λ d. omega (arith, ap (λ (t : Told Place). t.number) d)) (
      shut_out explains last_stored small (λ d. omega (arith, ap placed d)),
      shut_out explains rows_before exchanging (λ d. omega (arith, ap placed d)),
      shut_out explains multipliers_last small (λ d. omega (arith, ap placed d)),
    )

-- ---- a solve by factors of n rows without a swap: n, the factors, the number of right-hand columns, and these
abbrev Sides : Type 0
Sides = ℕ × (Column × (ℕ × Column))

abbrev solve_refusal : Sides → ℕ
solve_refusal x = held_refusal x.1.0 (store_of []) (record_of x.0 x.0 0 0) (solve_asks x.1.1.1 x.0 x.1.1.0 (zeros (x.1.1.0 * x.0)))

abbrev tells : Sides → Told Spot
tells x = explain_solving x.1.0 (store_of []) (record_of x.0 x.0 0 0) x.1.1.1 x.1.1.0 (zeros (x.1.1.0 * x.0))

-- a program that is right but for the place
abbrev solves_by : (ℕ → Matrix → Matrix → Option Spot) → Sides → Told Spot
solves_by spot x =
    tested (solve_refusal x) (refused_solving x.1.0 x.0)
    (overflowed (spot x.0 (columns x.0 x.0 x.1.0) (columns x.0 x.1.1.0 x.1.1.1)))

-- the rows above it before row i's quotient
abbrev quotient_last : ℕ → ℕ → ℕ → Column → List (Result Spot)
quotient_last n j k c =
    let i = n - 1 - k in
    rows_from (spot_at 2 j) 0 (take i c) ++ record { place = spot_at 2 j i; value = entry c i } ∷ []

abbrev quotients_last : Sides → Told Spot
quotients_last = solves_by (λ n cs bs. first_overflow
    (pass_results (lower_results n) (GivenDiagonal one64) n cs (swapped_sides [] bs) ++ pass_results (quotient_last n) Upper n cs (lower_sides n cs [] bs)))

abbrev last_solved : Sides → Told Spot
last_solved = solves_by (λ n cs bs. last_overflow (solving_results n cs [] bs))

abbrev spotted : Told Spot → ℕ
spotted t = digits t.place
  where
    digits : Option Spot → ℕ
    digits none = 0
    digits (some p) = 10 * p.column + p.row

-- columns (1, 0) and (1, 2^-1000); the sides (1, 1) and (1, 2^100): row 1 of the second is divided by 2^-1000, and row 0 spoilt by it
abbrev divided : Sides
divided = (2, (n1 ∷ n0 ∷ n1 ∷ fin false 1 (negsuc 999) ∷ [], (2, n1 ∷ n1 ∷ n1 ∷ fin false 1 (pos 100) ∷ [])))

pub why_solve : Strong tells (ShutsOut tells quotients_last × ShutsOut tells last_solved)
unfolding Computes first_overflow rows_from in_turn turns_results solving_results overflowed refused_solving explain_solving last_overflow solved_from
why_solve =
    strong tells (1, (n1 ∷ [], (1, n1 ∷ []))) divided (λ d. omega (arith, ap (λ (t : Told Spot). t.number) d)) (
      shut_out tells quotients_last divided (λ d. omega (arith, ap spotted d)),
      shut_out tells last_solved divided (λ d. omega (arith, ap spotted d)),
    )
