-- Two outcomes of the triangular solves at small inputs: where the corrected diagonal divides and the Rust's way does not, and that one right-hand column can
-- refuse a call for all. By computation. Assumes nothing.
use mathlib.Core.Path.{◌≡◌, refl}
use mathlib.Core.Bool.{false}
use mathlib.Core.List.{[], ◌∷◌}
use lib.IntN.{pos, negsuc}
use lib.Ieee.{Float, fin, add, sub, mul, div, neg, eq, of_bits}
use Rattle.numbers.specs.Each.{each_from, turns_from}
use Rattle.numbers.specs.Numbers.{is_zero}
use Rattle.blas.specs.Blas.{axpy_from}
use Rattle.finite.specs.Finite.{all_finite}
use Rattle.store.specs.Columns.{columns, flat, is_matrix, on_columns}
use Rattle.dead_columns.specs.Dead.{zero_count, dead_from, dead_in, dead_of}
use Rattle.refusals.specs.Outcome.{done, refused, first_holding, tested}
use Rattle.refusals.specs.Refusals.{outside, seventh}
use Rattle.triangular_passes.specs.declared.Pass.TheVariants.{Lower, GivenDiagonal, CorrectedDiagonal}
use Rattle.triangular_passes.specs.Triangular.{lower_row, kept_row, solved_row, turn, solved_column, solved_from, solved_in_place}
use Rattle.solve.specs.Calls.{sizes_outside, lengths_fit, numbers_finite, zero_on_diagonal, refusal_of, solving}

-- names for all that has to unfold: for sums, for matrices, for a solved column, and for the call
Sums : Type 0
unfolding add sub mul div neg eq of_bits each_from turns_from is_zero axpy_from all_finite
Sums = Unit {0}

Matrices : Type 0
unfolding Sums columns flat is_matrix on_columns
Matrices = Unit {0}

Solves : Type 0
unfolding Matrices lower_row kept_row solved_row turn solved_column solved_from solved_in_place
Solves = Unit {0}

Computes : Type 0
unfolding Solves first_holding outside seventh tested sizes_outside lengths_fit numbers_finite zero_count dead_from dead_in dead_of zero_on_diagonal
    refusal_of solving
Computes = Unit {0}

-- ---- numbers, each written in its one way: an odd number times a power of two
abbrev n0 : Float
n0 = fin false 0 (pos 0)

abbrev n1 : Float
n1 = fin false 1 (pos 0)

abbrev tiny : Float
tiny = fin false 1 (negsuc 999)

abbrev large : Float
large = fin false 1 (pos 100)

-- 1 by 1, given diagonal 2^-1000, b 2^100: the Rust's way forms no quotient and is accepted; corrected, the division overflows
pub division_overflows : (solving (GivenDiagonal tiny) (n0 ∷ []) 1 (large ∷ []) 1 (n0 ∷ []) ≡ record { answer = done tt; left = large ∷ [] })
    × (solving (CorrectedDiagonal tiny) (n0 ∷ []) 1 (large ∷ []) 1 (n1 ∷ []) ≡ record { answer = refused 7; left = n0 ∷ [] })
unfolding Computes
division_overflows = (refl, refl)

-- 1 by 1, 2^-1000: the right-hand columns 1 and 1 are accepted, and 1 and 2^100 are refused with 7
pub another_refuses : ((solving Lower (tiny ∷ []) 1 (n1 ∷ n1 ∷ []) 2 (n0 ∷ n0 ∷ [])).answer ≡ done tt)
    × ((solving Lower (tiny ∷ []) 1 (n1 ∷ large ∷ []) 2 (n0 ∷ n0 ∷ [])).answer ≡ refused 7)
unfolding Computes
another_refuses = (refl, refl)
