-- What the examples of calls on factors share: numbers, what has to unfold for the calls to compute, a fresh factoring; and the outcomes of the inverse and of
-- the transposed solve at small inputs, by computation. Document 01's table itself stands in figures/specs/Table. Assumes nothing.
use mathlib.Core.Path.{◌≡◌, refl}
use mathlib.Core.Bool.{false}
use mathlib.Core.List.{[], ◌∷◌}
use Prim.Native.Nat.{ℕ, ◌*◌}
use lib.ListN.{replicate}
use lib.IntN.{pos, negsuc}
use lib.Ieee.{Float, fin, add, sub, mul, div, neg, eq, lt, of_bits}
use Rattle.numbers.specs.Each.{each_from, turns_from, list_of}
use Rattle.numbers.specs.Numbers.{is_zero, magnitude}
use Rattle.numbers.specs.Column.{Column}
use Rattle.min_max.specs.Pivot.{search_from, pivot_row}
use Rattle.blas.specs.Blas.{exchanged, scale_from, axpy_from}
use Rattle.finite.specs.Finite.{all_finite}
use Rattle.store.specs.Columns.{columns, flat, is_matrix, on_columns}
use Rattle.store.specs.Steps.{swap_in_all}
use Rattle.one_step.specs.OneStep.{step_column, step_columns, eliminated}
use Rattle.dead_columns.specs.Dead.{zero_count, dead_from, dead_in, dead_of}
use Rattle.refusals.specs.Outcome.{done, first_holding, tested, Call}
use Rattle.refusals.specs.Refusals.{outside, seventh}
use Rattle.swap_list.specs.SwapList.{pairs_of, holds, good_pair, good_pairs, good_list}
use Rattle.exchanges.specs.Permute.{permuted_by}
use Rattle.permutation_sequence.specs.Calls.{sign_of}
use Rattle.blas.specs.Dot.{add_product, add_block, eight_sums, pair_sums, dot_of}
use Rattle.triangular_passes.specs.Triangular.{upper_row, kept_row, transposed_upper_row, transposed_unit_lower_row, solved_row, turn, solved_column}
use Rattle.factors.specs.declared.Record.{Record}
use Rattle.factors.specs.Factors.{record_swap, numbers_of, store_of, record_of, written, Factoring, record_after}
use Rattle.factors.specs.Held.{held_refusal}
use Rattle.elimination.specs.Elimination.{multipliers, scaled, pivot_step, step, eliminate}
use Rattle.lu.specs.Factoring.{factoring_refusal, settled, factoring}
use Rattle.elimination.specs.Adding.{update, reduced, add_column}
use Rattle.adding.specs.Adding.{adding_refusal, adding_settled, adding}
use Rattle.from_factors.specs.Solving.{solved, tr_solved, solved_all, solving, tr_solving, unit_column, inverting}
use Rattle.from_factors.specs.Determinant.{times_diagonal, diagonal_product, number_or7, producing, determining, inverse_test}

-- a name for all that has to unfold for the calls to compute
unfoldable pub Computes : Type 0
unfolding add sub mul div neg eq lt of_bits each_from turns_from list_of is_zero magnitude search_from pivot_row exchanged scale_from axpy_from all_finite
    columns flat
    is_matrix on_columns swap_in_all step_column step_columns eliminated first_holding outside seventh tested record_after pairs_of holds good_pair
    good_pairs good_list
    permuted_by sign_of upper_row kept_row solved_row turn solved_column zero_count dead_from dead_in dead_of record_swap multipliers scaled pivot_step step
    eliminate numbers_of
    store_of factoring_refusal settled factoring held_refusal solved solved_all solving unit_column inverting times_diagonal diagonal_product number_or7
    producing
    determining inverse_test update reduced add_column adding_refusal written adding_settled adding
Computes = Unit {0}

-- ---- numbers, each written in its one way: an odd number times a power of two
abbrev pub n0 : Float
n0 = fin false 0 (pos 0)

abbrev pub n1 : Float
n1 = fin false 1 (pos 0)

abbrev pub n2 : Float
n2 = fin false 1 (pos 1)

abbrev pub n4 : Float
n4 = fin false 1 (pos 2)

abbrev pub n5 : Float
n5 = fin false 5 (pos 0)

abbrev pub n8 : Float
n8 = fin false 1 (pos 3)

-- 2 to the power -(k + 1)
abbrev pub small : ℕ → Float
small k = fin false 1 (negsuc k)

-- ---- what a call gives

-- n ones: what a slice holds before, so that +0.0 and what stays as it was are seen
abbrev pub ones : ℕ → Column
ones n = replicate n n1

-- a fresh factoring of m by n numbers
abbrev pub fresh : ℕ → ℕ → Column → Factoring
fresh m n a = factoring a m n (ones (n * m)) (replicate 128 1)

-- its record; one of no pairs where it is refused
abbrev pub told_in : ℕ → ℕ → Factoring → Record
told_in m n o = record_after (record_of m n 0 0) o.answer

-- done, with what the slice holds
abbrev pub leaves : Column → Call (Unit {0}) Column
leaves x = record { answer = done tt; left = x }

-- the inverse of the first line's matrix: columns (0, 1) and (0.5, 0)
pub inverse_figure : let o = fresh 2 2 (n0 ∷ n2 ∷ n1 ∷ n0 ∷ []) in
    inverting o.left.factors o.left.store (told_in 2 2 o) (ones 4) ≡ leaves (n0 ∷ n1 ∷ small 0 ∷ n0 ∷ [])
unfolding Computes
inverse_figure = refl

-- ---- the transposed solve (document 02, request 5)

-- a name for what has to unfold besides
unfoldable pub Transposes : Type 0
unfolding Computes add_product add_block eight_sums pair_sums dot_of transposed_upper_row transposed_unit_lower_row tr_solved tr_solving
Transposes = Unit {0}

-- rows (2, 0) and (2, 4), packed as U (2, 4) with the multiplier 1; transposed, the right-hand side (4, 8) gives 0 and 2
pub transposed_figure : tr_solving (n2 ∷ n1 ∷ n0 ∷ n4 ∷ []) (store_of []) (record_of 2 2 0 0) (n4 ∷ n8 ∷ []) 1 (ones 2) ≡ leaves (n0 ∷ n2 ∷ [])
unfolding Transposes
transposed_figure = refl

-- the swaps (0, 1) and (1, 2) alone, in reverse: 1, 2, 4 become 4, 1, 2; in order they would be 2, 4, 1
pub reverse_figure : let unit = n1 ∷ n0 ∷ n0 ∷ n0 ∷ n1 ∷ n0 ∷ n0 ∷ n0 ∷ n1 ∷ [] in
    tr_solving unit (store_of ((0, 1) ∷ (1, 2) ∷ [])) (record_of 3 3 2 0) (n1 ∷ n2 ∷ n4 ∷ []) 1 (ones 3) ≡ leaves (n4 ∷ n1 ∷ n2 ∷ [])
unfolding Transposes
reverse_figure = refl
