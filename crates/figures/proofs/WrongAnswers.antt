-- Two wrong programs for each call on factors beside factoring, adding and removing, and for the triangular solves: one that always refuses, one that leaves
-- its slice as it was (for an answer of one number or truth: one that always gives the same). No program that meets the contract does what they do, shown at a
-- concrete input. Assumes nothing.
use mathlib.Core.Path.{◌≡◌, refl, sym, ap, ◌∙◌}
use mathlib.Core.Bool.{Bool, true, false}
use mathlib.Core.List.{List, [], ◌∷◌}
use Prim.Native.Nat.{ℕ}
use native.Mathlib.Omega.{arith}
use lib.Ieee.{Float, add, sub, mul, div, neg, eq, of_bits}
use Rattle.numbers.specs.Each.{each_from, turns_from}
use Rattle.numbers.specs.Numbers.{is_zero}
use Rattle.numbers.specs.Column.{Column, entry, zeros}
use Rattle.blas.specs.Blas.{axpy_from}
use Rattle.finite.specs.Finite.{all_finite}
use Rattle.blas.specs.Dot.{add_product, add_block, eight_sums, pair_sums, dot_of}
use Rattle.store.specs.Columns.{columns, flat, is_matrix, on_columns}
use Rattle.dead_columns.specs.Dead.{zero_count, dead_from, dead_in, dead_of}
use Rattle.refusals.specs.Outcome.{Outcome, done, first_holding, tested, Call}
use Rattle.refusals.specs.Refusals.{outside, seventh}
use Rattle.refusals.proofs.Strength.{OneOutcome, one_outcome, ShutsOut, shut_out, BothShutOut, both, Strong, strong, done_refused}
use Rattle.solve_by_rows.specs.Rows.{pass_of, both_passes}
use Rattle.triangular_passes.specs.declared.Pass.{Pass}
use Rattle.triangular_passes.specs.declared.Pass.TheVariants.{Lower, Upper, GivenDiagonal, TransposedLower, TransposedUpper, CorrectedDiagonal}
use Rattle.triangular_passes.specs.Triangular.{lower_row, upper_row, kept_row, transposed_lower_row, transposed_upper_row, solved_row, turn, solved_column}
use Rattle.triangular_passes.specs.Triangular.{solved_from}
use Rattle.triangular_passes.specs.Triangular.{solved_in_place}
use Rattle.solve.specs.Calls.{sizes_outside, lengths_fit, numbers_finite, zero_on_diagonal, refusal_of, solving}
use Rattle.factors.specs.declared.Asks.{Asks}
use Rattle.factors.specs.declared.Record.{Record}
use Rattle.lu.specs.Factoring.{factoring_answer, factoring}
use Rattle.factors.specs.Factors.{store_of, record_of, numbers_of, Slices}
use Rattle.adding.specs.Adding.{adding_answer, adding}
use Rattle.factors.specs.Held.{held_refusal}
use Rattle.from_factors.specs.Triangles.{lower_of, upper_of, lower_factor, upper_factor, lowering, uppering}
use Rattle.from_factors.specs.Solving.{inverting, solving as lu-solving, tr_solving}
use Rattle.from_factors.specs.Determinant.{diagonal_product, determining, inverse_test}
use Rattle.from_factors.proofs.Figures.{Computes, leaves, n0, n1, n2, n4, n8, ones, transposed_figure}

-- ---- the triangular solves

-- sizes, matrix, right-hand sides, and what the result's slice held
abbrev Sides : Type 0
Sides = ℕ × (ℕ × (Column × (Column × Column)))

abbrev by_sides : Pass → Sides → Call (Unit {0}) Column
by_sides pass x = solving pass x.1.1.0 x.0 x.1.1.1.0 x.1.0 x.1.1.1.1

-- rows (2, 0) and (0, 4), right-hand side (4, 8): 2 and 2, by every pass that reads the diagonal
abbrev diagonal : Sides
diagonal = (2, (1, (n2 ∷ n0 ∷ n0 ∷ n4 ∷ [], (n4 ∷ n8 ∷ [], n0 ∷ n0 ∷ []))))

abbrev SolvesTwo : Pass → Type 0
SolvesTwo pass = by_sides pass diagonal ≡ leaves (n2 ∷ n2 ∷ [])

-- a name for all that has to unfold for a solve to compute
Solves : Type 0
unfolding add sub mul div neg eq of_bits each_from turns_from is_zero axpy_from all_finite add_product add_block eight_sums pair_sums dot_of columns flat
    is_matrix
    on_columns
    first_holding outside seventh tested lower_row upper_row kept_row transposed_lower_row transposed_upper_row solved_row turn solved_column solved_from
    solved_in_place
    sizes_outside lengths_fit numbers_finite zero_count dead_from dead_in dead_of zero_on_diagonal refusal_of solving
Solves = Unit {0}

lower_two : SolvesTwo Lower
unfolding Solves
lower_two = refl

upper_two : SolvesTwo Upper
unfolding Solves
upper_two = refl

transposed_lower_two : SolvesTwo TransposedLower
unfolding Solves
transposed_lower_two = refl

transposed_upper_two : SolvesTwo TransposedUpper
unfolding Solves
transposed_upper_two = refl

-- what a slice held, of its sides; and that 2 and 2 are not the zeros that it held
abbrev held : Sides → Column
held x = x.1.1.1.1

two_not_zero : n2 ∷ n2 ∷ [] ≡ n0 ∷ n0 ∷ [] → ⊥
two_not_zero d = let z : ◌≡◌ {A = ℕ} 0 1 = cc in omega arith

by_diagonal : (pass : Pass) → SolvesTwo pass → BothShutOut (by_sides pass) held
by_diagonal pass e = both (by_sides pass) held diagonal e two_not_zero

pub solve_lower_triangular : BothShutOut (by_sides Lower) held
solve_lower_triangular = by_diagonal Lower lower_two

pub solve_upper_triangular : BothShutOut (by_sides Upper) held
solve_upper_triangular = by_diagonal Upper upper_two

pub tr_solve_lower_triangular : BothShutOut (by_sides TransposedLower) held
tr_solve_lower_triangular = by_diagonal TransposedLower transposed_lower_two

pub tr_solve_upper_triangular : BothShutOut (by_sides TransposedUpper) held
tr_solve_upper_triangular = by_diagonal TransposedUpper transposed_upper_two

-- the given diagonal stands first
pub solve_lower_triangular_with_diag : BothShutOut (λ (x : Float × Sides). by_sides (GivenDiagonal x.0) x.1) (λ x. held x.1)
unfolding Solves
solve_lower_triangular_with_diag =
    both (λ (x : Float × Sides). by_sides (GivenDiagonal x.0) x.1) (λ x. held x.1) (n2, (1, (1, (n0 ∷ [], (n4 ∷ [], n0 ∷ []))))) refl
    (λ d. let z : ◌≡◌ {A = ℕ} 0 1 = cc in omega arith)

two_not_four : n2 ∷ [] ≡ n4 ∷ [] → ⊥
two_not_four d = let z : ◌≡◌ {A = ℕ} 1 2 = cc in omega arith

abbrev by_corrected : Float × Sides → Call (Unit {0}) Column
by_corrected x = by_sides (CorrectedDiagonal x.0) x.1

pub solve_lower_triangular_with_diag_corrected : BothShutOut by_corrected (λ x. held x.1)
unfolding Solves
solve_lower_triangular_with_diag_corrected =
    both by_corrected (λ x. held x.1) (n2, (1, (1, (n0 ∷ [], (n4 ∷ [], n0 ∷ []))))) refl (λ d. let z : ◌≡◌ {A = ℕ} 0 1 = cc in omega arith)

-- and a program that runs the Rust's way: 4, where the corrected call gives 2
pub not_the_undivided : ShutsOut by_corrected (λ x. by_sides (GivenDiagonal x.0) x.1)
unfolding Solves
not_the_undivided =
    shut_out by_corrected (λ x. by_sides (GivenDiagonal x.0) x.1) (n2, (1, (1, (n0 ∷ [], (n4 ∷ [], n0 ∷ [])))))
    (λ d. let e : n2 ∷ [] ≡ n4 ∷ [] = ap (λ (o : Call (Unit {0}) Column). o.left) d in two_not_four e)

-- idle; and the same whatever it is given
abbrev in_place : Pass × (ℕ × (ℕ × (Column × Column))) → Column
in_place x = solved_in_place x.0 x.1.1.1.0 x.1.0 x.1.1.1.1 x.1.1.0

pub solve_in_place : Strong in_place (ShutsOut in_place (λ x. x.1.1.1.1))
unfolding Solves
solve_in_place =
    strong in_place (Lower, (1, (1, (n2 ∷ [], n4 ∷ [])))) (Lower, (1, (1, (n2 ∷ [], n8 ∷ [])))) (λ d. let z : ◌≡◌ {A = ℕ} 0 1 = cc in omega arith)
    (shut_out in_place (λ x. x.1.1.1.1) (Lower, (1, (1, (n2 ∷ [], n4 ∷ [])))) (λ d. let z : ◌≡◌ {A = ℕ} 0 1 = cc in omega arith))

-- the same by rows
abbrev in_rows : Bool × (ℕ × (ℕ × (Column × Column))) → Column
in_rows x = solved_in_place (pass_of x.0) x.1.1.1.0 x.1.0 x.1.1.1.1 x.1.1.0

pub solve_in_place_by_rows : Strong in_rows (ShutsOut in_rows (λ x. x.1.1.1.1))
unfolding Solves
solve_in_place_by_rows =
    strong in_rows (true, (1, (1, (n2 ∷ [], n4 ∷ [])))) (true, (1, (1, (n2 ∷ [], n8 ∷ [])))) (λ d. let z : ◌≡◌ {A = ℕ} 0 1 = cc in omega arith)
    (shut_out in_rows (λ x. x.1.1.1.1) (true, (1, (1, (n2 ∷ [], n4 ∷ [])))) (λ d. let z : ◌≡◌ {A = ℕ} 0 1 = cc in omega arith))

-- both passes over one right-hand column: the same always; and the lower pass left out, which shows below a multiplier that is not zero
abbrev one_column : Column × (ℕ × Column) → Column
one_column x = both_passes x.0 x.1.0 x.1.1

abbrev upper_alone : Column × (ℕ × Column) → Column
upper_alone x = solved_in_place Upper x.0 x.1.0 x.1.1 1

pub solve_one : Strong one_column (ShutsOut one_column upper_alone)
unfolding Solves
solve_one =
    strong one_column (n2 ∷ [], (1, n4 ∷ [])) (n2 ∷ [], (1, n8 ∷ [])) (λ d. let z : ◌≡◌ {A = ℕ} 0 1 = cc in omega arith)
    (shut_out one_column upper_alone (n1 ∷ n1 ∷ n0 ∷ n1 ∷ [], (2, n1 ∷ n2 ∷ [])) (λ d. let z : ◌≡◌ {A = ℕ} 0 1 = cc in omega arith))

-- the same always; and the first entry alone tested
abbrev zero_there : ℕ × Column → Bool
zero_there x = zero_on_diagonal x.1 x.0

pub zero_on_diagonal_not_first_alone : Strong zero_there (ShutsOut zero_there (λ x. is_zero (entry x.1 0)))
unfolding Solves
zero_on_diagonal_not_first_alone =
    strong zero_there (1, n0 ∷ []) (1, n1 ∷ []) (λ d. let z : ◌≡◌ {A = ℕ} 0 1 = cc in omega arith)
    (shut_out zero_there (λ x. is_zero (entry x.1 0)) (2, n1 ∷ n0 ∷ n0 ∷ n0 ∷ []) (λ d. let z : ◌≡◌ {A = ℕ} 0 1 = cc in omega arith))

-- ---- the calls on factors

abbrev Held : Type 0
Held = Record × (Column × List ℕ)

-- rows (2, 0) and (1, 4) packed, without a swap
abbrev packed : Held
packed = (record_of 2 2 0 0, (n2 ∷ n1 ∷ n0 ∷ n4 ∷ [], store_of []))

-- a record of no rows, and the same slices
abbrev no_rows : Held
no_rows = (record_of 0 2 0 0, (n2 ∷ n1 ∷ n0 ∷ n4 ∷ [], store_of []))

abbrev triangle : (Column → List ℕ → Record → Column → Call (Unit {0}) Column) → Held × Column → Call (Unit {0}) Column
triangle call x = call x.0.1.0 x.0.1.1 x.0.0 x.1

-- a name for all that has to unfold for L and U to compute
unfoldable pub Triangles : Type 0
unfolding Computes Solves numbers_of store_of lower_of upper_of lower_factor upper_factor lowering uppering
Triangles = Unit {0}

pub l : BothShutOut (triangle lowering) (λ x. x.1)
unfolding Triangles
l = both (triangle lowering) (λ x. x.1) (packed, zeros 4) refl (λ d. let z : ◌≡◌ {A = ℕ} 0 1 = cc in omega arith)

pub u : BothShutOut (triangle uppering) (λ x. x.1)
unfolding Triangles
u = both (triangle uppering) (λ x. x.1) (packed, zeros 4) refl (λ d. let z : ◌≡◌ {A = ℕ} 0 1 = cc in omega arith)

pub inverse : BothShutOut (triangle inverting) (λ x. x.1)
unfolding Triangles
inverse = both (triangle inverting) (λ x. x.1) ((record_of 1 1 0 0, (n1 ∷ [], store_of [])), zeros 1) refl (λ d. let z : ◌≡◌ {A = ℕ} 0 1 = cc in omega arith)

abbrev loads_by : Held × (ℕ × (Column × Column)) → Call (Unit {0}) Column
loads_by x = lu-solving x.0.1.0 x.0.1.1 x.0.0 x.1.1.0 x.1.0 x.1.1.1

pub solve : BothShutOut loads_by (λ x. x.1.1.1)
unfolding Triangles
solve = both loads_by (λ x. x.1.1.1) (packed, (1, (n4 ∷ n8 ∷ [], ones 2))) refl (λ d. let z : ◌≡◌ {A = ℕ} 0 1 = cc in omega arith)

-- the transposed solve; and a program that solves the system itself gives 2 and 1 where this gives 0 and 2
abbrev tr_loads_by : Held × (ℕ × (Column × Column)) → Call (Unit {0}) Column
tr_loads_by x = tr_solving x.0.1.0 x.0.1.1 x.0.0 x.1.1.0 x.1.0 x.1.1.1

abbrev tr_packed : Held × (ℕ × (Column × Column))
tr_packed = (packed, (1, (n4 ∷ n8 ∷ [], ones 2)))

pub tr_solve : BothShutOut tr_loads_by (λ x. x.1.1.1)
unfolding Triangles
tr_solve =
    both tr_loads_by (λ x. x.1.1.1) tr_packed transposed_figure (λ d. let z : ◌≡◌ {A = ℕ} 0 1 = cc in omega arith)

pub not_the_system : ShutsOut tr_loads_by loads_by
unfolding Triangles
not_the_system =
    shut_out tr_loads_by loads_by tr_packed
    (λ d. let e : n0 ∷ n2 ∷ [] ≡ n2 ∷ n1 ∷ [] = ap (λ (o : Call (Unit {0}) Column). o.left)
    (sym transposed_figure ∙ d) in let z : ◌≡◌ {A = ℕ} 0 1 = cc in omega arith)

-- the same always; and the product without the sign
abbrev determinant_by : Held → Outcome Float
determinant_by x = determining x.1.0 x.1.1 x.0

abbrev unsigned : Held → Outcome Float
unsigned x = done (diagonal_product x.0.rows (columns x.0.rows x.0.rows x.1.0))

pub determinant : Strong determinant_by (ShutsOut determinant_by unsigned)
unfolding Triangles
determinant =
    strong determinant_by packed no_rows done_refused
    (shut_out determinant_by unsigned (record_of 2 2 1 0, (n2 ∷ n0 ∷ n0 ∷ n1 ∷ [], store_of ((0, 1) ∷ []))) (λ d. let z : ◌≡◌ {A = ℕ} 0 1 = cc in omega arith))

-- the same always; and never a refusal
abbrev invertible_by : Held → Outcome Bool
invertible_by x = inverse_test x.1.0 x.1.1 x.0

pub is_invertible : Strong invertible_by ((test : Held → Bool) → ShutsOut invertible_by (λ x. done (test x)))
unfolding Triangles
is_invertible =
    strong invertible_by packed no_rows done_refused
    (λ test. shut_out invertible_by (λ x. done (test x)) no_rows (λ d. done_refused (sym d)))

-- the same always; and the swap store not read
abbrev refusal_by : Asks × Held → ℕ
refusal_by x = held_refusal x.1.1.0 x.1.1.1 x.1.0 x.0

abbrev asks : Asks
asks = record { square = true; solves = false; sizes = true; lengths = true; list = true; numbers = true }

abbrev store_unread : Asks × Held → ℕ
store_unread x = held_refusal x.1.1.0 (store_of []) x.1.0 x.0

pub held_refusal_not_unread : Strong refusal_by (ShutsOut refusal_by store_unread)
unfolding Triangles
held_refusal_not_unread =
    strong refusal_by (asks, packed) (asks, no_rows) (λ d. omega (arith, d))
    (shut_out refusal_by store_unread (asks, (record_of 2 2 1 0, (n2 ∷ n0 ∷ n0 ∷ n1 ∷ [], store_of ((0, 1) ∷ [])))) (λ d. omega (arith, d)))

-- factoring, building up and adding, toss-ups and all: one outcome. What they shut out is in WrongPrograms; building up has factoring's meaning.
abbrev factors : ℕ × (ℕ × (Column × (Column × List ℕ))) → Outcome (Record × ℕ) × Slices
factors x = (
  factoring_answer x.1.1.0 x.0 x.1.0 x.1.1.1.0 x.1.1.1.1,
  (factoring x.1.1.0 x.0 x.1.0 x.1.1.1.0 x.1.1.1.1).left,
)

pub factor : OneOutcome factors
factor = one_outcome factors

abbrev adds : Record × (Column × (Column × List ℕ)) → Outcome (Record × ℕ) × Slices
adds x = (adding_answer x.1.0 x.1.1.0 x.1.1.1 x.0, (adding x.1.0 x.1.1.0 x.1.1.1 x.0).left)

pub add_column : OneOutcome adds
add_column = one_outcome adds
