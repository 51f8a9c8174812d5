-- Two wrong programs for each call below the factors, as in `WrongAnswers`: all that always give the same, shown at two inputs of one length, and one named at
-- each call. Assumes nothing.
use mathlib.Core.Path.{◌≡◌, sym, ap}
use mathlib.Core.Bool.{Bool, true, false, not, cond}
use mathlib.Core.List.{List, [], ◌∷◌, ◌++◌}
use Prim.Native.Nat.{ℕ, min}
use native.Mathlib.Omega.{arith}
use lib.Dec.{ltb}
use lib.ListN.{length, set, drop}
use lib.IntN.{pos}
use lib.Ieee.{Float, nan, inf, fin, binary64, add, sub, mul, div, neg, eq, lt, of_bits}
use lib.Ieee.Scale.{finite}
use Rattle.numbers.specs.Each.{each_from, turns_from}
use Rattle.numbers.specs.Numbers.{is_zero, magnitude}
use Rattle.numbers.specs.Column.{Column, entry, zeros}
use Rattle.min_max.specs.Pivot.{search_from, pivot_row}
use Rattle.blas.specs.Blas.{exchanged, swap_rows, scale_from, axpy_from, copied}
use Rattle.finite.specs.Finite.{all_finite}
use Rattle.min_max.specs.TossUp.{shared_from, toss_up, pivot_of}
use Rattle.min_max.specs.declared.FoundPivot.{FoundPivot}
use Rattle.blas.specs.Dot.{add_product, add_block, eight_sums, pair_sums, dot_of}
use Rattle.store.specs.Columns.{columns, flat, is_matrix, on_columns}
use Rattle.store.specs.Steps.{column, swap_in_all, rows_swapped, columns_swapped}
use Rattle.one_step.specs.OneStep.{step_column, step_columns, eliminated}
use Rattle.four_steps.specs.FourSteps.{step_by, four_steps, four_stepped, four_stepped_on}
use Rattle.std.proofs.Common.{Result, Ok, Err}
use Rattle.refusals.specs.declared.Refusal.{Refusal}
use Rattle.refusals.specs.declared.Refusal.TheVariants.{Overflow}
use Rattle.refusals.specs.Outcome.{Outcome, done, refused, number, number_of, first_holding, numbered, tested, Call, outcome}
use Rattle.refusals.specs.Refusals.{outside, seventh}
use Rattle.refusals.proofs.Outcomes.{never_0}
use Rattle.refusals.proofs.Strength.{ShutsOut, shut_out, TwoShutOut, two, done_refused}
use Rattle.from_factors.proofs.Figures.{leaves, n0, n1, n2}

-- a name for all that has to unfold for these calls to compute
Runs : Type 0
unfolding add sub mul div neg eq lt of_bits each_from turns_from is_zero magnitude search_from pivot_row exchanged scale_from axpy_from all_finite copied
    add_product
    add_block
    eight_sums pair_sums dot_of columns flat is_matrix on_columns swap_in_all rows_swapped step_column step_columns eliminated step_by four_steps
    four_stepped four_stepped_on
    first_holding outside tested seventh
Runs = Unit {0}

abbrev -n1 : Float
-n1 = fin true 1 (pos 0)

-- ---- what differs

false_true : false ≡ true → ⊥
false_true d = let z : ◌≡◌ {A = ℕ} 0 1 = cc in omega arith

true_false : true ≡ false → ⊥
true_false d = false_true (sym d)

one_minus : n1 ≡ -n1 → ⊥
one_minus d = let z : ◌≡◌ {A = ℕ} 0 1 = cc in omega arith

one_zero : n1 ≡ n0 → ⊥
one_zero d = let z : ◌≡◌ {A = ℕ} 0 1 = cc in omega arith

two_one : n2 ∷ n1 ∷ [] ≡ n1 ∷ n2 ∷ [] → ⊥
two_one d = let z : ◌≡◌ {A = ℕ} 0 1 = cc in omega arith

first_differs : n0 ∷ [] ≡ n1 ∷ [] → ⊥
first_differs d = let z : ◌≡◌ {A = ℕ} 0 1 = cc in omega arith

-- ---- single numbers and columns

-- every number not above zero
pub is_zero_not_below_zero : TwoShutOut is_zero (λ x. not (lt n0 x))
unfolding Runs
is_zero_not_below_zero = two is_zero (λ x. not (lt n0 x)) -n1 n0 n1 false_true true_false

-- the number itself
pub magnitude_call : TwoShutOut magnitude (λ x. x)
unfolding Runs
magnitude_call = two magnitude (λ x. x) -n1 n0 n1 one_minus (λ d. one_zero (sym d))

-- the row to start from; and no pivot a toss-up
abbrev finds : ℕ × Column → FoundPivot
finds x = pivot_of x.0 x.1

pub icamax : TwoShutOut finds (λ x. record { row = x.0; tossed = false })
unfolding Runs shared_from toss_up pivot_of
icamax =
    two finds (λ x. record { row = x.0; tossed = false }) (0, n1 ∷ n2 ∷ []) (0, n1 ∷ n2 ∷ []) (0, n2 ∷ n1 ∷ [])
    (λ d. omega (arith, ap (λ (o : FoundPivot). o.row) d)) (λ d. omega (arith, ap (λ (o : FoundPivot). o.row) d))

pub no_toss_up : ShutsOut finds (λ x. record { row = pivot_row x.0 x.1; tossed = false })
unfolding Runs shared_from toss_up pivot_of
no_toss_up =
    shut_out finds (λ x. record { row = pivot_row x.0 x.1; tossed = false }) (0, n1 ∷ n1 ∷ []) (λ d. true_false (ap (λ (o : FoundPivot). o.tossed) d))

-- the slice as it was
abbrev swaps : ℕ × (ℕ × Column) → Column
swaps x = swap_rows x.0 x.1.0 x.1.1

pub swap : TwoShutOut swaps (λ x. x.1.1)
unfolding Runs
swap = two swaps (λ x. x.1.1) (0, (1, n1 ∷ n2 ∷ [])) (0, (1, n1 ∷ n2 ∷ [])) (0, (1, n2 ∷ n1 ∷ [])) two_one two_one

abbrev scales : ℕ × (Float × Column) → Column
scales x = scale_from x.0 x.1.0 x.1.1

pub scale : TwoShutOut scales (λ x. x.1.1)
unfolding Runs
scale = two scales (λ x. x.1.1) (0, (n0, n1 ∷ [])) (0, (n0, n1 ∷ [])) (0, (n1, n1 ∷ [])) first_differs first_differs

abbrev adds : ℕ × (Float × (Column × Column)) → Column
adds x = axpy_from x.0 x.1.0 x.1.1.0 x.1.1.1

pub axpy : TwoShutOut adds (λ x. x.1.1.1)
unfolding Runs
axpy =
    two adds (λ x. x.1.1.1) (0, (n1, (n1 ∷ [], n0 ∷ []))) (0, (n1, (n1 ∷ [], n0 ∷ []))) (0, (n0, (n1 ∷ [], n0 ∷ [])))
    (λ d. first_differs (sym d)) (λ d. first_differs (sym d))

abbrev copies : Column × Column → Column
copies x = copied x.0 x.1

pub copy : TwoShutOut copies (λ x. x.1)
unfolding Runs
copy = two copies (λ x. x.1) (n0 ∷ [], n1 ∷ []) (n0 ∷ [], n1 ∷ []) (n1 ∷ [], n1 ∷ []) first_differs first_differs

abbrev fills : Column → Column
fills c = zeros (length c)

-- what it gives depends on the length alone
pub fill_zero : TwoShutOut fills (λ c. c)
unfolding Runs
fill_zero = two fills (λ c. c) (n1 ∷ []) (n1 ∷ []) (n1 ∷ n1 ∷ []) first_differs (λ d. omega (arith, ap length d))

-- the first number alone tested
pub all_finite_not_first_alone : TwoShutOut all_finite (λ c. finite (entry c 0))
unfolding Runs
all_finite_not_first_alone = two all_finite (λ c. finite (entry c 0)) (n1 ∷ nan ∷ []) (n1 ∷ []) (nan ∷ []) false_true true_false

-- every number taken for finite that equals itself, as infinities do
pub is_finite : TwoShutOut finite (λ x. eq x x)
unfolding Runs
is_finite = two finite (λ x. eq x x) (inf false) n1 nan false_true true_false

-- the first product alone
abbrev dots : Column × Column → Float
dots x = dot_of x.0 x.1

pub dot : TwoShutOut dots (λ x. mul binary64 (entry x.0 0) (entry x.1 0))
unfolding Runs
dot = two dots (λ x. mul binary64 (entry x.0 0) (entry x.1 0)) (n0 ∷ n1 ∷ [], n0 ∷ n1 ∷ []) (n1 ∷ [], n1 ∷ []) (n0 ∷ [], n0 ∷ []) one_zero one_zero

-- ---- store

-- the first of the two
abbrev least : ℕ × ℕ → ℕ
least x = min x.0 x.1

pub min_call : TwoShutOut least (λ x. x.0)
min_call = two least (λ x. x.0) (1, 0) (0, 0) (1, 1) (λ d. omega (arith, d)) (λ d. omega (arith, d))

-- any slice that is not empty
abbrev fits : ℕ × (ℕ × Column) → Bool
fits x = is_matrix x.1.1 x.0 x.1.0

pub is_matrix_not_any_filled : TwoShutOut fits (λ x. ltb 0 (length x.1.1))
unfolding Runs
is_matrix_not_any_filled = two fits (λ x. ltb 0 (length x.1.1)) (2, (1, n1 ∷ [])) (1, (1, n1 ∷ [])) (1, (1, [])) false_true true_false

-- the slice as it was
abbrev Sized : Type 0
Sized = ℕ × (ℕ × Column)

abbrev rows : (ℕ × (ℕ × (ℕ × ℕ))) × Sized → Column
rows x = on_columns x.1.0 x.1.1.0 (rows_swapped x.0.0 x.0.1.0 x.0.1.1.0 x.0.1.1.1) x.1.1.1

pub swap_rows_not_idle : TwoShutOut rows (λ x. x.1.1.1)
unfolding Runs
swap_rows_not_idle =
    two rows (λ x. x.1.1.1) ((0, (1, (0, 1))), (2, (1, n1 ∷ n2 ∷ []))) ((0, (1, (0, 1))), (2, (1, n1 ∷ n2 ∷ []))) ((0, (1, (0, 1))), (2, (1, n2 ∷ n1 ∷ [])))
    two_one two_one

abbrev exchanges : (ℕ × ℕ) × Sized → Column
exchanges x = on_columns x.1.0 x.1.1.0 (columns_swapped x.0.0 x.0.1) x.1.1.1

pub swap_columns : TwoShutOut exchanges (λ x. x.1.1.1)
unfolding Runs
swap_columns =
    two exchanges (λ x. x.1.1.1) ((0, 1), (1, (2, n1 ∷ n2 ∷ []))) ((0, 1), (1, (2, n1 ∷ n2 ∷ []))) ((0, 1), (1, (2, n2 ∷ n1 ∷ []))) two_one two_one

-- columns (1, 1) and (1, 0): the multiplier is 1, and the last entry becomes -1; with the multiplier 0 nothing changes
abbrev unstepped : Column
unstepped = n1 ∷ n1 ∷ n1 ∷ n0 ∷ []

abbrev stepped : Column
stepped = n1 ∷ n1 ∷ n1 ∷ -n1 ∷ []

abbrev still : Column
still = n1 ∷ n0 ∷ n1 ∷ n0 ∷ []

step_differs : stepped ≡ unstepped → ⊥
step_differs d = let z : ◌≡◌ {A = ℕ} 0 1 = cc in omega arith

still_differs : stepped ≡ still → ⊥
still_differs d = let z : ◌≡◌ {A = ℕ} 0 1 = cc in omega arith

abbrev steps_within : ℕ × (ℕ × Sized) → Column
steps_within x =
    on_columns x.1.1.0 x.1.1.1.0 (λ cs. set cs x.1.0 (step_column x.0 (column cs x.0) (column cs x.1.0))) x.1.1.1.1

pub step_within : TwoShutOut steps_within (λ x. x.1.1.1.1)
unfolding Runs
step_within =
    two steps_within (λ x. x.1.1.1.1) (0, (1, (2, (2, unstepped)))) (0, (1, (2, (2, unstepped)))) (0, (1, (2, (2, still)))) step_differs still_differs

abbrev eliminates : ℕ × Sized → Column
eliminates x = on_columns x.1.0 x.1.1.0 (eliminated x.0) x.1.1.1

pub eliminate : TwoShutOut eliminates (λ x. x.1.1.1)
unfolding Runs
eliminate = two eliminates (λ x. x.1.1.1) (0, (2, (2, unstepped))) (0, (2, (2, unstepped))) (0, (2, (2, still))) step_differs still_differs

-- ---- four steps at once

-- five columns of four rows: the first has a multiplier 1 in row 1, the next three none, and of the last the first entry is 1, so that its row 1 becomes -1
abbrev five_before : Column
five_before = n1 ∷ n1 ∷ n0 ∷ n0 ∷ n0 ∷ n1 ∷ n0 ∷ n0 ∷ n0 ∷ n0 ∷ n1 ∷ n0 ∷ n0 ∷ n0 ∷ n0 ∷ n1 ∷ n1 ∷ n0 ∷ n0 ∷ n0 ∷ []

abbrev five_after : Column
five_after = n1 ∷ n1 ∷ n0 ∷ n0 ∷ n0 ∷ n1 ∷ n0 ∷ n0 ∷ n0 ∷ n0 ∷ n1 ∷ n0 ∷ n0 ∷ n0 ∷ n0 ∷ n1 ∷ n1 ∷ -n1 ∷ n0 ∷ n0 ∷ []

-- the same without a multiplier
abbrev five_still : Column
five_still = n1 ∷ n0 ∷ n0 ∷ n0 ∷ n0 ∷ n1 ∷ n0 ∷ n0 ∷ n0 ∷ n0 ∷ n1 ∷ n0 ∷ n0 ∷ n0 ∷ n0 ∷ n1 ∷ n1 ∷ n0 ∷ n0 ∷ n0 ∷ []

still_five : five_after ≡ five_still → ⊥
still_five d = let z : ◌≡◌ {A = ℕ} 0 1 = cc in omega arith

five_differ : five_after ≡ five_before → ⊥
five_differ d = let z : ◌≡◌ {A = ℕ} 0 1 = cc in omega arith

abbrev fours : (ℕ × ℕ) × Sized → Column
fours x = on_columns x.1.0 x.1.1.0 (four_stepped x.1.0 x.0.0 x.0.1) x.1.1.1

pub four_steps_not_idle : TwoShutOut fours (λ x. x.1.1.1)
unfolding Runs
four_steps_not_idle =
    two fours (λ x. x.1.1.1) ((0, 4), (4, (5, five_before))) ((0, 4), (4, (5, five_before))) ((0, 4), (4, (5, five_still))) five_differ still_five

-- the steps on every column from that one on: a sixth column, like the fifth, would change with it
abbrev sixth : Column → Column
sixth c = c ++ n1 ∷ n0 ∷ n0 ∷ n0 ∷ []

abbrev six_after : Column
six_after = five_after ++ n1 ∷ -n1 ∷ n0 ∷ n0 ∷ []

six_differ : sixth five_after ≡ six_after → ⊥
six_differ d = let z : ◌≡◌ {A = ℕ} 0 1 = cc in omega arith

abbrev fours_on : (ℕ × ℕ) × Sized → Column
fours_on x = on_columns x.1.0 x.1.1.0 (four_stepped_on x.1.0 x.0.0 x.0.1) x.1.1.1

pub four_steps_on : TwoShutOut fours_on fours
unfolding Runs
four_steps_on = two fours_on fours ((0, 4), (4, (6, sixth five_before))) ((0, 4), (4, (5, five_before))) ((0, 4), (4, (5, five_still))) six_differ still_five

-- ---- refusals

-- the upper limit alone
abbrev is_outside : ℕ × ℕ → Bool
is_outside x = outside x.0 x.1

pub outside_call : TwoShutOut is_outside (λ x. ltb 64 x.1)
unfolding Runs
outside_call = two is_outside (λ x. ltb 64 x.1) (1, 0) (1, 0) (1, 1) true_false true_false

-- the later number always
abbrev firsts : ℕ × (Bool × ℕ) → ℕ
firsts x = cond x.1.0 x.0 x.1.1

pub first_call : TwoShutOut firsts (λ x. x.1.1)
first_call = two firsts (λ x. x.1.1) (1, (true, 0)) (1, (true, 0)) (1, (false, 0)) (λ d. omega (arith, d)) (λ d. omega (arith, d))

-- the tests of a call: all but the first, and always refused
abbrev tests_of : List (Refusal × Bool) → ℕ
tests_of tests = first_holding (numbered tests)

pub first_of_not_later : TwoShutOut tests_of (λ tests. first_holding (numbered (drop 1 tests)))
unfolding Runs
first_of_not_later =
    two tests_of (λ tests. first_holding (numbered (drop 1 tests))) ((Overflow, true) ∷ []) ((Overflow, true) ∷ []) ((Overflow, false) ∷ [])
    (λ d. omega (arith, d)) (λ d. omega (arith, d))

pub first_of_not_refused : (always : List (Refusal × Bool) → Refusal) → ShutsOut tests_of (λ tests. number (always tests))
unfolding Runs
first_of_not_refused always =
    shut_out tests_of (λ tests. number (always tests)) ((Overflow, false) ∷ []) (λ d. never_0 (always ((Overflow, false) ∷ [])) (sym d))

-- always refused
abbrev answers_for : ℕ → Outcome (Unit {0})
answers_for number = tested number refused (done tt)

pub answer_for : TwoShutOut answers_for refused
unfolding Runs
answer_for = two answers_for refused 0 0 1 done_refused done_refused

-- 1 for every refusal
abbrev numbers : Result (Unit {0}) Refusal → ℕ
numbers answer = number_of (outcome answer)

abbrev told_one : Result (Unit {0}) Refusal → ℕ
told_one (Ok made) = 0
told_one (Err refusal) = 1

pub number_of_not_always_one : TwoShutOut numbers told_one
unfolding Runs
number_of_not_always_one = two numbers told_one (Err Overflow) (Err Overflow) (Ok tt) (λ d. omega (arith, d)) (λ d. omega (arith, d))

-- accepted always, the slice as it was
pub settle : TwoShutOut seventh leaves
unfolding Runs
settle = two seventh leaves (nan ∷ []) (n1 ∷ []) (nan ∷ []) (λ d. done_refused (sym (answers d))) (λ d. done_refused (answers d))
  where
    answers : {x y : Call (Unit {0}) Column} → x ≡ y → x.answer ≡ y.answer
    answers d = ap (λ (o : Call (Unit {0}) Column). o.answer) d
