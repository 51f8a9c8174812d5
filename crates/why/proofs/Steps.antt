-- What the elimination stores, and where its first number that is not finite stands: step by step, on factors that are finite before it. Outside what a step
-- stores it leaves finite numbers (`stored`), so the first number of the matrix that is not finite is the first that was stored. Assumes nothing.
use mathlib.Core.Path.{◌≡◌, refl, sym, ap, ◌∙◌}
use mathlib.Core.Bool.{true, false}
use mathlib.Core.List.{List, []}
use mathlib.Core.Option.{none, some, or_else}
use Prim.Native.Nat.{ℕ, zero, suc, ◌+◌, ◌-◌, ◌*◌, ◌/◌, ◌%◌, ◌≤◌, ◌<◌, min}
use native.Mathlib.Nat.{mul-add-div_right, mul-add-mod_self_right, div-eq_of_lt, mod-eq_of_lt, add-zero}
use native.Mathlib.Numerals.{add-one}
use native.Mathlib.Omega.{arith}
use borrow.Author.Tests.{lt-ltb}
use lib.ListN.{length, get_or, drop, length-drop}
use lib.Seq.{get_or-drop}
use lib.Ieee.{nan}
use lib.Ieee.Scale.{finite}
use Rattle.std.proofs.Common.{Some}
use Rattle.numbers.specs.Each.{turns_from}
use Rattle.numbers.specs.First.{first_failing, first_turn}
use Rattle.numbers.specs.Column.{Column, entry}
use Rattle.finite.specs.Finite.{all_finite}
use Rattle.numbers.proofs.Choice.{test_cases}
use Rattle.finite.proofs.Finite.{finite_entry}
use Rattle.store.specs.Columns.{columns, flat, HasRows, is_matrix}
use Rattle.store.specs.Steps.{Matrix, column}
use Rattle.store.specs.First.{column_of, row_of}
use Rattle.store.proofs.Columns.{sized, same_matrix, flat_columns, length_columns, columns_rows, on_columns_lem}
use Rattle.store.proofs.Lasting.{column_finite}
use Rattle.store.proofs.First.{FirstIn, first_in, first_flat}
use Rattle.factors.specs.Factors.{Factors}
use Rattle.elimination.specs.Elimination.{pivot_step, step, unfactored}
use Rattle.elimination.specs.Reason.{Place, finite_in, place_of, first_reason}
use Rattle.elimination.proofs.Step.{pivot_at, skipped, steps, steps_next, length_turns, rows_turns, length_steps, rows_steps}
use Rattle.lu.specs.PlainStep.{step_on, plain_step}
use Rattle.lu.proofs.Reason.{stored}
use Rattle.why.specs.Results.{Result, first_overflow, in_turn}
use Rattle.why.specs.Factoring.{place_at, column_results, step_results, steps_results, factoring_results}
use Rattle.why.specs.declared.WhyFactor.TheVariants.{Overflow}
use Rattle.why.specs.Why.{overflowed, told_number, told_factor}
use Rattle.why.proofs.Results.{first_append, rows_none, rows_first, turn_none, turn_first}

-- ---- what is stored in columns cs from column i on, below row i
module _ (i : ℕ) (cs : Matrix) where
  abbrev results : List (Result Place)
  results = in_turn (column_results i) i (drop i cs)

  column_is : (q : ℕ) → get_or (drop i cs) q [] ≡ column cs (i + q)
  column_is q = get_or-drop i cs q []

  -- a finite column stores nothing else
  column_none : (j : ℕ) (c : Column) → all_finite c ≡ true → first_overflow (column_results i j c) ≡ none
  column_none j c t =
      rows_none (place_at i j) (i + 1) (drop (i + 1) c)
      (λ k h. ap finite (get_or-drop (i + 1) c k nan) ∙ finite_entry c (i + 1 + k) t (omega (arith, length-drop (i + 1) c)))

  all_none : all_finite (flat cs) ≡ true → first_overflow results ≡ none
  all_none t =
      turn_none (column_results i) [] i (drop i cs)
      (λ q h. rw (column_is q) (column_none (i + q) (column cs (i + q)) (column_finite cs t (i + q))))

  -- the first number that is not finite, where it stands among what is stored
  first_there : (j r : ℕ) → FirstIn cs j r → i ≤ j → i < r → first_overflow results ≡ some (place_at i j r)
  first_there j r first hj hr =
      let c = column cs j in
      let here : i + (j - i) ≡ j = omega arith in
      let row : i + 1 + (r - (i + 1)) ≡ r = omega arith in
      let in-column : first_overflow (column_results i j c) ≡ some (place_at i j r) =
      rows_first (place_at i j) (i + 1) (drop (i + 1) c) (r - (i + 1)) (let l = first.long in omega (arith, length-drop (i + 1) c))
      (ap finite (get_or-drop (i + 1) c (r - (i + 1)) nan ∙ ap (entry c) row) ∙ first.fails)
      (λ q h. ap finite (get_or-drop (i + 1) c q nan) ∙ first.rows_before (i + 1 + q) (omega arith))
      ∙ ap (λ (k : ℕ). some (place_at i j k)) row in
      turn_first (column_results i) [] i (drop i cs) (j - i) (place_at i j r) (let w = first.wide in omega (arith, length-drop i cs))
      (λ q h. rw (column_is q) (column_none (i + q) (column cs (i + q)) (first.columns_before (i + q) (omega arith))))
      (rw (column_is (j - i), here) in-column)

-- ---- one step on finite factors
module _ (m i : ℕ) (f : Factors) (rows : HasRows m f.columns) (ok : finite_in f ≡ true) (hi : i < length f.columns) where
  pub step_none : finite_in (step i f) ≡ true → first_overflow (step_results i f) ≡ none
  unfolding step_results first_overflow
  step_none t = test_cases (skipped i f) (λ s. rw s) (λ s. rw s (all_none i (step i f).columns t))

  pub step_some : finite_in (step i f) ≡ false → first_overflow (step_results i f) ≡ some (place_of i (step i f))
  unfolding step_results step
  step_some t =
      test_cases (skipped i f)
      (λ s. absurd (let same : true ≡ false = sym ok ∙ (rw s at t) in let z : ◌≡◌ {A = ℕ} 0 1 = cc in omega arith))
      (λ s.
      let g = pivot_step i (pivot_at i f) f in
      let bad : finite_in g ≡ false = rw s at t in
      let first = first_in g.columns bad in
      let place = stored i (pivot_at i f) f m (column_of g.columns) (row_of g.columns) rows ok hi first in
      rw s (first_there i g.columns (column_of g.columns) (row_of g.columns) first place.0 place.1))

rows_step : (m i : ℕ) (f : Factors) → HasRows m f.columns → HasRows m (step i f).columns
unfolding turns_from
rows_step m i f = rows_turns m i 1 f

length_step : (i : ℕ) (f : Factors) → length (step i f).columns ≡ length f.columns
unfolding turns_from
length_step i f = length_turns i 1 f

-- ---- so many steps, from step i on
pub steps_none : (m i steps : ℕ) (f : Factors) → HasRows m f.columns → finite_in f ≡ true → i < length f.columns → finite_in (step i f) ≡ true
    → first_overflow (steps_results i (suc steps) f) ≡ first_overflow (steps_results (i + 1) steps (step i f))
unfolding steps_results or_else
steps_none m i steps f rows ok hi t =
    first_append (step_results i f) (steps_results (i + 1) steps (step i f)) ∙ rw (step_none m i f rows ok hi t)

pub steps_some : (m i steps : ℕ) (f : Factors) → HasRows m f.columns → finite_in f ≡ true → i < length f.columns → finite_in (step i f) ≡ false
    → first_overflow (steps_results i (suc steps) f) ≡ some (place_of i (step i f))
unfolding steps_results or_else
steps_some m i steps f rows ok hi t =
    first_append (step_results i f) (steps_results (i + 1) steps (step i f)) ∙ rw (step_some m i f rows ok hi t)

-- the same as the first step after which some number is not finite
steps_reason : (m i c : ℕ) (f : Factors) → HasRows m f.columns → finite_in f ≡ true → i + c ≤ length f.columns
    → first_overflow (steps_results i c f) ≡ first_turn finite_in (λ k g. some (place_of k g)) none step i c f
unfolding first_turn steps_results first_overflow
steps_reason m i zero f rows ok h = refl
steps_reason m i (suc c) f rows ok h =
    let hi : i < length f.columns = omega arith in
    let rows' : HasRows m (step i f).columns = rows_step m i f rows in
    let wide : length (step i f).columns ≡ length f.columns = length_step i f in
    test_cases (finite_in (step i f))
    (λ t. rw t (steps_none m i c f rows ok hi t ∙ steps_reason m (i + 1) c (step i f) rows' t (omega arith)))
    (λ t. rw t (steps_some m i c f rows ok hi t))

-- THEOREM. The first result of an elimination that is not finite is the reason that stands in elimination/specs/Reason: none exactly where the factors are
-- finite (`reason_none`).
pub results_reason : (m : ℕ) (a : Matrix) → HasRows m a → all_finite (flat a) ≡ true → first_overflow (factoring_results m a) ≡ first_reason m a
unfolding factoring_results first_reason
results_reason m a rows ok = steps_reason m 0 (min m (length a)) (unfactored a) rows ok (omega arith)

-- ---- the columns of a step go by the columns alone
pub step_alone : (i : ℕ) (f : Factors) → step_on i f.columns ≡ (step i f).columns
unfolding step pivot_step
step_alone i f = test_cases (skipped i f) (λ t. rw (t, step_on)) (λ t. rw (t, step_on))

-- ---- a place in the store, by its column and its row
pub place_flat : (m n : ℕ) (s : Column) (at : ℕ) → length s ≡ n * m → HasRows m (columns m n s) → all_finite s ≡ false → at ≡ first_failing finite s
    → (at / m ≡ column_of (columns m n s)) × (at % m ≡ row_of (columns m n s))
place_flat m n s at size rows bad is =
    let cs = columns m n s in
    let whole : flat cs ≡ s = flat_columns m n s size in
    let bad' : all_finite (flat cs) ≡ false = ap all_finite whole ∙ bad in
    let first = first_in cs bad' in
    let tall : length (column cs (column_of cs)) ≡ m = rows (column_of cs) first.wide in
    let low : row_of cs < m = rw tall at first.long in
    let some-rows : 0 < m = omega arith in
    let at-is : at ≡ column_of cs * m + row_of cs = is ∙ ap (first_failing finite) (sym whole) ∙ first_flat m cs rows bad' in (
      rw at-is (mul-add-div_right some-rows (column_of cs) (row_of cs) ∙ ap (λ (k : ℕ). column_of cs + k) (div-eq_of_lt low) ∙ add-zero (column_of cs)),
      rw at-is (mul-add-mod_self_right (column_of cs) m (row_of cs) ∙ mod-eq_of_lt low),
    )

-- ---- the loop: after i steps, what is left to store gives the whole answer
pub record Stepping (m n : ℕ) (s₀ s : Column) (i : ℕ) : Type 0 where
  pub long : length s ≡ length s₀
  pub within : i ≤ min m n
  pub is : columns m n s ≡ (steps i (unfactored (columns m n s₀))).columns
  pub fine : all_finite s ≡ true
  pub left : first_overflow (steps_results i (min m n - i) (steps i (unfactored (columns m n s₀)))) ≡ first_overflow (factoring_results m (columns m n s₀))

module _ (m n : ℕ) (s₀ : Column) (fits : is_matrix s₀ m n ≡ true) where
  abbrev a : Matrix
  a = columns m n s₀

  abbrev u : Factors
  u = unfactored a

  size : length s₀ ≡ n * m
  size = (sized m n s₀ fits).size

  pub stepping_begin : all_finite s₀ ≡ true → Stepping m n s₀ s₀ 0
  unfolding factoring_results turns_from
  stepping_begin ok =
      let all : min m n - 0 ≡ min m (length a) = omega (arith, length_columns m n s₀) in
      record { long = refl; within = omega arith; is = refl; fine = ok; left = ap (λ (k : ℕ). first_overflow (steps_results 0 k u)) all }

  pub stepping_end : (s : Column) (i : ℕ) → Stepping m n s₀ s i → min m n ≤ i → overflowed (first_overflow (factoring_results m a)) ≡ told_number 0
  unfolding overflowed steps_results first_overflow
  stepping_end s i now h =
      let none_left : min m n - i ≡ 0 = omega arith in
      ap overflowed (sym now.left ∙ ap (λ (k : ℕ). first_overflow (steps_results i k (steps i u))) none_left)

  -- one turn: s' is the store after step i
  module _ (s s' : Column) (i : ℕ) (now : Stepping m n s₀ s i) (h : i < min m n) (kept : length s' ≡ length s) (made : s' ≡ plain_step s m n i) where
    abbrev f : Factors
    f = steps i u

    rows_f : HasRows m f.columns
    rows_f = rows_steps m i u (columns_rows m n s₀ size)

    in_time : i < length f.columns
    in_time = rw (length_steps i u) (omega (arith, length_columns m n s₀))

    finite_f : finite_in f ≡ true
    finite_f = ap (λ (cs : Matrix). all_finite (flat cs)) (sym now.is) ∙ ap all_finite (flat_columns m n s (now.long ∙ size)) ∙ now.fine

    size' : length s' ≡ n * m
    size' = kept ∙ now.long ∙ size

    after : columns m n s' ≡ (step i f).columns
    unfolding plain_step
    after =
        let cs = columns m n s in
        let fits-s : is_matrix s m n ≡ true = same_matrix m n s₀ s now.long ∙ fits in
        let rows = rows_step m i (unfactored cs) (columns_rows m n s (now.long ∙ size)) in
        let wide = length_step i (unfactored cs) ∙ length_columns m n s in
        ap (columns m n) (made ∙ (rw (lt-ltb i (min m n) h)))
        ∙ on_columns_lem m n (step_on i) s fits-s wide rows
        ∙ ap (step_on i) now.is
        ∙ step_alone i f

    finite_is : all_finite s' ≡ finite_in (step i f)
    finite_is = ap all_finite (sym (flat_columns m n s' size')) ∙ ap (λ (cs : Matrix). all_finite (flat cs)) after

    one_less : min m n - i ≡ suc (min m n - (i + 1))
    one_less = omega arith

    next : steps (i + 1) u ≡ step i f
    next = ap (λ (k : ℕ). steps k u) (add-one i) ∙ steps_next i u

    pub stepping_on : all_finite s' ≡ true → Stepping m n s₀ s' (i + 1)
    stepping_on t =
        record {
          long = kept ∙ now.long;
          within = omega arith;
          is = after ∙ ap (λ (g : Factors). g.columns) (sym next);
          fine = t;
          left =
              ap (λ (g : Factors). first_overflow (steps_results (i + 1) (min m n - (i + 1)) g)) next
              ∙ sym (steps_none m i (min m n - (i + 1)) f rows_f finite_f in_time (sym finite_is ∙ t))
              ∙ ap (λ (k : ℕ). first_overflow (steps_results i k f)) (sym one_less)
              ∙ now.left;
        }

    pub stepping_found : (at : ℕ) → all_finite s' ≡ false → at ≡ first_failing finite s'
        → told_factor (Some (Overflow i (at / m) (at % m))) ≡ overflowed (first_overflow (factoring_results m a))
    unfolding told_factor
    stepping_found at t found =
        let rows : HasRows m (columns m n s') = columns_rows m n s' size' in
        let place = place_flat m n s' at size' rows t found in
        let there : first_overflow (factoring_results m a) ≡ some (place_of i (step i f)) =
        sym now.left ∙ ap (λ (k : ℕ). first_overflow (steps_results i k f)) one_less
        ∙ steps_some m i (min m n - (i + 1)) f rows_f finite_f in_time (sym finite_is ∙ t) in
        let where-is : place_at i (at / m) (at % m) ≡ place_of i (step i f) =
        (λ x. place_at i (place.0 x) (place.1 x)) ∙ ap (λ (cs : Matrix). place_at i (column_of cs) (row_of cs)) after in
        ap overflowed (ap (λ (p : Place). some p) where-is ∙ sym there)
