-- THEOREM. A file's explanation has the number of the file's answer (`same_number`): so there is no reason exactly where that is accepted. And its places lie
-- within the greatest panel (`placed`). By the cases of factoring and of the solve. Assumes nothing.
use mathlib.Core.Path.{◌≡◌, refl, sym, ap, ◌∙◌}
use mathlib.Core.Bool.{false}
use mathlib.Core.List.{List}
use mathlib.Core.Option.{Option, none, some, map}
use Prim.Native.Nat.{ℕ, ◌*◌, ◌≤◌, ◌<◌}
use native.Mathlib.Omega.{arith}
use borrow.Author.Tests.{eqb-true, eqb-false}
use lib.Dec.{eqb}
use lib.ListN.{length, replicate, length-replicate}
use Rattle.numbers.specs.Numbers.{zero64}
use Rattle.numbers.specs.Column.{Column, zeros}
use Rattle.numbers.proofs.Choice.{test_cases, cond_cases}
use Rattle.store.specs.Columns.{columns}
use Rattle.store.proofs.Columns.{is_matrix_lem}
use Rattle.std.proofs.Common.{Option as Maybe, Some, None}
use Rattle.refusals.specs.Outcome.{Outcome, done, refused, number_of, tested, and_then}
use Rattle.refusals.proofs.Outcomes.{tested_none, tested_some}
use Rattle.refusals.proofs.Cases.{tested_done, tested_refused}
use Rattle.elimination.specs.Reason.{Place}
use Rattle.lu.specs.Factoring.{factoring_refusal, factoring}
use Rattle.lu.proofs.Told.{passes}
use Rattle.lu.proofs.Shape.{settled_number}
use Rattle.from_factors.specs.Solving.{solving}
use Rattle.panel_file.specs.File.{pads_of, matrix_of, readings_of}
use Rattle.panel_file.specs.Reading.{file_refusal}
use Rattle.crossing.specs.Below.{Packed, factors_of, solution_by}
use Rattle.crossing.specs.Factors.{factors_in, loads_of}
use Rattle.crossing.proofs.Below.{factored_rows}
use Rattle.crossing.proofs.Factors.{file_good, factors_size}
use Rattle.crossing.proofs.Loads.{loads_few}
use Rattle.why.specs.Results.{first_overflow}
use Rattle.why.specs.Factoring.{factoring_results}
use Rattle.why.specs.Solving.{Spot}
use Rattle.why.specs.Why.{Told, told_number, overflowed, explain_factoring, explain_solving}
use Rattle.why.proofs.Factoring.{place_within, same_number as factoring-number}
use Rattle.why.proofs.SolvingCall.{spot_within, column_within, same_number as solving-number}
use Rattle.why_file.specs.declared.WhyFile.{WhyFile}
use Rattle.why_file.specs.declared.WhyFile.TheVariants.{Refused, Factoring, Singular, Solving}
use Rattle.why_file.specs.Explaining.{Stage, in_factoring, in_solving, told_in, explain_factors, explain_loads, explained_by, explain_file, told_file}
use Rattle.why_file.specs.Placed.{Placed}

number_then : {A B : Type 0} (o : Outcome A) (f : A → B) → number_of (and_then o (λ a. done (f a))) ≡ number_of o
number_then (done a) f = refl
number_then (refused k) f = refl

-- ---- the places of an explanation lie below 64
record Near (t : Told Stage) : Type 0 where
  column : (j : ℕ) → t.column ≡ some j → j < 64
  factoring : (p : Place) → t.place ≡ some (in_factoring p) → (p.step < 64) × (p.column < 64) × (p.row < 64)
  solving : (p : Spot) → t.place ≡ some (in_solving p) → (p.column < 64) × (p.row < 64)

near_number : (k : ℕ) → Near (told_number k)
near_number k =
    record {
      column = λ j e. absurd (let z : ◌≡◌ {A = ℕ} 0 1 = cc in omega arith);
      factoring = λ p e. absurd (let z : ◌≡◌ {A = ℕ} 0 1 = cc in omega arith);
      solving = λ p e. absurd (let z : ◌≡◌ {A = ℕ} 0 1 = cc in omega arith);
    }

-- ---- factoring tells no column, and places of its own
no_column : (m n : ℕ) (a out : Column) (store : List ℕ) → (explain_factoring a m n out store).column ≡ none
unfolding explain_factoring tested overflowed
no_column m n a out store =
    cond_cases (λ (t : Told Place). t.column ≡ none) (eqb (factoring_refusal a m n out store) 0)
    (λ _. of_overflow (first_overflow (factoring_results m (columns m n a)))) (λ _. refl)
  where
    of_overflow : (o : Option Place) → (overflowed o).column ≡ none
    of_overflow none = refl
    of_overflow (some p) = refl

in_factoring_lem : (o : Option Place) (p : Place) → map in_factoring o ≡ some (in_factoring p) → o ≡ some p
in_factoring_lem none p e = absurd (let z : ◌≡◌ {A = ℕ} 0 1 = cc in omega arith)
in_factoring_lem (some q) p e = cc

not_solving : (o : Option Place) (p : Spot) → map in_factoring o ≡ some (in_solving p) → ⊥
not_solving none p e = let z : ◌≡◌ {A = ℕ} 0 1 = cc in omega arith
not_solving (some q) p e = let z : ◌≡◌ {A = ℕ} 0 1 = cc in omega arith

near_factoring : (n : ℕ) (a out : Column) (store : List ℕ) → n ≤ 64 → Near (told_in in_factoring (explain_factoring a n n out store))
near_factoring n a out store most =
    record {
      column = λ j e. absurd (let none_told : none ≡ some j = sym (no_column n n a out store) ∙ e in let z : ◌≡◌ {A = ℕ} 0 1 = cc in omega arith);
      factoring = λ p e.
          (let w = place_within n n a out store p (in_factoring_lem (explain_factoring a n n out store).place p e) in
          (omega (arith, w.0), omega (arith, w.1), omega (arith, w.2)));
      solving = λ p e. absurd (not_solving (explain_factoring a n n out store).place p e);
    }

-- ---- the solve
in_solving_lem : (o : Option Spot) (p : Spot) → map in_solving o ≡ some (in_solving p) → o ≡ some p
in_solving_lem none p e = absurd (let z : ◌≡◌ {A = ℕ} 0 1 = cc in omega arith)
in_solving_lem (some q) p e = cc

not_factoring : (o : Option Spot) (p : Place) → map in_solving o ≡ some (in_factoring p) → ⊥
not_factoring none p e = let z : ◌≡◌ {A = ℕ} 0 1 = cc in omega arith
not_factoring (some q) p e = let z : ◌≡◌ {A = ℕ} 0 1 = cc in omega arith

near_loads : (f : Packed) (b : Column) → f.told.rows ≤ 64 → Near (explain_loads f b)
unfolding explain_loads
near_loads f b most =
    let t = explain_solving f.factors f.swaps f.told b 1 (zeros f.told.rows) in
    record {
      column = λ j e. (let w = column_within f.told f.factors f.swaps 1 b (zeros f.told.rows) j e in omega arith);
      factoring = λ p e. absurd (not_factoring t.place p e);
      solving = λ p e.
          (let w = spot_within f.told f.factors f.swaps 1 b (zeros f.told.rows) p (in_solving_lem t.place p e) in
          (omega (arith, w.0), omega (arith, w.1)));
    }

module _ (bytes : List ℕ) where
  abbrev n : ℕ
  n = pads_of bytes

  abbrev a : Column
  a = matrix_of n bytes

  abbrev b : Column
  b = readings_of n bytes

  -- ---- where the file has no factors
  near_factors : Near (explain_factors bytes)
  unfolding explain_factors
  near_factors =
      test_cases (eqb (file_refusal bytes) 0)
      (λ t.
      let z = eqb-true (file_refusal bytes) 0 t in
      rw (tested_none (file_refusal bytes) told_number (told_in in_factoring (explain_factoring a n n (zeros (n * n)) (replicate 128 0))) z)
      (near_factoring n a (zeros (n * n)) (replicate 128 0) (file_good bytes z).most))
      (λ t.
      rw (tested_some (file_refusal bytes) told_number (told_in in_factoring (explain_factoring a n n (zeros (n * n)) (replicate 128 0)))
      (eqb-false (file_refusal bytes) 0 t)) (near_number (file_refusal bytes)))

  -- factoring passes its tests, whatever slice of the right length it writes to
  none_before : file_refusal bytes ≡ 0 → (out : Column) → length out ≡ n * n → factoring_refusal a n n out (replicate 128 0) ≡ 0
  none_before z out l =
      let good = file_good bytes z in
      passes n n a out (replicate 128 0)
      (record {
        rows = record { at_least = good.least; at_most = good.most };
        cols = record { at_least = omega arith; at_most = good.most };
        matrix = is_matrix_lem n n a good.most good.most good.size;
        slice = is_matrix_lem n n out good.most good.most l;
        room = length-replicate {A = ℕ} 128 0;
        numbers = good.finite;
      })

  factors_number : (k : ℕ) → factors_in bytes ≡ refused k → (explain_factors bytes).number ≡ k
  unfolding factors_in explain_factors factors_of
  factors_number k e =
      tested_refused (file_refusal bytes) (factors_of a n) k e
      (λ z d.
      let mine = none_before z (zeros (n * n)) (length-replicate (n * n) zero64) in
      let its = none_before z a (file_good bytes z).size in
      ap (λ (t : Told Stage). t.number) (tested_none (file_refusal bytes) told_number _ z)
      ∙ factoring-number n n a (zeros (n * n)) (replicate 128 0)
      ∙ settled_number n n a (zeros (n * n)) (replicate 128 0) mine ∙ sym (settled_number n n a a (replicate 128 0) its)
      ∙ sym (number_then (factoring a n n a (replicate 128 0)).answer _) ∙ ap number_of d)
      (λ some d. ap (λ (t : Told Stage). t.number) (tested_some (file_refusal bytes) told_number _ some) ∙ d)

  -- ---- the file
  by_outcome : (P : Told Stage → Outcome Column → Type 0) → ((k : ℕ) → factors_in bytes ≡ refused k → P (explain_factors bytes) (refused k))
      → ((f : Packed) → factors_in bytes ≡ done f → P (explain_loads f b) (solution_by false f b)) → P (explain_file bytes) (loads_of bytes)
  unfolding explain_file explained_by loads_of
  by_outcome P none-there there = cases (factors_in bytes) refl
    where
      cases : (o : Outcome Packed) → factors_in bytes ≡ o → P (explained_by o (explain_factors bytes) (λ f. explain_loads f b))
          (and_then o (λ f. solution_by false f b))
      cases (refused k) e = none-there k e
      cases (done f) e = there f e

  -- THEOREM. The number that is told is the answer's own.
  pub same_number : (explain_file bytes).number ≡ number_of (loads_of bytes)
  unfolding explain_loads solution_by
  same_number =
      by_outcome (λ t o. t.number ≡ number_of o) factors_number
      (λ f e.
      let x = solving f.factors f.swaps f.told b 1 (zeros f.told.rows) in
      solving-number f.told f.factors f.swaps 1 b (zeros f.told.rows) ∙ sym (number_then x.answer (λ _. x.left)))

  near_file : Near (explain_file bytes)
  unfolding factors_in
  near_file =
      by_outcome (λ t o. Near t) (λ k e. near_factors)
      (λ f e. near_loads f b (rw (packed_rows f e) (factors_size bytes f e).1))
    where
      packed_rows : (f : Packed) → factors_in bytes ≡ done f → f.told.rows ≡ n
      packed_rows f e =
          let passed = tested_done (file_refusal bytes) (factors_of a n) f e in
          factored_rows n a (file_good bytes passed.0) f passed.1

  number_few : (explain_file bytes).number ≤ 9
  number_few = rw same_number (cases (loads_of bytes) refl)
    where
      cases : (o : Outcome Column) → loads_of bytes ≡ o → number_of o ≤ 9
      cases (done x) e = omega arith
      cases (refused k) e = loads_few bytes k e

  pub placed : (why : Maybe WhyFile) → told_file why ≡ explain_file bytes → Placed why
  unfolding told_file Placed
  placed None e = tt
  placed (Some (Refused refusal)) e = rw (sym (ap (λ (t : Told Stage). t.number) e)) at number_few
  placed (Some (Factoring i j r)) e = near_file.factoring _ (sym (ap (λ (t : Told Stage). t.place) e))
  placed (Some (Singular j)) e = near_file.column j (sym (ap (λ (t : Told Stage). t.column) e))
  placed (Some (Solving pass j r)) e = near_file.solving _ (sym (ap (λ (t : Told Stage). t.place) e))
