-- A file of four pads: its twenty numbers on the general path of a matrix and readings are the file's own general path. Factoring into another slice and
-- factoring where the matrix lies give the same, and past the reader's tests the numbers are finite. Assumes nothing.
use mathlib.Core.Path.{◌≡◌, refl, sym, ap, ap₂, ◌∙◌}
use mathlib.Core.Bool.{true, false, ◌&&◌}
use mathlib.Core.List.{List, ◌++◌, append-nil}
use Prim.Native.Nat.{ℕ, ◌*◌}
use native.Mathlib.Omega.{arith}
use borrow.Author.Tests.{eqb-true, not-false}
use lib.ListN.{length, drop, replicate, length-replicate}
use Rattle.numbers.specs.Column.{Column, zeros}
use Rattle.numbers.proofs.Choice.{test_cases, and_first, and_second}
use Rattle.numbers.proofs.Each.{length_list}
use Rattle.finite.specs.Finite.{all_finite}
use Rattle.finite.proofs.Finite.{finite_append}
use Rattle.store.specs.Columns.{columns, flat}
use Rattle.store.proofs.Columns.{is_matrix_lem}
use Rattle.refusals.specs.Outcome.{Outcome, done, refused, number_of, first_holding, tested, and_then, Call, leaving}
use Rattle.refusals.proofs.Outcomes.{Numbered, first_none, none_first, tested_none, tested_some, tested_cases, then_then}
use Rattle.refusals.proofs.Cases.{first_behind}
use Rattle.factors.specs.Factors.{Factors, store_of, record_for}
use Rattle.elimination.specs.Elimination.{eliminate}
use Rattle.lu.specs.Factoring.{settled, factoring}
use Rattle.lu.proofs.Told.{passes, worked}
use Rattle.from_factors.specs.Solving.{solving}
use Rattle.panel_file.specs.File.{pads_of, matrix_of, readings_of}
use Rattle.panel_file.specs.Reading.{file_tests, file_refusal, Stores, stores, filled, sized_refusal, reading_sized}
use Rattle.panel_file.proofs.Reading.{file_whole}
use Rattle.panel_file.proofs.Files.{numbers_parts}
use Rattle.crossing.specs.Below.{factors_of, solution_by}
use Rattle.crossing.specs.Factors.{factors_in}
use Rattle.four_pads.specs.Profile.{general_path, refused_with, profile_of, four_tests, four_of}
use Rattle.four_pads_file.specs.FileProfile.{numbers_in, with_loads, general_path_in, size_tests, four_pads_in}
use Rattle.four_pads_file.specs.declared.FourNumbers.{FourNumbers}

-- ---- a matrix of sixteen finite numbers
module _ (a b : Column) (size : length a ≡ 16) (fine : all_finite a ≡ true) where
  -- factoring into any slice of sixteen numbers
  is_settled : (out : Column) → length out ≡ 16 → factoring a 4 4 out (replicate 128 0) ≡ settled 4 4 (eliminate 4 (columns 4 4 a))
  is_settled out l =
      worked 4 4 a out (replicate 128 0)
      (passes 4 4 a out (replicate 128 0)
      (record {
        rows = record { at_least = omega arith; at_most = omega arith };
        cols = record { at_least = omega arith; at_most = omega arith };
        matrix = is_matrix_lem 4 4 a (omega arith) (omega arith) size;
        slice = is_matrix_lem 4 4 out (omega arith) (omega arith) l;
        room = length-replicate {A = ℕ} 128 0;
        numbers = fine;
      }))

  abbrev made : Factors
  made = eliminate 4 (columns 4 4 a)

  abbrev solved_for : Call (Unit {0}) Column
  solved_for = solving (flat made.columns) (store_of made.swaps) (record_for 4 4 made) b 1 (zeros 4)

  general_is : general_path a b ≡ and_then (factors_of a 4) (λ f. with_loads f (solution_by false f b))
  unfolding general_path factors_of solution_by settled
  general_is =
      rw (is_settled a size, is_settled (zeros 16) refl)
      (test_cases (all_finite (flat made.columns)) (λ t. rw t (sym (then_then solved_for.answer (λ _. done solved_for.left) _))) (λ t. rw t refl))

  -- past the test of the numbers
  pub four_general : all_finite b ≡ true → four_of a b ≡ profile_of (and_then (factors_of a 4) (λ f. with_loads f (solution_by false f b)))
  unfolding four_of
  four_general e = ap profile_of (tested_none (first_holding (four_tests a b)) refused (general_path a b) (none_first (four_tests a b) (rw (fine, e), tt))
      ∙ general_is)

-- ---- a file, as the reader tests it
abbrev lent : Stores
lent = stores (zeros 16) (zeros 4)

module _ (bytes : List ℕ) where
  abbrev n : ℕ
  n = pads_of bytes

  abbrev size : ℕ
  size = first_holding (size_tests bytes)

  numbered : Numbered (size_tests bytes)
  numbered = ((λ z. omega (arith, z)), ((λ z. omega (arith, z)), tt))

  -- the reader's tests are those of the size, then those of any file
  both : sized_refusal bytes 4 lent ≡ tested size (λ k. k) (file_refusal bytes)
  unfolding sized_refusal file_refusal
  both = first_behind (size_tests bytes) (file_tests true bytes) numbered

  general_refused : (file_refusal bytes ≡ 0 → ⊥) → general_path_in bytes ≡ refused (file_refusal bytes)
  unfolding general_path_in factors_in
  general_refused some = rw (tested_some (file_refusal bytes) refused (factors_of (matrix_of n bytes) n) some) refl

  pub file_refused : (number : ℕ) → number ≡ sized_refusal bytes 4 lent → (number ≡ 0 → ⊥) → refused_with number ≡ four_pads_in bytes
  unfolding four_pads_in profile_of
  file_refused number e some =
      tested_cases size refused (general_path_in bytes) (λ o. refused_with number ≡ profile_of o)
      (λ z. let is : number ≡ file_refusal bytes = e ∙ both ∙ tested_none size (λ k. k) (file_refusal bytes) z in
      ap refused_with is ∙ ap profile_of (sym (general_refused (λ y. some (is ∙ y)))))
      (λ s. ap refused_with (e ∙ both ∙ tested_some size (λ k. k) (file_refusal bytes) s))

  -- ---- a file that is read
  module _ (none : sized_refusal bytes 4 lent ≡ 0) where
    -- both parts of the tests
    parts : (size ≡ 0) × (file_refusal bytes ≡ 0)
    parts =
        tested_cases size (λ k. k) (file_refusal bytes) (λ k. k ≡ 0 → (size ≡ 0) × (file_refusal bytes ≡ 0)) (λ z y. (z, y)) (λ s z. absurd (s z))
        (sym both ∙ none)

    four : n ≡ 4
    four = eqb-true n 4 (not-false _ (first_none (size_tests bytes) numbered parts.0).1.0)

    finite_parts : (all_finite (matrix_of n bytes) && all_finite (readings_of n bytes)) ≡ true
    finite_parts =
        sym (finite_append (matrix_of n bytes) (readings_of n bytes)) ∙ ap all_finite (sym (numbers_parts n bytes)) ∙ (file_whole bytes parts.1).numbers

    -- as if the size stood there
    at_four : (k : ℕ) → k ≡ 4 → (all_finite (matrix_of k bytes) && all_finite (readings_of k bytes)) ≡ true
        → four_of (matrix_of k bytes ++ drop (k * k) (zeros 16)) (readings_of k bytes ++ drop k (zeros 4))
        ≡ profile_of (and_then (factors_of (matrix_of k bytes) k) (λ f. with_loads f (solution_by false f (readings_of k bytes))))
    at_four k e h =
        let a = matrix_of 4 bytes in
        let b = readings_of 4 bytes in
        let fine : (all_finite a && all_finite b) ≡ true = rw e at h in
        let first = and_first (all_finite a) (all_finite b) fine in
        let second = and_second (all_finite a) (all_finite b) fine in
        rw e (ap₂ four_of (append-nil a) (append-nil b) ∙ four_general a b (length_list 16 _) first second)

    pub file_loaded : four_of (filled bytes lent).matrix (filled bytes lent).readings ≡ four_pads_in bytes
    unfolding four_pads_in general_path_in factors_in
    file_loaded =
        rw (tested_none size refused (general_path_in bytes) parts.0, tested_none (file_refusal bytes) refused (factors_of (matrix_of n bytes) n) parts.1)
        (at_four n four finite_parts)

-- ---- what was read, and what becomes of it
module _ (bytes : List ℕ) where
  read_cases : (P : FourNumbers → Type 0)
      → (sized_refusal bytes 4 lent ≡ 0 → P (record { number = 0; matrix = (filled bytes lent).matrix; readings = (filled bytes lent).readings }))
      → ((sized_refusal bytes 4 lent ≡ 0 → ⊥) → P (record { number = sized_refusal bytes 4 lent; matrix = zeros 16; readings = zeros 4 }))
      → P (numbers_in bytes)
  unfolding numbers_in reading_sized
  read_cases P accepts refuses =
      tested_cases (sized_refusal bytes 4 lent) (leaving lent) (record { answer = done (pads_of bytes); left = filled bytes lent })
      (λ o. P (record { number = number_of o.answer; matrix = o.left.matrix; readings = o.left.readings })) accepts refuses

  refused_as : ((numbers_in bytes).number ≡ 0 → ⊥) → refused_with (numbers_in bytes).number ≡ four_pads_in bytes
  refused_as =
      read_cases (λ r. (r.number ≡ 0 → ⊥) → refused_with r.number ≡ four_pads_in bytes) (λ z some. absurd (some refl))
      (λ some _. file_refused bytes (sized_refusal bytes 4 lent) refl some)

  loaded_as : (numbers_in bytes).number ≡ 0 → four_of (numbers_in bytes).matrix (numbers_in bytes).readings ≡ four_pads_in bytes
  loaded_as =
      read_cases (λ r. r.number ≡ 0 → four_of r.matrix r.readings ≡ four_pads_in bytes) (λ z _. file_loaded bytes z) (λ some z. absurd (some z))

  -- THEOREM. Where the file is refused by the reader, the profile is that refusal; else it is the profile of the numbers that were read.
  module _ (r : FourNumbers) (is : r ≡ numbers_in bytes) where
    pub refused_end : (r.number ≡ 0 → ⊥) → refused_with r.number ≡ four_pads_in bytes
    refused_end some =
        ap (λ (r : FourNumbers). refused_with r.number) is ∙ refused_as (λ z. some (ap (λ (r : FourNumbers). r.number) is ∙ z))

    pub loaded_end : r.number ≡ 0 → (a : Column) → a ≡ r.matrix → four_of a r.readings ≡ four_pads_in bytes
    loaded_end none a e =
        ap (λ (a : Column). four_of a r.readings) e ∙ ap (λ (r : FourNumbers). four_of r.matrix r.readings) is
        ∙ loaded_as (ap (λ (r : FourNumbers). r.number) (sym is) ∙ none)

-- what the reader answers and leaves, as the code has it
pub read_numbers : (bytes : List ℕ) (o : Outcome ℕ) (matrix readings : Column) → o ≡ (reading_sized bytes 4 lent).answer
    → stores matrix readings ≡ (reading_sized bytes 4 lent).left → (number : ℕ) → number ≡ number_of o
    → ◌≡◌ {A = FourNumbers} (record { number = number; matrix = matrix; readings = readings }) (numbers_in bytes)
unfolding numbers_in
read_numbers bytes o matrix readings told left number is =
    λ i. record { number = (is ∙ ap number_of told) i; matrix = (left i).matrix; readings = (left i).readings }
