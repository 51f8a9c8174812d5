-- The reader as its tests go: what a file that is not refused is known by, and the two ends of the call. By the tests in their order. Assumes nothing.
use mathlib.Core.Path.{◌≡◌, refl, sym, ap, ◌∙◌}
use mathlib.Core.Bool.{Bool, true, false, not, ◌&&◌}
use mathlib.Core.List.{List, [], ◌∷◌, ◌++◌}
use Prim.Native.Nat.{ℕ, ◌+◌, ◌*◌, ◌≤◌, ◌<◌}
use native.Mathlib.Nat.{mul-le-mul}
use native.Mathlib.Omega.{arith}
use borrow.Author.Rules.{rules}
use borrow.Author.Tests.{eqb-true, eq-eqb, not-false}
use lib.Dec.{eqb}
use lib.ListN.{length, take, drop}
use lib.Seq.{length-take-le}
use lib.Ieee.Scale.{finite}
use Rattle.numbers.specs.Each.{list_of}
use Rattle.numbers.specs.Column.{Column}
use Rattle.finite.specs.Finite.{all_finite}
use Rattle.numbers.proofs.Choice.{test_cases, and_first, and_second}
use Rattle.std.proofs.Common.{Result, Ok}
use Rattle.std.specs.Result.{IsErrAnd}
use Rattle.refusals.specs.declared.Refusal.{Refusal}
use Rattle.refusals.specs.Outcome.{done, number, first_holding, tested, Call, leaving}
use Rattle.refusals.specs.Refusals.{outside}
use Rattle.refusals.proofs.Outcomes.{Promise, promise_refused, promise_made, Numbered, first_none}
use Rattle.refusals.proofs.Tests.{Inside, inside, not_outside}
use Rattle.panel_file.specs.File.{headed, pads_of, file_length, number_at, numbers_of, matrix_of, readings_of}
use Rattle.panel_file.specs.Reading.{file_tests, file_refusal, Stores, stores, stores_fit, reading_refusal, filled, reading}
use Rattle.panel_file.specs.Reading.{sized_refusal, reading_sized}
use Rattle.panel_file.specs.Inner.{Holds, reading_beside}
use Rattle.refusals.proofs.Cases.{first_among, refused_before, passed_before}
use Rattle.panel_file.proofs.Numbers.{number_finite}

-- a byte times itself is a small number
pub square : (n m : ℕ) → n ≤ m → n * n ≤ m * m
square n m h = mul-le-mul h h

-- ---- the tests, the last of which waits for the others

module _ (fit : Bool) (bytes : List ℕ) where
  abbrev pub whole_test : Bool
  whole_test = fit && eqb (length bytes) (file_length (pads_of bytes))

  -- the tests that need no number of the file
  abbrev pub head_tests : List (ℕ × Bool)
  head_tests = (8, not (headed bytes)) ∷ (1, outside 1 (pads_of bytes)) ∷ (3, not whole_test) ∷ []

  abbrev pub late_tests : List (ℕ × Bool)
  late_tests = (5, not (all_finite (numbers_of (pads_of bytes) bytes))) ∷ []

  pub refused_early : (r : Refusal) → number r ≡ first_holding head_tests → number r ≡ first_holding (file_tests fit bytes)
  unfolding file_tests
  refused_early r = refused_before head_tests late_tests r

  pub refused_late : 0 ≡ first_holding head_tests → first_holding late_tests ≡ first_holding (file_tests fit bytes)
  unfolding file_tests
  refused_late = passed_before head_tests late_tests (search rules)

  -- the numbers are tested once their places are known to be there
  pub places_tested : 0 ≡ first_holding head_tests → length bytes ≡ file_length (pads_of bytes)
  places_tested e = let none = first_none head_tests (search rules) (sym e) in eqb-true _ _ (and_second fit _ (not-false _ none.1.1.0))

  -- what holds where no test does
  pub record Whole : Type 0 where
    pub is_headed : headed bytes ≡ true
    pub size : Inside 1 (pads_of bytes)
    pub fits : fit ≡ true
    pub file_length_lem : length bytes ≡ file_length (pads_of bytes)
    pub numbers : all_finite (numbers_of (pads_of bytes) bytes) ≡ true

  pub file_numbered : Numbered (file_tests fit bytes)
  unfolding file_tests
  file_numbered = ((λ z. omega (arith, z)), ((λ z. omega (arith, z)), ((λ z. omega (arith, z)), ((λ z. omega (arith, z)), tt))))

  pub accepted : first_holding (file_tests fit bytes) ≡ 0 → Whole
  unfolding file_tests
  accepted e =
      let none = first_none (file_tests fit bytes) file_numbered e in
      let lengths : whole_test ≡ true = not-false _ none.1.1.0 in
      record {
        is_headed = not-false _ none.0;
        size = inside 1 (pads_of bytes) none.1.0;
        fits = and_first fit _ lengths;
        file_length_lem = eqb-true _ _ (and_second fit _ lengths);
        numbers = not-false _ none.1.1.1.0;
      }

-- ---- a file by its bytes alone

module _ (bytes : List ℕ) where
  pub file_whole : file_refusal bytes ≡ 0 → Whole true bytes
  unfolding file_refusal
  file_whole e = accepted true bytes e

  -- its refusals are 8, 1, 3 and 5
  pub file_among : (P : ℕ → Type 0) → P 0 → P 8 → P 1 → P 3 → P 5 → P (file_refusal bytes)
  unfolding file_refusal file_tests
  file_among P none eight one three five = first_among P _ none (eight, (one, (three, (five, tt))))

  -- stores that fit are not refused: the reader's refusal is the file's
  pub reading_fit : (s : Stores) → stores_fit s ≡ true
      → reading bytes s ≡ tested (file_refusal bytes) (leaving s) (record { answer = done (pads_of bytes); left = filled bytes s })
  unfolding reading reading_refusal file_refusal
  reading_fit s e = rw e

-- ---- a file that is read into stores
module _ (bytes : List ℕ) (s : Stores) where
  pub reader_whole : reading_refusal bytes s ≡ 0 → Whole (stores_fit s) bytes
  unfolding reading_refusal
  reader_whole e = accepted (stores_fit s) bytes e

  pub no_refusal : stores_fit s ≡ true → Whole true bytes → reading_refusal bytes s ≡ 0
  unfolding reading_refusal file_tests first_holding
  no_refusal fit w =
      rw (
        fit,
        w.is_headed,
        not_outside 1 (pads_of bytes) w.size.at_least w.size.at_most,
        eq-eqb (length bytes) (file_length (pads_of bytes)) w.file_length_lem,
        w.numbers,
      )

-- ---- the two ends of reading into the front of stores that fit or not

module _ (fit : Bool) (bytes : List ℕ) (matrix readings : Column) where
  abbrev lent : Stores
  lent = stores matrix readings

  abbrev made : Call ℕ Stores
  made = record { answer = done (pads_of bytes); left = filled bytes lent }

  pub read_refused : (r : Refusal) (answer : Result ℕ Refusal) → number r ≡ first_holding (file_tests fit bytes) → IsErrAnd answer (λ e. e ≡ r)
      → Promise (reading_beside fit bytes lent) answer lent
  unfolding reading_beside
  read_refused r answer e h = promise_refused (first_holding (file_tests fit bytes)) lent made r answer e h

  -- a file that is not refused, n being its number of pads: what the code is owed where it fills the stores
  pub record Passed (n : ℕ) : Type 0 where
    pub none : first_holding (file_tests fit bytes) ≡ 0
    pub pads : n ≡ pads_of bytes
    pub hold : fit ≡ true → pads_of bytes ≤ 64 → Holds (pads_of bytes) lent

  module _ (n : ℕ) (passed : Passed n) where
    known : Whole fit bytes
    known = accepted fit bytes passed.none

    places : length bytes ≡ 6 + 8 * (n * n + n)
    places = rw passed.pads known.file_length_lem

    room : Holds n lent
    room = rw passed.pads (passed.hold known.fits known.size.at_most)

    pub matrix_fits : n * n ≤ length matrix
    matrix_fits = room.0

    pub readings_fit : n ≤ length readings
    readings_fit = room.1

    pub matrix_count : n * n ≡ length (take (n * n) matrix)
    matrix_count = sym (length-take-le (n * n) matrix matrix_fits)

    pub readings_count : n ≡ length (take n readings)
    readings_count = sym (length-take-le n readings readings_fit)

    each_finite : (k : ℕ) → k < n * n + n → finite (number_at bytes k) ≡ true
    each_finite = rw passed.pads (number_finite bytes (pads_of bytes * pads_of bytes + pads_of bytes) known.numbers)

    pub matrix_asks : (6 + 8 * (0 + length (take (n * n) matrix)) ≤ length bytes)
        × ((k : ℕ) → k < length (take (n * n) matrix) → finite (number_at bytes (0 + k)) ≡ true)
    matrix_asks =
        let l = matrix_count in
        (omega (arith, places), λ k h. each_finite (0 + k) (omega arith))

    pub readings_asks : (6 + 8 * (n * n + length (take n readings)) ≤ length bytes)
        × ((k : ℕ) → k < length (take n readings) → finite (number_at bytes (n * n + k)) ≡ true)
    readings_asks =
        let l = readings_count in
        (omega (arith, places), λ k h. each_finite (n * n + k) (omega arith))

    pub read_filled : (m r : Column) → m ≡ list_of (length (take (n * n) matrix)) (λ k. number_at bytes (0 + k))
        → r ≡ list_of (length (take n readings)) (λ k. number_at bytes (n * n + k))
        → Promise (reading_beside fit bytes lent) (Ok n) (stores (m ++ drop (n * n) matrix) (r ++ drop n readings))
    unfolding reading_beside
    read_filled m r p q =
        let pm : m ≡ matrix_of n bytes = p ∙ ap (λ (k : ℕ). list_of k (λ i. number_at bytes (0 + i))) (sym matrix_count) in
        let pr : r ≡ readings_of n bytes = q ∙ ap (λ (k : ℕ). list_of k (λ i. number_at bytes (n * n + i))) (sym readings_count) in
        promise_made (first_holding (file_tests fit bytes)) lent made (Ok n) (stores (m ++ drop (n * n) matrix) (r ++ drop n readings)) (sym passed.none)
        (ap done passed.pads) (rw (← passed.pads) (λ i. stores (pm i ++ drop (n * n) matrix) (pr i ++ drop n readings)))

-- ---- the calls: stores for the greatest file, and a file of one size

pub greatest_hold : (n : ℕ) (s : Stores) → stores_fit s ≡ true → n ≤ 64 → Holds n s
greatest_hold n s fit small =
    let m : length s.matrix ≡ 4096 = eqb-true _ _ (and_first (eqb (length s.matrix) 4096) _ fit) in
    let r : length s.readings ≡ 64 = eqb-true _ _ (and_second (eqb (length s.matrix) 4096) _ fit) in
    (omega (arith, square n 64 small), omega arith)

pub own_hold : (n : ℕ) (s : Stores) → (eqb (length s.matrix) (n * n) && eqb (length s.readings) n) ≡ true → Holds n s
own_hold n s fit =
    let m : length s.matrix ≡ n * n = eqb-true _ _ (and_first (eqb (length s.matrix) (n * n)) _ fit) in
    let r : length s.readings ≡ n = eqb-true _ _ (and_second (eqb (length s.matrix) (n * n)) _ fit) in
    (omega arith, omega arith)

module _ (bytes : List ℕ) (n : ℕ) (s : Stores) where
  -- another size behind a good head
  abbrev pub other_size : Bool
  other_size = headed bytes && not (eqb (pads_of bytes) n)

  pub sized_other : other_size ≡ true → reading_sized bytes n s ≡ leaving s 1
  unfolding reading_sized sized_refusal tested first_holding
  sized_other e = rw (and_first (headed bytes) _ e, and_second (headed bytes) _ e)

  -- else the tests are those of any file
  abbrev pub own_fit : Bool
  own_fit = eqb (length s.matrix) (pads_of bytes * pads_of bytes) && eqb (length s.readings) (pads_of bytes)

  pub sized_own : other_size ≡ false → reading_sized bytes n s ≡ reading_beside own_fit bytes s
  unfolding reading_sized reading_beside sized_refusal first_holding file_tests
  sized_own e =
      test_cases (headed bytes)
      (λ h. let own : n ≡ pads_of bytes = sym (eqb-true _ _ (not-false _ (rw h at e))) in rw (h, own, eq-eqb (pads_of bytes) (pads_of bytes) refl))
      (λ h. rw h)
