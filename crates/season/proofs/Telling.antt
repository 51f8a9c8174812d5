-- What a file brings to a season, as the code puts it together; and what is known of it: a refusal is one of 1 to 9 and the one that the answer for the file
-- gives, an accepted file lists at most 64 pads and is in one of the five bands. By the cases of the outcomes. Assumes nothing.
use Rattle.std.proofs.Common.{◌≡◌, ℕ, ◌+◌, ◌*◌, ◌<◌, ◌≤◌, true, false, T, List, [], ◌∷◌, length, take, replicate, sym, refl, ap, ◌∙◌, arith}
use Rattle.std.proofs.Common.{Option, Result, Ok, Err}
use lib.Ieee.{nan, binary64, fits}
use lib.Ieee.Scale.{finite}
use Rattle.numbers.specs.Numbers.{magnitude}
use Rattle.numbers.specs.Column.{Column, zeros}
use Rattle.finite.specs.Finite.{all_finite}
use Rattle.numbers.proofs.Choice.{cond_cases}
use Rattle.finite.proofs.Finite.{finite_entry}
use Rattle.store.specs.Columns.{columns, is_matrix}
use Rattle.store.proofs.Columns.{sized, column_within, entry_at}
use Rattle.std.specs.Result.{IsErrAnd, result_unwrap_or}
use Rattle.refusals.specs.declared.Refusal.{Refusal}
use Rattle.refusals.specs.Outcome.{Outcome, done, refused, outcome, number, number_of, and_then, Call, leaving}
use Rattle.refusals.specs.Refusals.{seventh}
use Rattle.refusals.proofs.Outcomes.{handed_on, tested_some, tested_cases, none_given}
use Rattle.refusals.proofs.Cases.{done_same, refused_same, never_both, tested_done, tested_refused, then_done, then_refused}
use Rattle.ranking.specs.Ranking.{Choice, loaded, pads_to, chosen, listing, ranking}
use Rattle.ranking.proofs.Calls.{not_refused, ranking_accepted}
use Rattle.ranking.proofs.Inserting.{length_ranked}
use Rattle.ranking.proofs.Listing.{length_pads}
use Rattle.factors.specs.declared.Record.{Record}
use Rattle.factors.proofs.Held.{Passed, passed, square_matrix}
use Rattle.elimination.specs.Elimination.{eliminate}
use Rattle.lu.specs.Factoring.{factoring}
use Rattle.from_factors.specs.Solving.{solve_asks, solving}
use Rattle.from_factors.proofs.Accepted.{accepted_columns}
use Rattle.panel_file.specs.File.{pads_of, matrix_of, readings_of}
use Rattle.panel_file.specs.Reading.{file_refusal}
use Rattle.panel_file.proofs.Longer.{any_longer}
use Rattle.bands.specs.Bands.{least_on_diagonal, biased, band_on, band_number}
use Rattle.bands.proofs.Banded.{banded}
use Rattle.bands.proofs.Least.{diagonal_at, least_is, finite_magnitude}
use Rattle.crossing.specs.Below.{Packed, packed, packed_in, factors_of, solution_by, solution_in}
use Rattle.crossing.specs.Factors.{factors_in, loads_of}
use Rattle.crossing.proofs.Below.{factored_rows, factored_seven, solution_few}
use Rattle.crossing.proofs.Factors.{file_good, factors_few}
use Rattle.season.specs.declared.Crossing.{Crossing}
use Rattle.season.specs.Telling.{Share, share_of, telling, share_told}
use Rattle.season.proofs.Doubles.{factor_double, magnitude_double, exponent_most}

number_then : {A B : Type 0} (o : Outcome A) (f : A → B) → number_of (and_then o (λ a. done (f a))) ≡ number_of o
number_then (done a) f = refl
number_then (refused k) f = refl

same_number : {A B C : Type 0} (o : Outcome A) (f : A → Outcome B) (g : A → Outcome C) → ((a : A) → number_of (f a) ≡ number_of (g a))
    → number_of (and_then o f) ≡ number_of (and_then o g)
same_number (done a) f g h = h a
same_number (refused k) f g h = refl

-- ---- the solve for the readings: no refusal's number is 0

some_seventh : (made : Column) (k : ℕ) → (seventh made).answer ≡ refused k → k ≡ 0 → ⊥
unfolding seventh
some_seventh made k =
    cond_cases (λ (o : Call (Unit {0}) Column). o.answer ≡ refused k → k ≡ 0 → ⊥) (all_finite made) (λ _ d _. never_both tt k d)
    (λ _ d z. let seven : 7 ≡ k = refused_same 7 k d in omega arith)

solve_some : (p : Packed) (b : Column) (k : ℕ) → solution_by false p b ≡ refused k → k ≡ 0 → ⊥
unfolding solution_by solving
solve_some p b k e z =
    let call = solving p.factors p.swaps p.told b 1 (zeros p.told.rows) in
    then_refused call.answer (λ _. done call.left) k e
    (λ d. tested_cases _ (leaving (zeros p.told.rows)) _ (λ (o : Call (Unit {0}) Column). o.answer ≡ refused k → k ≡ 0 → ⊥) (λ _. some_seventh _ k)
    (λ some f y. some (refused_same _ k f ∙ y)) d z)
    (λ _ _ f. never_both call.left k f)

-- ---- the pads that are listed: the ranking of finite loads is not refused

unwrapped : (r : Result ℕ Refusal) (k default : ℕ) → outcome r ≡ done k → result_unwrap_or r default ≡ k
unwrapped (Ok j) k default e = done_same j k e
unwrapped (Err x) k default e = never_both k (number x) (sym e)

pub listed_pads : (n : ℕ) (loads : Column) (was : List ℕ) → (1 ≤ n) × (n ≤ 64) × (length loads ≡ n) × (all_finite loads ≡ true) → length was ≡ n
    → (r : Result ℕ Refusal) → outcome r ≡ (ranking (loaded loads) loads n was).answer → result_unwrap_or r 0 ≡ length (listing (loaded loads) loads n)
listed_pads n loads was known room r is =
    unwrapped r (length (listing (loaded loads) loads n)) 0
    (is ∙ ap (λ (o : Call ℕ (List ℕ)). o.answer)
    (ranking_accepted (loaded loads) n loads was
    (not_refused n loads was
    (record { size = record { at_least = known.0; at_most = known.1 }; loads_length = known.2; ranks_length = room; finite = known.3 }))))

-- ---- a crossing's share, o being what the solve came to

pub told_refused : (o : Outcome Column) (r : Refusal) (answer : Result Crossing Refusal) (f : Column → Outcome Share)
    → refused (number r) ≡ and_then o (λ _. done (tt {0})) → IsErrAnd answer (λ e. e ≡ r) → share_told answer ≡ and_then o f
told_refused (done x) r answer f e h = never_both (tt {0}) (number r) (sym e)
told_refused (refused k) r answer f e h = rw (handed_on r answer h) (ap refused (refused_same (number r) k e))

-- the loads, where it is not refused
pub record Loads (o : Outcome Column) : Type 0 where
  pub x : Column
  pub is : o ≡ done x

pub loads_in : (o : Outcome Column) (none : Unit {0}) → done none ≡ and_then o (λ _. done tt) → Loads o
loads_in (done x) none e = record { x = x; is = refl }
loads_in (refused k) none e = never_both none k e

pub told_share : (o : Outcome Column) (l : Loads o) (p : Packed) (front : Column) (pads : ℕ) (band : Option ℕ) → front ≡ l.x
    → pads ≡ length (listing (loaded front) front p.told.rows) → band_number band ≡ band_on p.factors p.told.rows
    → share_told (Ok (record { pads = pads; band = band })) ≡ and_then o (λ x. done (share_of p x))
told_share o l p front pads band same a b =
    let count = a ∙ ap (λ (x : Column). length (listing (loaded x) x p.told.rows)) same in
    (λ i. done (record { pads = count i; band = b i })) ∙ ap (λ (q : Outcome Column). and_then q (λ x. done (share_of p x))) (sym l.is)

-- ---- a file, by its factors
module _ (bytes : List ℕ) where
  abbrev n : ℕ
  n = pads_of bytes

  pub telling_held : (told : Record) (M R : Column) (S : List ℕ) → factors_in bytes ≡ done (packed_in M S told) → take told.rows R ≡ readings_of n bytes
      → and_then (solution_in false M S told R) (λ x. done (share_of (packed_in M S told) x)) ≡ telling bytes
  unfolding telling
  telling_held told M R S e r =
      ap (λ (b : Column). and_then (solution_by false (packed_in M S told) b) (λ x. done (share_of (packed_in M S told) x))) r
      ∙ ap (λ (o : Outcome Packed). and_then o (λ f. and_then (solution_by false f (readings_of n bytes)) (λ x. done (share_of f x)))) (sym e)

  pub telling_refused : (r : Refusal) (answer : Result Crossing Refusal) → factors_in bytes ≡ refused (number r) → IsErrAnd answer (λ e. e ≡ r)
      → share_told answer ≡ telling bytes
  unfolding telling
  telling_refused r answer e h =
      ap share_told (handed_on r answer h)
      ∙ ap (λ (o : Outcome Packed). and_then o (λ f. and_then (solution_by false f (readings_of n bytes)) (λ x. done (share_of f x)))) (sym e)

  -- ---- THEOREM. A file is refused by a season exactly as the answer for it is, and with the same number.
  pub telling_number : number_of (telling bytes) ≡ number_of (loads_of bytes)
  unfolding telling loads_of
  telling_number =
      same_number (factors_in bytes) _ _ (λ f. number_then (solution_by false f (readings_of n bytes)) (share_of f))

  refused_telling : (file_refusal bytes ≡ 0 → ⊥) → telling bytes ≡ refused (file_refusal bytes)
  unfolding telling factors_in
  refused_telling some = rw (tested_some (file_refusal bytes) refused (factors_of (matrix_of n bytes) n) some)

  -- ---- the refusal's number

  factors_some : (k : ℕ) → factors_in bytes ≡ refused k → k ≡ 0 → ⊥
  unfolding factors_in
  factors_some k e z =
      tested_refused (file_refusal bytes) (factors_of (matrix_of n bytes) n) k e
      (λ none d. let seven = factored_seven n (matrix_of n bytes) (file_good bytes none) k d in omega (arith, seven)) (λ some d. some (d ∙ z))

  -- THEOREM. It is one of 1 to 9.
  pub telling_among : (k : ℕ) → telling bytes ≡ refused k → (1 ≤ k) × (k ≤ 9)
  unfolding telling
  telling_among k e =
      then_refused (factors_in bytes) (λ f. and_then (solution_by false f (readings_of n bytes)) (λ x. done (share_of f x))) k e
      (λ d. (let some = factors_some k d in omega (arith, some), let few = factors_few bytes k d in omega arith))
      (λ p _ d. then_refused (solution_by false p (readings_of n bytes)) (λ x. done (share_of p x)) k d
      (λ f. (let some = solve_some p (readings_of n bytes) k f in omega (arith, some), let few = solution_few false p (readings_of n bytes) k f in omega arith))
      (λ x _ f. never_both (share_of p x) k f))

  -- ---- the share of an accepted file

  -- its factors and its loads
  pub record Solved (s : Share) : Type 0 where
    pub p : Packed
    pub x : Column
    pub factored : factors_in bytes ≡ done p
    pub loads : solution_by false p (readings_of n bytes) ≡ done x
    pub is : s ≡ share_of p x

  pub solved_file : (s : Share) → telling bytes ≡ done s → Solved s
  unfolding telling
  solved_file s e =
      then_done (factors_in bytes) (λ f. and_then (solution_by false f (readings_of n bytes)) (λ x. done (share_of f x))) s e
      (λ p d f. then_done (solution_by false p (readings_of n bytes)) (λ x. done (share_of p x)) s f
      (λ x g h. record { p = p; x = x; factored = d; loads = g; is = sym (done_same (share_of p x) s h) }))

  module _ (s : Share) (w : Solved s) where
    abbrev p : Packed
    p = w.p

    abbrev b : Column
    b = readings_of n bytes

    -- the file passed its tests, its factoring was accepted, and the solve's tests passed
    read : (file_refusal bytes ≡ 0) × (factors_of (matrix_of n bytes) n ≡ done p)
    unfolding factors_in
    read = tested_done (file_refusal bytes) (factors_of (matrix_of n bytes) n) p w.factored

    rows : p.told.rows ≡ n
    rows = factored_rows n (matrix_of n bytes) (file_good bytes read.0) p read.1

    passes : Passed p.factors p.swaps p.told (solve_asks b p.told.rows 1 (zeros p.told.rows))
    unfolding solution_by solving
    passes =
        let call = solving p.factors p.swaps p.told b 1 (zeros p.told.rows) in
        passed _ _ _ _ (none_given _ (zeros p.told.rows) _ (sym (number_then call.answer (λ _. call.left)) ∙ ap number_of w.loads))

    factors_matrix : is_matrix p.factors p.told.rows p.told.rows ≡ true
    factors_matrix = square_matrix _ _ _ _ refl passes

    -- the columns of its factors are those of the elimination
    made : columns n n p.factors ≡ (eliminate n (columns n n (matrix_of n bytes))).columns
    unfolding factors_of
    made =
        let a = matrix_of n bytes in
        let f = factoring a n n a (replicate 128 0) in
        then_done f.answer (λ told. done (packed f.left.factors f.left.store told)) p read.1
        (λ told ok same. ap (λ (q : Packed). columns n n q.factors) (sym (done_same _ p same)) ∙ accepted_columns n n a a (replicate 128 0) told ok)

    diagonal_finite : (i : ℕ) → i < n → finite (diagonal_at (columns n n p.factors) i) ≡ true
    diagonal_finite i h =
        let size = (sized n n p.factors (ap (λ (k : ℕ). is_matrix p.factors k k) (sym rows) ∙ factors_matrix)).size in
        let place = entry_at n n i i p.factors nan h h in
        ap finite (sym place) ∙ finite_entry p.factors (i * n + i) passes.finite (omega (arith, column_within n n i p.factors h size))

    diagonal_double : (i : ℕ) → T (fits binary64 (diagonal_at (columns n n p.factors) i))
    diagonal_double i = rw made (factor_double n bytes i i)

    exponent_few : biased (least_on_diagonal n (columns n n p.factors)) ≤ 2046
    exponent_few =
        let cs = columns n n p.factors in
        let size = (file_good bytes read.0).least in
        let l = least_is cs (diagonal_finite 0 size) n size in
        let x = diagonal_at cs l.place in
        rw l.is (exponent_most (magnitude x) (magnitude_double x (diagonal_double l.place)) (finite_magnitude x (diagonal_finite l.place l.here)))

    few_chosen : (choice : Choice) (ps : List ℕ) → length (chosen choice ps) ≤ length ps
    unfolding chosen
    few_chosen choice [] = omega arith
    few_chosen choice (q ∷ ps) =
        cond_cases (λ (l : List ℕ). length l ≤ length (q ∷ ps)) (choice q) (λ _. let h = few_chosen choice ps in omega arith)
        (λ _. let h = few_chosen choice ps in omega arith)

    few_pads : (x : Column) → length (listing (loaded x) x p.told.rows) ≤ 64
    unfolding listing
    few_pads x =
        omega (
          arith,
          length_ranked x (chosen (loaded x) (pads_to p.told.rows)),
          few_chosen (loaded x) (pads_to p.told.rows),
          length_pads p.told.rows,
          rows,
          (file_good bytes read.0).most,
        )

    -- THEOREM. An accepted file lists at most 64 pads, and its crossing is in one of the five bands.
    pub share_known : (s.pads ≤ 64) × (s.band < 5)
    unfolding band_on
    share_known =
        rw (w.is, factors_matrix) (few_pads w.x, rw rows (banded _ exponent_few))

-- THEOREM. The first 33,287 bytes of a file, all that the program holds of it, bring what the whole file does.
pub longer_telling : (bytes : List ℕ) → telling (take 33287 bytes) ≡ telling bytes
longer_telling = any_longer telling refused refused_telling
