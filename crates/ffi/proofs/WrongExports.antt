-- Two wrong programs for each call of `ffi`: all that always give the same, and one that makes an error of this layer, named at each call. Shown at refused
-- inputs, where nothing has to be computed, and for a panel file at one of no numbers; what the meanings shut out besides is in the theorems of the calls that
-- are handed on to. Assumes nothing.
use mathlib.Core.Path.{◌≡◌, sym, ap}
use mathlib.Core.Bool.{Bool, true, false, false≢true}
use mathlib.Core.List.{List, [], ◌∷◌}
use Prim.Native.Nat.{ℕ, ◌+◌}
use native.Mathlib.Omega.{arith}
use lib.ListN.{get_or, set, replicate}
use lib.IntN.{pos}
use lib.Signed.{mag}
use lib.Ieee.{Float}
use Rattle.numbers.specs.Each.{list_of}
use Rattle.numbers.specs.Numbers.{zero64}
use Rattle.numbers.specs.Column.{Column, zeros}
use Rattle.store.specs.Columns.{is_matrix}
use Rattle.refusals.specs.Outcome.{Outcome, number_of, first_holding, tested, Call}
use Rattle.refusals.specs.Refusals.{outside}
use Rattle.refusals.proofs.Strength.{ShutsOut, shut_out, TwoShutOut, two}
use Rattle.ranking.specs.Ranking.{Choice, loaded, every_pad, ranking_refusal, ranking}
use Rattle.factors.specs.declared.Record.{Record}
use Rattle.factors.specs.Factors.{record_of, Slices, record_after}
use Rattle.factors.specs.Held.{held_refusal}
use Rattle.lu.specs.Factoring.{factoring_refusal, factoring, with_toss_ups, factoring_answer, pairs_in, dead_columns_in, tossed_in}
use Rattle.adding.specs.Adding.{adding_refusal, adding, adding_answer}
use Rattle.from_factors.specs.Solving.{solving, inverting}
use Rattle.from_factors.specs.Determinant.{producing, determining, inverse_test}
use Rattle.from_factors.proofs.Figures.{n0, n1}
use Rattle.scaled_determinant.specs.declared.Scaled.{Scaled}
use Rattle.scaled_determinant.specs.Scaled.{scaled}
use Rattle.scaled_determinant.specs.Determinant.{vanished, scaling}
use Rattle.panel_file.specs.File.{little_endian, field_at, headed, pads_of}
use Rattle.panel_file.specs.Reading.{file_tests, file_refusal}
use Rattle.crossing.specs.Factors.{factors_in, toss_ups_in, tosses_given, stiffness, settled_in, loads_of}
use Rattle.crossing_pads.specs.Ordering.{ranks_left, Ranks, ordering}
use Rattle.season.specs.Telling.{telling}
use Rattle.season.specs.Season.{one_more_at, counted, handing, counts_of, season_from}
use Rattle.ffi.specs.Exports.{value_after, result_after, pads_in, count_in}

-- a name for all that has to unfold for a call to be refused
Refuses : Type 0
unfolding is_matrix first_holding outside tested ranking_refusal ranking record_after held_refusal factoring_refusal factoring
    with_toss_ups factoring_answer
    pairs_in dead_columns_in tossed_in adding_refusal adding adding_answer solving inverting producing determining scaling inverse_test little_endian
    field_at headed
    file_tests file_refusal factors_in tosses_given stiffness settled_in loads_of ranks_left ordering
Refuses = Unit {0}

-- ---- factoring and adding

-- what the two calls give: the number, the two slices, the pairs, the dead columns and the toss-ups
pub record Given : Type 0 where
  pub number : ℕ
  pub factors : Column
  pub store : List ℕ
  pub pairs : ℕ
  pub dead : ℕ
  pub tossed : ℕ

abbrev given_of : Outcome (Record × ℕ) → Slices → ℕ → ℕ → Given
given_of answer left pairs dead =
    record { number = number_of answer; factors = left.factors; store = left.store; pairs = pairs; dead = dead; tossed = tossed_in answer }

-- sizes, the pairs and the dead columns before, two slices and the swap store
pub record Lent : Type 0 where
  pub m : ℕ
  pub n : ℕ
  pub pairs : ℕ
  pub dead : ℕ
  pub first : Column
  pub second : Column
  pub store : List ℕ

-- no rows, one pair and one dead column; one row, and no store
abbrev no_rows : Lent
no_rows = record { m = 0; n = 0; pairs = 1; dead = 1; first = []; second = []; store = [] }

abbrev no_store : Lent
no_store = record { m = 1; n = 0; pairs = 1; dead = 1; first = []; second = []; store = [] }

abbrev factors : Lent → Given
factors x =
    let answer = factoring_answer x.first x.m x.n x.second x.store in
    given_of answer (factoring x.first x.m x.n x.second x.store).left (pairs_in answer) (dead_columns_in answer)

-- the pairs, or the dead columns, as they were, where it is refused
abbrev pairs_left : Lent → Given
pairs_left x = let o = factors x in record { number = o.number; factors = o.factors; store = o.store; pairs = x.pairs; dead = o.dead; tossed = o.tossed }

abbrev dead_left : Lent → Given
dead_left x = let o = factors x in record { number = o.number; factors = o.factors; store = o.store; pairs = o.pairs; dead = x.dead; tossed = o.tossed }

pub wejdarox_factor : TwoShutOut factors pairs_left × ShutsOut factors dead_left
unfolding Refuses
wejdarox_factor = (
  two factors pairs_left no_rows no_rows no_store (λ d. omega (arith, ap (λ (o : Given). o.pairs) d)) (λ d. omega (arith, ap (λ (o : Given). o.number) d)),
  shut_out factors dead_left no_rows (λ d. omega (arith, ap (λ (o : Given). o.dead) d)),
)

abbrev adds : Lent → Given
adds x =
    let r = record_of x.m x.n x.pairs x.dead in
    let o = adding x.first x.second x.store r in
    given_of (adding_answer x.first x.second x.store r) o.left (record_after r o.answer).pairs (record_after r o.answer).dead

-- no pairs, or no dead columns, whatever there were
abbrev pairs_lost : Lent → Given
pairs_lost x = let o = adds x in record { number = o.number; factors = o.factors; store = o.store; pairs = 0; dead = o.dead; tossed = o.tossed }

abbrev dead_lost : Lent → Given
dead_lost x = let o = adds x in record { number = o.number; factors = o.factors; store = o.store; pairs = o.pairs; dead = 0; tossed = o.tossed }

pub wejdarox_add_column : TwoShutOut adds pairs_lost × ShutsOut adds dead_lost
unfolding Refuses
wejdarox_add_column = (
  two adds pairs_lost no_rows no_rows no_store (λ d. omega (arith, ap (λ (o : Given). o.pairs) d)) (λ d. omega (arith, ap (λ (o : Given). o.number) d)),
  shut_out adds dead_lost no_rows (λ d. omega (arith, ap (λ (o : Given). o.dead) d)),
)

-- ---- the calls on factors: rows and columns exchanged, which gives 2 for 1; one row and no store is 3

abbrev pub no_sizes : Record
no_sizes = record_of 0 1 0 0

abbrev pub one_by_one : Record
one_by_one = record_of 1 1 0 0

abbrev pub swapped : Record → Record
swapped r = record_of r.columns r.rows r.pairs r.dead

-- the calls that leave one slice: their number, and the slice
abbrev pub numbered : Call (Unit {0}) Column → ℕ × Column
numbered o = (number_of o.answer, o.left)

abbrev solves : Record × (Column × (List ℕ × (ℕ × (Column × Column)))) → ℕ × Column
solves x = numbered (solving x.1.0 x.1.1.0 x.0 x.1.1.1.1.0 x.1.1.1.0 x.1.1.1.1.1)

pub wejdarox_solve : TwoShutOut solves (λ x. solves (swapped x.0, x.1))
unfolding Refuses
wejdarox_solve =
    two solves (λ x. solves (swapped x.0, x.1)) (no_sizes, ([], ([], (1, ([], []))))) (no_sizes, ([], ([], (1, ([], [])))))
    (one_by_one, ([], ([], (1, ([], [])))))
    (λ d. omega (arith, ap (λ (o : ℕ × Column). o.0) d)) (λ d. omega (arith, ap (λ (o : ℕ × Column). o.0) d))

abbrev inverts : Record × (Column × (List ℕ × Column)) → ℕ × Column
inverts x = numbered (inverting x.1.0 x.1.1.0 x.0 x.1.1.1)

pub wejdarox_inverse : TwoShutOut inverts (λ x. inverts (swapped x.0, x.1))
unfolding Refuses
wejdarox_inverse =
    two inverts (λ x. inverts (swapped x.0, x.1)) (no_sizes, ([], ([], []))) (no_sizes, ([], ([], []))) (one_by_one, ([], ([], [])))
    (λ d. omega (arith, ap (λ (o : ℕ × Column). o.0) d)) (λ d. omega (arith, ap (λ (o : ℕ × Column). o.0) d))

-- the determinant, where a number stood before: +0.0 for every refusal
abbrev determines : Record × (Column × (List ℕ × Float)) → ℕ × Float
determines x = let o = determining x.1.0 x.1.1.0 x.0 in (number_of o, result_after zero64 o x.1.1.1)

abbrev zeroed : Record × (Column × (List ℕ × Float)) → ℕ × Float
zeroed x = ((determines x).0, n0)

pub wejdarox_determinant : TwoShutOut determines zeroed
unfolding Refuses
wejdarox_determinant =
    two determines zeroed (no_sizes, ([], ([], n1))) (no_sizes, ([], ([], n1))) (one_by_one, ([], ([], n1)))
    (λ d. one_zero (ap (λ (o : ℕ × Float). o.1) d)) (λ d. omega (arith, ap (λ (o : ℕ × Float). o.0) d))
  where
    one_zero : n1 ≡ n0 → ⊥
    one_zero d = let z : ◌≡◌ {A = ℕ} 0 1 = cc in omega arith

-- the scaled determinant, where a significand and an exponent stood before: +0.0 with 0 for every refusal
abbrev scales : Record × (Column × (List ℕ × Scaled)) → ℕ × Scaled
scales x = let o = scaling x.1.0 x.1.1.0 x.0 in (number_of o, value_after o x.1.1.1)

abbrev nothing_left : Record × (Column × (List ℕ × Scaled)) → ℕ × Scaled
nothing_left x = ((scales x).0, vanished)

-- 1 times two to the power 3
abbrev eight : Scaled
eight = scaled n1 (pos 3)

not_vanished : eight ≡ vanished → ⊥
not_vanished d = omega (arith, ap (λ (r : Scaled). mag r.exponent) d)

pub wejdarox_scaled_determinant : TwoShutOut scales nothing_left
unfolding Refuses
wejdarox_scaled_determinant =
    two scales nothing_left (no_sizes, ([], ([], eight))) (no_sizes, ([], ([], eight))) (one_by_one, ([], ([], eight)))
    (λ d. not_vanished (ap (λ (o : ℕ × Scaled). o.1) d)) (λ d. omega (arith, ap (λ (o : ℕ × Scaled). o.0) d))

-- the invertible test, where a truth stood before: false for every refusal
abbrev tests : Record × (Column × (List ℕ × Bool)) → ℕ × Bool
tests x = let o = inverse_test x.1.0 x.1.1.0 x.0 in (number_of o, value_after o x.1.1.1)

abbrev denied : Record × (Column × (List ℕ × Bool)) → ℕ × Bool
denied x = ((tests x).0, false)

pub wejdarox_is_invertible : TwoShutOut tests denied
unfolding Refuses
wejdarox_is_invertible =
    two tests denied (no_sizes, ([], ([], true))) (no_sizes, ([], ([], true))) (one_by_one, ([], ([], true)))
    (λ d. false≢true (sym (ap (λ (o : ℕ × Bool). o.1) d))) (λ d. omega (arith, ap (λ (o : ℕ × Bool). o.0) d))

-- ---- the ranking, of any choice of pads: the size told as their number, also where it is refused
pub record Counted : Type 0 where
  pub number : ℕ
  pub count : ℕ
  pub left : List ℕ

module _ (choice : Column → Choice) where
  abbrev ranks : ℕ × (Column × List ℕ) → Counted
  ranks x =
      let o = ranking (choice x.1.0) x.1.0 x.0 x.1.1 in record { number = number_of o.answer; count = count_in o.answer; left = o.left }

  abbrev size_told : ℕ × (Column × List ℕ) → Counted
  size_told x = record { number = (ranks x).number; count = x.0; left = (ranks x).left }

  ranks_strong : TwoShutOut ranks size_told
  unfolding Refuses
  ranks_strong =
      two ranks size_told (1, ([], [])) (0, ([], [])) (1, ([], [])) (λ d. omega (arith, ap (λ (o : Counted). o.count) d))
      (λ d. omega (arith, ap (λ (o : Counted). o.number) d))

pub wejdarox_rank : TwoShutOut (ranks loaded) (size_told loaded)
wejdarox_rank = ranks_strong loaded

pub wejdarox_rank_all : TwoShutOut (ranks (λ _. every_pad)) (size_told (λ _. every_pad))
wejdarox_rank_all = ranks_strong (λ _. every_pad)

-- ---- a panel file, with slices of 64: the number of pads in its head, also where it is refused; `LXP`, version 1, one pad and no numbers is 3
pub record Ordered : Type 0 where
  pub number : ℕ
  pub pads : ℕ
  pub tossed : ℕ
  pub left : Ranks

abbrev orders : List ℕ × Ranks → Ordered
orders x =
    let o = ordering x.0 x.1.ranks x.1.loads in
    record { number = number_of o.answer; pads = pads_in o.answer; tossed = tossed_in o.answer; left = o.left }

abbrev head_pads : List ℕ × Ranks → Ordered
head_pads x = record { number = (orders x).number; pads = pads_of x.0; tossed = (orders x).tossed; left = (orders x).left }

abbrev one_pad : List ℕ
one_pad = 76 ∷ 88 ∷ 80 ∷ 1 ∷ 0 ∷ 1 ∷ []

abbrev unranked : Ranks
unranked = record { ranks = replicate 64 0; loads = zeros 64 }

pub wejdarox_pad_order : TwoShutOut orders head_pads
unfolding Refuses
wejdarox_pad_order =
    two orders head_pads (one_pad, unranked) (one_pad, unranked) ([], unranked) (λ d. omega (arith, ap (λ (o : Ordered). o.pads) d))
    (λ d. omega (arith, ap (λ (o : Ordered). o.number) d))

-- the stiffness, the same way
pub record Checked : Type 0 where
  pub number : ℕ
  pub value : Scaled
  pub tossed : ℕ

abbrev checks : List ℕ × Scaled → Checked
checks x =
    let o = stiffness x.0 in
    record { number = number_of o; value = result_after vanished o x.1; tossed = tosses_given (factors_in x.0) (toss_ups_in x.0) }

abbrev cleared : List ℕ × Scaled → Checked
cleared x = record { number = (checks x).number; value = vanished; tossed = (checks x).tossed }

pub wejdarox_stiffness : TwoShutOut checks cleared
unfolding Refuses
wejdarox_stiffness =
    two checks cleared (one_pad, eight) (one_pad, eight) ([], eight) (λ d. not_vanished (ap (λ (o : Checked). o.value) d))
    (λ d. omega (arith, ap (λ (o : Checked). o.number) d))

-- ---- a season, by its counts: the empty file that is one too many counted among the files, also where it is refused
pub record Season : Type 0 where
  pub number : ℕ
  pub counts : List ℕ

abbrev hands : List ℕ × List ℕ → Season
hands x = let o = handing (season_from x.1) x.0 in record { number = number_of o.answer; counts = counts_of o.left }

abbrev files_go_on : List ℕ × List ℕ → Season
files_go_on x = record { number = (hands x).number; counts = set (hands x).counts 16 (get_or x.1 16 0 + 1) }

-- 4,000 empty files, and none
abbrev full : List ℕ
full = set (set (replicate 17 0) 8 4000) 16 4000

pub wejdarox_with_file : TwoShutOut hands files_go_on
unfolding Refuses list_of telling one_more_at counted handing counts_of season_from
wejdarox_with_file =
    two hands files_go_on ([], full) ([], full) ([], replicate 17 0) (λ d. omega (arith, ap (λ (o : Season). get_or o.counts 16 0) d))
    (λ d. omega (arith, ap (λ (o : Season). o.number) d))
