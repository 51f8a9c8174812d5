-- The four-pad profile, of a matrix and of a panel file: one outcome each, no program that always gives the same, and the errors that request 11 invites,
-- each shut out at a matrix, or at a file, of small numbers. By computation. Assumes nothing.
use mathlib.Core.Path.{◌≡◌, refl, sym, ap}
use mathlib.Core.Bool.{not}
use mathlib.Core.List.{List, [], ◌∷◌, ◌++◌}
use Prim.Native.Nat.{ℕ}
use native.Mathlib.Omega.{arith}
use lib.Dec.{eqb}
use lib.ListN.{length, replicate}
use lib.Ieee.{Float, nan}
use Rattle.numbers.specs.Column.{Column, entry}
use Rattle.store.specs.Columns.{columns, flat}
use Rattle.store.specs.Steps.{Matrix}
use Rattle.refusals.specs.Outcome.{refused, number_of, first_holding, tested}
use Rattle.refusals.proofs.Strength.{ShutsOut, shut_out, TwoShutOut, two}
use Rattle.panel_file.specs.File.{little_endian, field_at, headed, pads_of, file_length, number_at}
use Rattle.panel_file.specs.Reading.{file_tests, file_refusal}
use Rattle.from_factors.proofs.Figures.{Computes, n0, n1, n2, n4, n5, n8, small}
use Rattle.from_factors.specs.Solving.{solved}
use Rattle.crossing.specs.Below.{factors_of, solution_by}
use Rattle.crossing.specs.Factors.{factors_in, loads_of}
use Rattle.four_pads.specs.declared.FourPads.{FourPads}
use Rattle.four_pads.specs.Profile.{general_path, refused_with, profile_of, four_of, four_pads}
use Rattle.four_pads_file.specs.FileProfile.{general_path_in, four_pads_in}
use Rattle.figures.proofs.WrongFiles.{zero_one}

-- a name for all that has to unfold for four pads to be worked out
Profiles : Type 0
unfolding Computes little_endian field_at headed number_at file_tests file_refusal factors_of solution_by factors_in loads_of general_path profile_of
    four_of general_path_in
    four_pads_in
Profiles = Unit {0}

-- ---- a matrix and readings

abbrev Four : Type 0
Four = Matrix × Column

abbrev profile : Four → FourPads
profile x = four_pads x.0 x.1

-- four entries
abbrev four : Float → Float → Float → Float → Column
four a b c d = a ∷ b ∷ c ∷ d ∷ []

-- columns (0, 2, 0, 0), (1, 0, 0, 0) and the last two of the identity: the whole case of document 01, with two pads beside it
abbrev swapped : Four
swapped = (four n0 n2 n0 n0 ∷ four n1 n0 n0 n0 ∷ four n0 n0 n1 n0 ∷ four n0 n0 n0 n1 ∷ [], four n5 n8 n1 n2)

-- no number but 0; a reciprocal that overflows, with a reading that is no number
abbrev dead : Four
dead = (four n0 n0 n0 n0 ∷ four n0 n0 n0 n0 ∷ four n0 n0 n0 n0 ∷ four n0 n0 n0 n0 ∷ [], four n1 n1 n1 n1)

abbrev overflowing : Four
overflowing = (four (small 1023) n0 n0 n0 ∷ four n0 n1 n0 n0 ∷ four n0 n0 n1 n0 ∷ four n0 n0 n0 n1 ∷ [], four nan n1 n1 n1)

pub one_accepted : profile swapped
    ≡ record {
      number = 0;
      factors = n2 ∷ n0 ∷ n0 ∷ n0 ∷ n0 ∷ n1 ∷ n0 ∷ n0 ∷ n0 ∷ n0 ∷ n1 ∷ n0 ∷ n0 ∷ n0 ∷ n0 ∷ n1 ∷ [];
      pairs = 1;
      swaps = 0 ∷ 1 ∷ 0 ∷ 0 ∷ 0 ∷ 0 ∷ 0 ∷ 0 ∷ [];
      loads = four n4 n5 n1 n2;
    }
unfolding Profiles
one_accepted = refl

-- a refusal that keeps what was made
abbrev keeping : Four → FourPads
keeping x = let r = profile x in record { number = r.number; factors = flat x.0; pairs = r.pairs; swaps = r.swaps; loads = x.1 }

pub profiled : TwoShutOut profile keeping
unfolding Profiles
profiled =
    two profile keeping dead swapped dead (λ d. zero_one _ _ (sym (ap (λ (p : FourPads). p.loads) d))) (λ d. omega (arith, ap (λ (p : FourPads). p.number) d))

-- the readings tested by the solve alone, after factoring's 7
abbrev late_readings : Four → FourPads
late_readings x = profile_of (general_path (flat x.0) x.1)

pub not_late_readings : ShutsOut profile late_readings
unfolding Profiles
not_late_readings = shut_out profile late_readings overflowing (λ d. omega (arith, ap (λ (p : FourPads). p.number) d))

-- solved for the readings as they stand, no row of them exchanged
abbrev unswapped : Four → FourPads
unswapped x =
    let r = profile x in
    let loads = solved 4 (columns 4 4 r.factors) [] x.1 in
    record { number = r.number; factors = r.factors; pairs = r.pairs; swaps = r.swaps; loads = loads }

five_eight : n5 ≡ n8 → ⊥
five_eight d = let z : ◌≡◌ {A = ℕ} 5 1 = cc in omega arith

pub not_unswapped : ShutsOut profile unswapped
unfolding Profiles
not_unswapped = shut_out profile unswapped swapped (λ d. five_eight (ap (λ (p : FourPads). entry p.loads 1) d))

-- no swap told
abbrev untold : Four → FourPads
untold x = let r = profile x in record { number = r.number; factors = r.factors; pairs = 0; swaps = replicate 8 0; loads = r.loads }

pub not_untold : ShutsOut profile untold
unfolding Profiles
not_untold = shut_out profile untold swapped (λ d. omega (arith, ap (λ (p : FourPads). p.pairs) d))

-- ---- a panel file

-- 1 by its bytes; the head of n pads
abbrev bytes_of1 : List ℕ
bytes_of1 = 0 ∷ 0 ∷ 0 ∷ 0 ∷ 0 ∷ 0 ∷ 240 ∷ 63 ∷ []

abbrev head_of : ℕ → List ℕ
head_of n = 76 ∷ 88 ∷ 80 ∷ 1 ∷ 0 ∷ n ∷ []

-- four pads: the identity, readings 1
abbrev identity_file : List ℕ
identity_file =
    let other = replicate 32 0 ++ bytes_of1 in
    head_of 4 ++ bytes_of1 ++ other ++ other ++ other ++ bytes_of1 ++ bytes_of1 ++ bytes_of1 ++ bytes_of1

pub file_accepted : four_pads_in identity_file
    ≡ record {
      number = 0;
      factors = n1 ∷ n0 ∷ n0 ∷ n0 ∷ n0 ∷ n1 ∷ n0 ∷ n0 ∷ n0 ∷ n0 ∷ n1 ∷ n0 ∷ n0 ∷ n0 ∷ n0 ∷ n1 ∷ [];
      pairs = 0;
      swaps = replicate 8 0;
      loads = four n1 n1 n1 n1;
    }
unfolding Profiles
file_accepted = refl

-- THEOREM. The six bytes of a head with one pad are refused with 1 here, and with 3 by the program.
pub head_alone : (four_pads_in (head_of 1) ≡ refused_with 1) × (number_of (loads_of (head_of 1)) ≡ 3)
unfolding Profiles
head_alone = (refl, refl)

-- any size: the program's own order
abbrev any_size : List ℕ → FourPads
any_size bytes = profile_of (general_path_in bytes)

pub filed : TwoShutOut four_pads_in any_size
unfolding Profiles
filed =
    two four_pads_in any_size (head_of 1) identity_file (head_of 1) (λ d. omega (arith, ap (λ (p : FourPads). p.number) d))
    (λ d. omega (arith, ap (λ (p : FourPads). p.number) d))

-- the length tested before the size
abbrev length_first : List ℕ → FourPads
length_first bytes =
    let whole = eqb (length bytes) (file_length (pads_of bytes)) in
    profile_of (tested (first_holding ((8, not (headed bytes)) ∷ (3, not whole) ∷ (1, not (eqb (pads_of bytes) 4)) ∷ [])) refused (general_path_in bytes))

pub not_length_first : ShutsOut four_pads_in length_first
unfolding Profiles
not_length_first = shut_out four_pads_in length_first (head_of 1) (λ d. omega (arith, ap (λ (p : FourPads). p.number) d))
