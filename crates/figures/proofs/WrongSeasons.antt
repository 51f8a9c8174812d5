-- The band of factors and a season: one outcome each, no program that always gives the same (of a season: that always refuses, or leaves the season as it was),
-- and the errors that request 13 invites, each shut out at a file or at factors of one or two pads. By computation. Assumes nothing.
use mathlib.Core.Path.{◌≡◌, refl, ap}
use mathlib.Core.Bool.{false, cond}
use mathlib.Core.List.{List, [], ◌∷◌, ◌++◌}
use Prim.Native.Nat.{ℕ, ◌+◌}
use native.Mathlib.Omega.{arith}
use lib.Dec.{leb}
use lib.ListN.{get_or, replicate}
use lib.IntN.{pos}
use lib.Ieee.{Float, fin, lt, to_bits, size}
use Rattle.numbers.specs.Each.{turns_from, list_of}
use Rattle.numbers.specs.Numbers.{zero64, magnitude}
use Rattle.numbers.specs.Column.{Column, entry}
use Rattle.store.specs.Columns.{columns, is_matrix}
use Rattle.store.specs.Steps.{Matrix, column}
use Rattle.refusals.specs.Outcome.{Outcome, done, refused, first_holding, tested, and_then, Call, leaving}
use Rattle.refusals.proofs.Strength.{ShutsOut, shut_out, TwoShutOut, two, BothShutOut, both}
use Rattle.panel_file.specs.File.{little_endian, field_at, headed, pads_of, number_at}
use Rattle.panel_file.specs.Reading.{file_tests, file_refusal}
use Rattle.ranking.proofs.Figures.{Ranks}
use Rattle.from_factors.proofs.Figures.{Computes, n0, n1}
use Rattle.bands.specs.Bands.{less_at, least_on_diagonal, biased, band_of, band_on}
use Rattle.crossing.specs.Below.{Packed, factors_of, solution_by}
use Rattle.crossing.specs.Factors.{factors_in}
use Rattle.season.specs.declared.Season.{Season}
use Rattle.season.specs.Telling.{Share, telling}
use Rattle.season.specs.Season.{File, one_more_at, counted, handing, counts_of, season_from}

-- a name for all that has to unfold for a file to be handed over
unfoldable HandsOver : Type 0
unfolding Computes Ranks to_bits size little_endian field_at headed number_at file_tests file_refusal factors_of solution_by factors_in less_at
    least_on_diagonal biased
    band_of band_on telling one_more_at counted handing
HandsOver = Unit {0}

-- ---- the band of factors: a size and the factors

abbrev bands : ℕ × Column → ℕ
bands x = band_on x.1 x.0

-- 2^600
abbrev large : Float
large = fin false 1 (pos 600)

-- 1, whose exponent is 1023; diagonal 1, 2^600
abbrev one_factor : ℕ × Column
one_factor = (1, n1 ∷ [])

abbrev two_factors : ℕ × Column
two_factors = (2, n1 ∷ n0 ∷ n0 ∷ large ∷ [])

-- 1023 taken for the lower band
abbrev lower_band : ℕ → ℕ
lower_band e = cond (leb e 0) 0 (cond (leb e 511) 1 (cond (leb e 1023) 2 (cond (leb e 1534) 3 (cond (leb e 2046) 4 5))))

abbrev lower : ℕ × Column → ℕ
lower x = cond (is_matrix x.1 x.0 x.0) (lower_band (biased (least_on_diagonal x.0 (columns x.0 x.0 x.1)))) 5

-- the greatest magnitude on the diagonal
abbrev greater_at : Matrix → ℕ → Float → Float
greater_at cs i most = let x = magnitude (entry (column cs i) i) in cond (lt most x) x most

abbrev greatest : ℕ × Column → ℕ
greatest x = cond (is_matrix x.1 x.0 x.0) (band_of (biased (turns_from (greater_at (columns x.0 x.0 x.1)) 0 x.0 zero64))) 5

pub band : TwoShutOut bands lower
unfolding HandsOver
band = two bands lower one_factor one_factor (0, n1 ∷ []) (λ d. omega (arith, d)) (λ d. omega (arith, d))

pub not_greatest : ShutsOut bands greatest
unfolding HandsOver
not_greatest = shut_out bands greatest two_factors (λ d. omega (arith, d))

-- ---- a season and a file

abbrev hands : Season × File → Call (Unit {0}) Season
hands x = handing x.0 x.1

abbrev season_with : ℕ → ℕ → List ℕ → ℕ → List ℕ → Season
season_with f a r p b = record { files = f; accepted = a; refused = r; pads = p; bands = b }

-- no file
abbrev none : Season
none = season_with 0 0 (replicate 9 0) 0 (replicate 5 0)

-- 4,000 empty files
abbrev full : Season
full = season_with 4000 0 (0 ∷ 0 ∷ 0 ∷ 0 ∷ 0 ∷ 0 ∷ 0 ∷ 4000 ∷ 0 ∷ []) 0 (replicate 5 0)

-- `LXP`, version 1, one pad, with two numbers, each by its bytes
abbrev one_pad : List ℕ → List ℕ → File
one_pad matrix reading = 76 ∷ 88 ∷ 80 ∷ 1 ∷ 0 ∷ 1 ∷ matrix ++ reading

abbrev bytes_of1 : List ℕ
bytes_of1 = 0 ∷ 0 ∷ 0 ∷ 0 ∷ 0 ∷ 0 ∷ 240 ∷ 63 ∷ []

-- matrix 1, reading 1; the same with reading 0, an idle pad; matrix 0, which is refused with 6
abbrev loaded_file : File
loaded_file = one_pad bytes_of1 bytes_of1

abbrev idle_file : File
idle_file = one_pad bytes_of1 (replicate 8 0)

abbrev singular_file : File
singular_file = one_pad (replicate 8 0) bytes_of1

pub one_loaded : hands (none, loaded_file) ≡ record { answer = done tt; left = season_with 1 1 (replicate 9 0) 1 (0 ∷ 0 ∷ 0 ∷ 1 ∷ 0 ∷ []) }
unfolding HandsOver
one_loaded = refl

pub with_file : BothShutOut hands (λ x. x.0)
with_file = both hands (λ x. x.0) (none, loaded_file) one_loaded (λ d. omega (arith, ap (λ (s : Season). s.files) d))

-- a program that leaves another number at a place of its counts is shut out there
module _ (wrong : Season × File → Call (Unit {0}) Season) where
  by_count : (x : Season × File) (k : ℕ) → (get_or (counts_of (hands x).left) k 0 ≡ get_or (counts_of (wrong x).left) k 0 → ⊥) → ShutsOut hands wrong
  by_count x k n = shut_out hands wrong x (λ e. n (ap (λ (o : Call (Unit {0}) Season). get_or (counts_of o.left) k 0) e))

-- another season left, where the file is counted
abbrev left_by : (Season → File → Season) → Season × File → Call (Unit {0}) Season
left_by f x = tested (first_holding ((10, leb 4000 x.0.files) ∷ [])) (leaving x.0) (record { answer = done tt; left = f x.0 x.1 })

-- the file that is one too many counted
abbrev one_too_many : Season × File → Call (Unit {0}) Season
one_too_many x =
    tested (first_holding ((10, leb 4001 x.0.files) ∷ [])) (leaving x.0) (record { answer = done tt; left = counted x.0 (telling x.1) })

pub not_one_too_many : ShutsOut hands one_too_many
unfolding HandsOver counts_of
not_one_too_many = by_count one_too_many (full, []) 16 (λ d. omega (arith, d))

-- pads with idle ones: all that the file has
abbrev with_pads : ℕ → Outcome Share → Outcome Share
with_pads n o = and_then o (λ s. done (record { pads = n; band = s.band }))

abbrev idle_listed : Season × File → Call (Unit {0}) Season
idle_listed = left_by (λ s file. counted s (with_pads (pads_of file) (telling file)))

pub not_idle_listed : ShutsOut hands idle_listed
unfolding HandsOver counts_of
not_idle_listed = by_count idle_listed (none, idle_file) 10 (λ d. omega (arith, d))

-- a refused file banded, by the factors that it has
abbrev banded_by : Outcome Packed → List ℕ → List ℕ
banded_by (done f) b = one_more_at (band_on f.factors f.told.rows) b
banded_by (refused number) b = b

abbrev refused_banded : Season × File → Call (Unit {0}) Season
refused_banded =
    left_by (λ s file. let t = counted s (telling file) in season_with t.files t.accepted t.refused t.pads (banded_by (factors_in file) s.bands))

pub not_refused_banded : ShutsOut hands refused_banded
unfolding HandsOver counts_of
not_refused_banded = by_count refused_banded (none, singular_file) 11 (λ d. omega (arith, d))

-- 1023 in the lower band, and the greatest on the diagonal instead of the least: another band of the factors
abbrev banded_as : (ℕ × Column → ℕ) → Season × File → Call (Unit {0}) Season
banded_as f =
    left_by (λ s file. counted s (and_then (factors_in file)
    (λ p. and_then (telling file) (λ t. done (record { pads = t.pads; band = f (p.told.rows, p.factors) })))))

pub not_lower_band : ShutsOut hands (banded_as lower)
unfolding HandsOver counts_of
not_lower_band = by_count (banded_as lower) (none, loaded_file) 13 (λ d. omega (arith, d))

-- two pads, columns (1, 0) and (0, 2^600), readings 1 and 2^600
abbrev bytes_of_large : List ℕ
bytes_of_large = 0 ∷ 0 ∷ 0 ∷ 0 ∷ 0 ∷ 0 ∷ 112 ∷ 101 ∷ []

abbrev two_pads : File
two_pads = 76 ∷ 88 ∷ 80 ∷ 1 ∷ 0 ∷ 2 ∷ bytes_of1 ++ replicate 8 0 ++ replicate 8 0 ++ bytes_of_large ++ bytes_of1 ++ bytes_of_large

pub not_greatest_banded : ShutsOut hands (banded_as greatest)
unfolding HandsOver counts_of
not_greatest_banded = by_count (banded_as greatest) (none, two_pads) 14 (λ d. omega (arith, d))

-- ---- the counts in a row: with the pads behind the bands; and read with the number of files in front

abbrev pads_last : Season → List ℕ
pads_last s = s.accepted ∷ list_of 9 (λ k. get_or s.refused k 0) ++ list_of 5 (λ b. get_or s.bands b 0) ++ s.pads ∷ s.files ∷ []

-- one accepted file of one pad, in the fourth band
abbrev one : Season
one = season_with 1 1 (replicate 9 0) 1 (0 ∷ 0 ∷ 0 ∷ 1 ∷ 0 ∷ [])

pub counts : TwoShutOut counts_of pads_last
unfolding HandsOver counts_of
counts =
    two counts_of pads_last one none one (λ d. omega (arith, ap (λ (l : List ℕ). get_or l 10 0) d)) (λ d. omega (arith, ap (λ (l : List ℕ). get_or l 0 0) d))

abbrev files_first : List ℕ → Season
files_first l = season_with (get_or l 0 0) (get_or l 1 0) (list_of 9 (λ k. get_or l (2 + k) 0)) (get_or l 11 0) (list_of 5 (λ b. get_or l (12 + b) 0))

abbrev one_row : List ℕ
one_row = 1 ∷ replicate 9 0 ++ 1 ∷ 0 ∷ 0 ∷ 0 ∷ 1 ∷ 0 ∷ 1 ∷ []

pub from_counts : TwoShutOut season_from files_first
unfolding HandsOver season_from
from_counts =
    two season_from files_first one_row one_row (replicate 17 0) (λ d. omega (arith, ap (λ (s : Season). s.pads) d))
    (λ d. omega (arith, ap (λ (s : Season). s.files) d))
