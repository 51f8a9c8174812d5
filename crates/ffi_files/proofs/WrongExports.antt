-- Two wrong programs for each call of `ffi_files` that can be refused, as in ffi/proofs/WrongExports: all that always give the same, and one that tells a
-- number where it is refused. The texts have the meaning of the calls of `panel_text`, and their theorems. Assumes nothing.
use mathlib.Core.Path.{ap}
use mathlib.Core.List.{List, [], ◌∷◌}
use Prim.Native.Nat.{ℕ}
use native.Mathlib.Omega.{arith}
use lib.ListN.{length}
use Rattle.numbers.specs.Column.{Column, zeros}
use Rattle.refusals.specs.Outcome.{number_of, first_holding, tested, and_then}
use Rattle.refusals.specs.Refusals.{outside}
use Rattle.refusals.proofs.Strength.{TwoShutOut, two}
use Rattle.lu.specs.Factoring.{tossed_in}
use Rattle.panel_file.specs.File.{little_endian, field_at, headed, pads_of, file_length}
use Rattle.panel_file.specs.Reading.{file_tests, Stores, stores, reading_refusal, reading}
use Rattle.panel_file_writer.specs.Writing.{writing_refusal}
use Rattle.crossing_pads.specs.Moving.{moves_refusal, moves_of, moving}
use Rattle.ffi.specs.Exports.{pads_in, count_in}
use Rattle.ffi_files.specs.Files.{writing_answer}

-- a name for all that has to unfold for a call to be refused
Refuses : Type 0
unfolding first_holding tested outside tossed_in little_endian field_at headed file_tests reading_refusal reading writing_refusal
    moves_refusal moves_of moving
Refuses = Unit {0}

-- `LXP`, version 1, one pad and no numbers, which is 3
abbrev one_pad : List ℕ
one_pad = 76 ∷ 88 ∷ 80 ∷ 1 ∷ 0 ∷ 1 ∷ []

-- ---- reading: the number of pads in the head, also where it is refused
pub record Read : Type 0 where
  pub number : ℕ
  pub pads : ℕ
  pub left : Stores

abbrev reads : List ℕ × Stores → Read
reads x = let o = reading x.0 x.1 in record { number = number_of o.answer; pads = count_in o.answer; left = o.left }

abbrev head_pads : List ℕ × Stores → Read
head_pads x = record { number = (reads x).number; pads = pads_of x.0; left = (reads x).left }

pub wejdarox_read_panel : TwoShutOut reads head_pads
unfolding Refuses
wejdarox_read_panel =
    two reads head_pads (one_pad, stores [] []) (one_pad, stores [] []) ([], stores [] []) (λ d. omega (arith, ap (λ (o : Read). o.pads) d))
    (λ d. omega (arith, ap (λ (o : Read). o.number) d))

-- ---- writing, its number and its count: the length of the file, also where it is refused
abbrev writes : ℕ × (Column × (Column × List ℕ)) → ℕ × ℕ
writes x = let o = writing_answer x.0 x.1.0 x.1.1.0 (length x.1.1.1) in (number_of o, count_in o)

abbrev length_told : ℕ × (Column × (Column × List ℕ)) → ℕ × ℕ
length_told x = ((writes x).0, file_length x.0)

pub wejdarox_write_panel : TwoShutOut writes length_told
unfolding Refuses
wejdarox_write_panel =
    two writes length_told (1, ([], ([], []))) (0, ([], ([], []))) (1, ([], ([], []))) (λ d. omega (arith, ap (λ (o : ℕ × ℕ). o.1) d))
    (λ d. omega (arith, ap (λ (o : ℕ × ℕ). o.0) d))

-- ---- moving, with a slice of 64: the number of pads in the head, also where it is refused
pub record Moved : Type 0 where
  pub number : ℕ
  pub pads : ℕ
  pub tossed : ℕ
  pub left : Column

abbrev moves : List ℕ × (ℕ × Column) → Moved
moves x =
    let o = moving x.0 x.1.0 x.1.1 in
    record { number = number_of o.answer; pads = pads_in o.answer; tossed = tossed_in o.answer; left = o.left }

abbrev head_moves : List ℕ × (ℕ × Column) → Moved
head_moves x = record { number = (moves x).number; pads = pads_of x.0; tossed = (moves x).tossed; left = (moves x).left }

pub wejdarox_moves : TwoShutOut moves head_moves
unfolding Refuses
wejdarox_moves =
    two moves head_moves (one_pad, (1, zeros 64)) (one_pad, (1, zeros 64)) ([], (1, zeros 64)) (λ d. omega (arith, ap (λ (o : Moved). o.pads) d))
    (λ d. omega (arith, ap (λ (o : Moved). o.number) d))
