-- The text that stands for a panel file: a line with the number of pads, then a line for each number of the file, with the 16 small hex digits of its bits.
use Rattle.std.specs.Prelude.{◌≡◌, true, false, cond, List, ℕ, ◌+◌, ◌-◌, ◌*◌, ◌%◌, ◌<◌, leb, ltb, eqb, length, get_or, drop, Float}
use Rattle.std.specs.Float.{binary64}
use Rattle.std.specs.Float.Ieee.{of_bits}
use Rattle.numbers.specs.Column.{Column}
use Rattle.numbers.specs.Each.{list_of}
use Rattle.refusals.specs.Outcome.{Call, leaving}
use Rattle.refusals.specs.Refusals.{outside}
use Rattle.panel_file_writer.specs.Writing.{Writing}

-- a hex digit's value, 16 for any other byte
unfoldable pub digit_of : ℕ → ℕ
digit_of b = cond (leb b 47) 16 (cond (leb b 57) (b - 48) (cond (leb b 96) 16 (cond (leb b 102) (b - 97 + 10) 16)))

-- ---- the bits that the digits from a place on stand for, the greatest first

abbrev pub digit_at : List ℕ → ℕ → ℕ
digit_at text at = digit_of (get_or text at 0) % 16

abbrev pub four_at : List ℕ → ℕ → ℕ
four_at text at = 4096 * digit_at text at + 256 * digit_at text (at + 1) + 16 * digit_at text (at + 2) + digit_at text (at + 3)

unfoldable pub bits_at : List ℕ → ℕ → ℕ
bits_at text at =
    0x1_0000_0000_0000 * four_at text at + 0x1_0000_0000 * four_at text (at + 4) + 0x1_0000 * four_at text (at + 8) + four_at text (at + 12)

-- ---- lines of 17 bytes

-- the 17 bytes at a place are a line: 16 digits and a newline
abbrev pub LineAt : List ℕ → ℕ → Type 0
LineAt text at = ((k : ℕ) → k < 16 → digit_of (get_or text (at + k) 0) < 16) × (get_or text (at + 16) 0 ≡ 10)

-- so many lines, from line `from` on
abbrev pub AreLines : List ℕ → ℕ → ℕ → Type 0
AreLines text from count = (k : ℕ) → k < count → LineAt text (17 * (from + k))

-- the number of line k, and so many of them, from line `from` on
unfoldable pub number_in : List ℕ → ℕ → Float
number_in text k = of_bits binary64 (bits_at text (17 * k))

abbrev pub numbers_in : List ℕ → ℕ → ℕ → Column
numbers_in text from count = list_of count (λ k. number_in text (from + k))

-- the lines for n pads: those of the matrix, then those of the readings, and nothing else
abbrev pub FileLines : ℕ → List ℕ → Type 0
FileLines n lines = (length lines ≡ 17 * (n * n + n)) × (AreLines lines 0 (n * n) × AreLines lines (n * n) n)

-- What these lines come to: the writer's answer on their numbers, and what it leaves in the slice, which held `out`; other lines are refused with 3.
pub data LinesWritten (n : ℕ) (lines out : List ℕ) (made : Call ℕ (List ℕ)) : Type 0 where
  whole : FileLines n lines → Writing n (numbers_in lines 0 (n * n)) (numbers_in lines (n * n) n) out made → LinesWritten n lines out made
  other : (FileLines n lines → ⊥) → made ≡ leaving out 3 → LinesWritten n lines out made

-- ---- the first line

-- the number of two decimal digits, 0 where one of them is none
unfoldable pub two_digits : ℕ → ℕ → ℕ
two_digits tens ones = cond (ltb 9 tens) 0 (cond (ltb 9 ones) 0 (10 * tens + ones))

-- the number of pads, one or two digits, and the place behind the line; 0 and 0 for no such line
unfoldable pub head_in : List ℕ → ℕ × ℕ
head_in text =
    cond (ltb (length text) 3) (0, 0)
    (cond (eqb (get_or text 1 0) 10) (two_digits 0 (digit_of (get_or text 0 0)), 2)
    (cond (eqb (get_or text 2 0) 10) (two_digits (digit_of (get_or text 0 0)) (digit_of (get_or text 1 0)), 3) (0, 0)))

-- What a text comes to: 1 for another number of pads than 1 to 64, else what its lines come to.
pub data TextWritten (text out : List ℕ) (made : Call ℕ (List ℕ)) : Type 0 where
  size : outside 1 (head_in text).0 ≡ true → made ≡ leaving out 1 → TextWritten text out made
  lines : outside 1 (head_in text).0 ≡ false → LinesWritten (head_in text).0 (drop (head_in text).1 text) out made → TextWritten text out made
