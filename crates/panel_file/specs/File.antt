-- Document 01, "Ranking and program": the panel file as a list of bytes. "Bytes `LXP`, 16-bit version 1, one byte n; then n·n matrix numbers by column
-- and n readings, all little-endian, floats by their bits."
use Rattle.std.specs.Prelude.{◌≡◌, Bool, true, ◌&&◌, List, [], ◌∷◌, ℕ, ◌+◌, ◌*◌, ◌<◌, leb, eqb, length, get_or, take, drop, Float}
use Rattle.std.specs.Float.{binary64}
use Rattle.std.specs.Float.Ieee.{of_bits}
use Rattle.numbers.specs.Each.{list_of}
use Rattle.numbers.specs.Column.{Column}

-- the number that bytes stand for, the least byte first
unfoldable pub little_endian : List ℕ → ℕ
little_endian [] = 0
little_endian (b ∷ bs) = b + 256 * little_endian bs

-- the number in the `width` bytes at a place, and the 64 bits there
unfoldable pub field_at : ℕ → List ℕ → ℕ → ℕ
field_at width bytes at = little_endian (take width (drop at bytes))

abbrev pub bits_at : List ℕ → ℕ → ℕ
bits_at = field_at 8

-- ---- the head, of six bytes

-- the mark `LXP`, and version 1 in the 16 bits behind it
unfoldable pub headed : List ℕ → Bool
headed bytes =
    leb 6 (length bytes) && (eqb (get_or bytes 0 0) 76 && eqb (get_or bytes 1 0) 88 && eqb (get_or bytes 2 0) 80 && eqb (field_at 2 bytes 3) 1)

-- the number of pads, n
abbrev pub pads_of : List ℕ → ℕ
pads_of bytes = get_or bytes 5 0

-- ---- the numbers

-- how many bytes a file of n pads has
abbrev pub file_length : ℕ → ℕ
file_length n = 6 + 8 * (n * n + n)

-- number k behind the head
unfoldable pub number_at : List ℕ → ℕ → Float
number_at bytes k = of_bits binary64 (bits_at bytes (6 + 8 * k))

-- all numbers; the matrix by column; the readings
abbrev pub numbers_of : ℕ → List ℕ → Column
numbers_of n bytes = list_of (n * n + n) (number_at bytes)

abbrev pub matrix_of : ℕ → List ℕ → Column
matrix_of n bytes = list_of (n * n) (λ k. number_at bytes (0 + k))

abbrev pub readings_of : ℕ → List ℕ → Column
readings_of n bytes = list_of n (λ k. number_at bytes (n * n + k))

-- ---- the file of a crossing

-- each number of a list is a byte, as those of every slice of bytes are
abbrev pub AllBytes : List ℕ → Type 0
AllBytes bytes = (k : ℕ) → get_or bytes k 0 < 256

-- The bytes are the file of a crossing of n pads: each is a byte, they are as many as the size asks for, and what is said above reads them as this size, this
-- matrix and these readings. The reader goes from the bytes to the crossing, the writer from the crossing to the bytes.
pub record IsFile (bytes : List ℕ) (n : ℕ) (matrix readings : Column) : Type 0 where
  pub each_byte : AllBytes bytes
  pub head : headed bytes ≡ true
  pub pads : pads_of bytes ≡ n
  pub whole : length bytes ≡ file_length n
  pub matrix_read : matrix_of n bytes ≡ matrix
  pub readings_read : readings_of n bytes ≡ readings
