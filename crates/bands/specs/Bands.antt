-- Document 02, request 13: crossings "by the least magnitude on their factors' diagonal, banded by the biased exponent: 0, 1 to 511, 512 to 1022, 1023 to 1534,
-- 1535 to 2046".
use Rattle.std.specs.Prelude.{cond, ℕ, ◌/◌, ◌%◌, leb, Float, Option, Some, None}
use Rattle.std.specs.Float.{binary64}
use Rattle.std.specs.Float.Ieee.{lt, of_bits, to_bits}
use Rattle.numbers.specs.Each.{turns_from}
use Rattle.numbers.specs.Numbers.{magnitude}
use Rattle.numbers.specs.Column.{Column, entry}
use Rattle.store.specs.Columns.{columns, is_matrix}
use Rattle.store.specs.Steps.{Matrix, column}

-- ---- the least magnitude on the diagonal

-- an infinity, by its bits, as the code has it: least before the first number is looked at
abbrev pub infinity64 : Float
infinity64 = of_bits binary64 0x7ff0_0000_0000_0000

-- the magnitude of the diagonal's number i where it is less than what was least before it
unfoldable pub less_at : Matrix → ℕ → Float → Float
less_at cs i least = let x = magnitude (entry (column cs i) i) in cond (lt x least) x least

unfoldable pub least_on_diagonal : ℕ → Matrix → Float
least_on_diagonal n cs = turns_from (less_at cs) 0 n infinity64

-- ---- the bands

-- the biased exponent, 11 bits
unfoldable pub biased : Float → ℕ
biased x = to_bits binary64 x / 0x10_0000_0000_0000 % 2048

-- the band of a biased exponent, from 0; that of an infinity, 2047, is in none, which is 5
unfoldable pub band_of : ℕ → ℕ
band_of e = cond (leb e 0) 0 (cond (leb e 511) 1 (cond (leb e 1022) 2 (cond (leb e 1534) 3 (cond (leb e 2046) 4 5))))

-- the band of the n by n factors that t holds; none where it holds no such factors
unfoldable pub band_on : Column → ℕ → ℕ
band_on t n = cond (is_matrix t n n) (band_of (biased (least_on_diagonal n (columns n n t)))) 5

-- the number that each case of an answer stands for
abbrev pub band_number : Option ℕ → ℕ
band_number None = 5
band_number (Some band) = band
