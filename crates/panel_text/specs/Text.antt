-- Document 01, "Ranking and program": "it prints `pads N` and one line per pad in rank order, number, space, 16 small hex digits of the load; or
-- `refused K`", as bytes, each line ended by a newline.
use Rattle.std.specs.Prelude.{cond, List, [], ◌∷◌, ◌++◌, ℕ, zero, suc, ◌+◌, ◌/◌, ◌%◌, ltb, ℤ, pos, negsuc, length, take, drop, Float}
use Rattle.std.specs.Float.{binary64}
use Rattle.std.specs.Float.Ieee.{to_bits}
use Rattle.numbers.specs.Each.{list_of}
use Rattle.numbers.specs.Column.{Column}
use Rattle.scaled_determinant.specs.declared.Scaled.{Scaled}
use Rattle.ranking.specs.Ranking.{load_of}
use Rattle.io.specs.Digits.{last_digits}

-- a text written over a list of bytes from a place on
unfoldable pub written : ℕ → List ℕ → List ℕ → List ℕ
written at text s = take at s ++ text ++ drop (at + length text) s

-- a number below 100 in decimal
unfoldable pub decimal : ℕ → List ℕ
decimal n = cond (ltb n 10) ((48 + n) ∷ []) ((48 + n / 10) ∷ (48 + n % 10) ∷ [])

-- a pad's line: its number, a space, the bits of its load
unfoldable pub line_of : ℕ → Float → List ℕ
line_of pad load = decimal pad ++ 32 ∷ [] ++ last_digits 16 16 (to_bits binary64 load) ++ 10 ∷ []

-- the lines of the pads in rank order
unfoldable pub lines_of : Column → List ℕ → List ℕ
lines_of loads [] = []
lines_of loads (p ∷ ps) = line_of p (load_of loads p) ++ lines_of loads ps

-- the numbers of n readings, 1 first
abbrev pub numbered : ℕ → List ℕ
numbered n = list_of n suc

-- document 02, request 5: "one line a reading: number, space, 16 hex digits"
abbrev pub moves_text : Column → List ℕ
moves_text moves = lines_of moves (numbered (length moves))

-- the words `pads` and `refused`, each with a space
abbrev pub pads_word : List ℕ
pads_word = 112 ∷ 97 ∷ 100 ∷ 115 ∷ 32 ∷ []

abbrev pub refused_word : List ℕ
refused_word = 114 ∷ 101 ∷ 102 ∷ 117 ∷ 115 ∷ 101 ∷ 100 ∷ 32 ∷ []

-- a word with a number on a line
abbrev pub first_line : List ℕ → ℕ → List ℕ
first_line word n = word ++ decimal n ++ 10 ∷ []

-- `pads N` with the lines behind it
unfoldable pub pads_text : ℕ → Column → List ℕ → List ℕ
pads_text n loads ranks = first_line pads_word n ++ lines_of loads ranks

-- document 02, request 10: "one line: 16 hex digits, space, signed decimal exponent", a minus before a negative one

-- how many decimal digits a number has, up to f more than one
unfoldable pub digits_in : ℕ → ℕ → ℕ
digits_in zero n = 1
digits_in (suc f) n = cond (ltb n 10) 1 (suc (digits_in f (n / 10)))

-- a number below 100,000 in decimal
abbrev pub whole : ℕ → List ℕ
whole n = last_digits 10 (digits_in 4 n) n

unfoldable pub signed : ℤ → List ℕ
signed (pos n) = whole n
signed (negsuc n) = 45 ∷ whole (suc n)

unfoldable pub scaled_text : Scaled → List ℕ
scaled_text r = last_digits 16 16 (to_bits binary64 r.significand) ++ 32 ∷ [] ++ signed r.exponent ++ 10 ∷ []

-- `refused K`
unfoldable pub refused_text : ℕ → List ℕ
refused_text number = first_line refused_word number
