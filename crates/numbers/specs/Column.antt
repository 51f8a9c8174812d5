-- A column of doubles.
use Rattle.std.specs.Prelude.{List, ℕ, get_or, replicate, Float}
use Rattle.std.specs.Float.{nan}
use Rattle.numbers.specs.Numbers.{zero64}

-- the entries from row 0 down
abbrev pub Column : Type 0
Column = List Float

-- the entry in row k; a read past the end, which no code makes, is `nan`
abbrev pub entry : Column → ℕ → Float
entry c k = get_or c k nan

-- "Refusal numbers", 7: n times +0.0
abbrev pub zeros : ℕ → Column
zeros n = replicate n zero64
