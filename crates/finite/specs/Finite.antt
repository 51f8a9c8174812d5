-- Whether the numbers of a column are finite: document 01, "Refusal numbers". That one number is finite is the library's `finite`.
use Rattle.std.specs.Prelude.{Bool, true, ◌&&◌, [], ◌∷◌}
use Rattle.std.specs.Float.Ieee.Scale.{finite}
use Rattle.numbers.specs.Column.{Column}

-- "Refusal numbers", 5 and 7: no entry is an infinity or a NaN
unfoldable pub all_finite : Column → Bool
all_finite [] = true
all_finite (x ∷ c) = finite x && all_finite c
