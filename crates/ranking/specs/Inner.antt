-- What only the promises of inner functions need: the two settings as the code has them.
use Rattle.std.specs.Prelude.{Bool, true, false}
use Rattle.numbers.specs.Column.{Column}
use Rattle.ranking.specs.Ranking.{Choice, loaded, every_pad}

-- all pads, or those whose load is not zero
abbrev pub choice_by : Bool → Column → Choice
choice_by true loads = every_pad
choice_by false loads = loaded loads
