-- What a call of the four-pad profile answers and writes through its pointers, as the profile.
use Rattle.std.specs.Prelude.{List, ℕ}
use Rattle.numbers.specs.Column.{Column}
use Rattle.four_pads.specs.declared.FourPads.{FourPads}

abbrev pub profile : ℕ → Column → ℕ → List ℕ → Column → FourPads
profile number factors pairs swaps loads = record { number = number; factors = factors; pairs = pairs; swaps = swaps; loads = loads }
