-- What the inner functions ask.
use Rattle.std.specs.Prelude.{◌≡◌, true, false, Float}
use Rattle.std.specs.Float.Ieee.Scale.{finite}
use Rattle.numbers.specs.Numbers.{is_zero}

-- a number that has parts
abbrev pub Parted : Float → Type 0
Parted x = (finite x ≡ true) × (is_zero x ≡ false)
