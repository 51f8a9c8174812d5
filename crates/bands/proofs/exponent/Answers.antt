-- The bits without those below and above. Assumes nothing.
use mathlib.Core.Path.{refl}
use Rattle.bands.specs.Bands.{biased}
use Rattle.bands.proofs.exponent.Goals as goal

pub returns : goal.returns
unfolding biased
returns c = refl
