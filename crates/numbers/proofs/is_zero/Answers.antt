-- `is_zero` answers the comparison that `is_zero` is. Assumes nothing.
use mathlib.Core.Path.{refl}
use Rattle.numbers.specs.Numbers.{is_zero}
use Rattle.numbers.proofs.is_zero.Goals as goal

pub returns : goal.returns
unfolding is_zero
returns c = refl
