-- The three tests together. Assumes nothing.
use mathlib.Core.Path.{refl}
use Rattle.swap_list.specs.SwapList.{good_pair}
use Rattle.swap_list.proofs.is_good_pair.Goals as goal

pub returns : goal.returns
unfolding good_pair
returns c = refl
