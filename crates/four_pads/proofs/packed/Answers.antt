-- Computed. Assumes nothing.
use mathlib.Core.Path.{refl}
use Rattle.store.specs.Columns.{flat}
use Rattle.four_pads.proofs.packed.Goals as goal

pub returns : goal.returns
unfolding flat
returns c = refl
