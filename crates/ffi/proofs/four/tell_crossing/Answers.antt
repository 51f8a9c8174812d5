-- The profile, told. Assumes nothing.
use mathlib.Core.Path.{◌∙◌}
use Rattle.ffi.proofs.four.tell_crossing.Goals as goal

pub returns : goal.returns
returns c = c.tell_profile.ensures ∙ c.four_pads.ensures
