-- The four groups of digits; nothing wraps. Assumes nothing.
use Rattle.panel_write.specs.Text.{bits_at}
use Rattle.panel_write.proofs.bits_at.Goals as goal

pub returns : goal.returns
unfolding bits_at
returns c = cc
