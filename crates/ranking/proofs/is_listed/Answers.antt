-- All pads, or by the test for a zero. Assumes nothing.
use mathlib.Core.Path.{ap}
use mathlib.Core.Bool.{not}
use Rattle.ranking.proofs.is_listed.Goals as goal

pub returns : goal.returns
returns c = rw c.if-all.false (ap not c.is_zero.ensures)
