-- By the number of the pass. Assumes nothing.
use Rattle.panel_text.proofs.Pieces.{pass_lower, pass_upper}
use Rattle.panel_text.proofs.pass_word.Goals as goal

pub returns-then-pass-eq1 : goal.returns-then-pass-eq1
returns-then-pass-eq1 c = pass_lower _ c.if-pass-eq1.true

pub returns-else-pass-eq1 : goal.returns-else-pass-eq1
returns-else-pass-eq1 c = pass_upper _ c.if-pass-eq1.false
