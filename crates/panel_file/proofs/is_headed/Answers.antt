-- The tests in turn; the version by its two bytes (`headed_by`). Assumes nothing.
use borrow.Author.Tests.{lt-leb}
use Rattle.std.proofs.Common.{◌&&◌, eqb, ap, ◌∙◌}
use Rattle.panel_file.specs.File.{headed}
use Rattle.panel_file.proofs.Bits.{headed_by}
use Rattle.panel_file.proofs.is_headed.Goals as goal

pub returns-then-file-lt6 : goal.returns-then-file-lt6
unfolding headed
returns-then-file-lt6 c = rw (lt-leb _ _ c.if-file-lt6.true)

pub returns : goal.returns
returns c = ap (λ b. b && eqb c.from_le_bytes.result 1) c.starts_with.ensures.value ∙ headed_by _ _ c.if-file-lt6.false c.from_le_bytes.ensures
