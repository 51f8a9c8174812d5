-- By the test. Assumes nothing.
use mathlib.Core.Path.{sym, ◌∙◌}
use Rattle.why.proofs.stored_row.Goals as goal

pub returns-then-is_finite : goal.returns-then-is_finite
returns-then-is_finite c = rw (sym c.is_finite.ensures ∙ c.if-is_finite.true) c.first_not_finite.ensures

pub returns : goal.returns
returns c = rw (sym c.is_finite.ensures ∙ c.if-is_finite.false)
