-- By whether the magnitude reaches 2; the exponent has room for one more (`halved_more`, `as_it_is`). Assumes nothing.
use mathlib.Core.Path.{sym, ap, ◌∙◌}
use lib.Ieee.{le}
use Rattle.scaled_determinant.specs.Scaled.{two64}
use Rattle.scaled_determinant.proofs.Steps.{more_held, halved_more, as_it_is}
use Rattle.scaled_determinant.proofs.halved_at_two.Goals as goal

pub overflow_add-result : goal.overflow_add-result
overflow_add-result c = more_held c.args.s c.args.e c.requires

pub returns-then-magnitude : goal.returns-then-magnitude
returns-then-magnitude c = halved_more c.args.s c.args.e c.requires (ap (le two64) (sym c.magnitude.ensures) ∙ c.if-magnitude.true)

pub returns : goal.returns
returns c = as_it_is c.args.s c.args.e c.requires (ap (le two64) (sym c.magnitude.ensures) ∙ c.if-magnitude.false)
