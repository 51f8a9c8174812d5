-- By the two tests, as the meaning has them. Assumes nothing.
use mathlib.Core.Path.{sym, ap₂, ◌∙◌}
use lib.Ieee.{lt}
use Rattle.ranking.specs.Ranking.{ahead}
use Rattle.ranking.proofs.is_ahead.Goals as goal

pub returns-then-y-x : goal.returns-then-y-x
unfolding ahead
returns-then-y-x c = rw (ap₂ lt (sym c.magnitude-y.ensures) (sym c.magnitude-x.ensures) ∙ c.if-y-x.true)

pub returns-then-x-y : goal.returns-then-x-y
unfolding ahead
returns-then-x-y c =
    rw (
      ap₂ lt (sym c.magnitude-y.ensures) (sym c.magnitude-x.ensures)
          ∙ c.if-y-x.false,
      ap₂ lt (sym c.magnitude-x.ensures) (sym c.magnitude-y.ensures) ∙ c.if-x-y.true,
    )

pub returns : goal.returns
unfolding ahead
returns c =
    rw (
      ap₂ lt (sym c.magnitude-y.ensures) (sym c.magnitude-x.ensures)
          ∙ c.if-y-x.false,
      ap₂ lt (sym c.magnitude-x.ensures) (sym c.magnitude-y.ensures) ∙ c.if-x-y.false,
    )
