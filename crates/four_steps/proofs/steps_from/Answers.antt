-- One column or two (`one_onward`, `two_onward`). Assumes nothing.
use native.Mathlib.Omega.{arith}
use Rattle.four_steps.proofs.Within.{one_onward, two_onward}
use Rattle.four_steps.proofs.steps_from.Goals as goal

pub returns-then-next-n : goal.returns-then-next-n
returns-then-next-n c = let h = c.requires in (omega arith, one_onward _ _ _ _ _ _ h.2 h.3 c.steps_on.ensures)

pub returns : goal.returns
returns c =
    let h = c.requires in
    (omega arith, two_onward _ _ _ _ _ _ h.2 (omega (arith, h.3)) c.steps_on_two.ensures)

pub steps_on-requires : goal.steps_on-requires
steps_on-requires c = c.requires
