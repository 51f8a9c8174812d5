-- Step by step. Assumes nothing.
use Rattle.four_by_four.proofs.Steps.{all_steps}
use Rattle.four_by_four.proofs.reduce.Goals as goal

pub returns : goal.returns
returns c = all_steps c.args.s _ _ _ c.step-s0.ensures c.step-s1.ensures c.step-s2.ensures
