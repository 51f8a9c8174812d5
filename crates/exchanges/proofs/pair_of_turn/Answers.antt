-- By the direction. Assumes nothing.
use native.Mathlib.Omega.{arith}
use Rattle.exchanges.specs.Permute.{pair_of_turn}
use Rattle.exchanges.proofs.pair_of_turn.Goals as goal

pub returns-then-reverse : goal.returns-then-reverse
unfolding pair_of_turn
returns-then-reverse c = (rw c.if-reverse.true, omega arith)

pub returns-else-reverse : goal.returns-else-reverse
unfolding pair_of_turn
returns-else-reverse c = (rw c.if-reverse.false, omega arith)
