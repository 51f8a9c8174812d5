-- What is left at row k gives the whole. Assumes nothing.
use mathlib.Core.Path.{sym, ◌∙◌}
use native.Mathlib.Omega.{arith}
use Rattle.min_max.proofs.TossUp.{shared_here, shared_not_here, shared_end}
use Rattle.min_max.proofs.is_shared.Goals as goal

pub returns-then-magnitude-top : goal.returns-then-magnitude-top
returns-then-magnitude-top c =
    sym (shared_here _ c.args.row _ _ c.loop-k-test.true (omega arith) (rw (← c.magnitude.ensures) c.if-magnitude-top.true)) ∙ c.loop-k.invariant

pub loop-k-preserved : goal.loop-k-preserved
loop-k-preserved c =
    shared_not_here _ c.args.row _ _ c.loop-k-test.true (omega arith) (rw (← c.magnitude.ensures) c.if-magnitude-top.false) ∙ c.loop-k.invariant

pub returns : goal.returns
returns c = sym (shared_end _ _ _ _ c.loop-k-test.false) ∙ c.loop-k.invariant
