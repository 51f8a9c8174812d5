-- After i steps, what is left to store gives the whole answer (`Stepping`). Assumes nothing.
use Prim.Native.Nat.{◌<◌, min}
use mathlib.Core.Path.{sym}
use Rattle.why.specs.Why.{told_factor}
use Rattle.why.proofs.Results.{failing_all, failing_some}
use Rattle.why.proofs.Steps.{stepping_begin, stepping_on, stepping_found, stepping_end}
use Rattle.why.proofs.overflow_in_steps.Goals.{After-plain_step-arg-1}
use Rattle.why.proofs.overflow_in_steps.Goals as goal

-- it is a step of the matrix
before_end : (c : After-plain_step-arg-1) → c.loop-i.i < min c.args.m
    c.args.n
before_end c = let least = c.min-end.ensures in rw least at c.loop-i-test.true

pub returns-then-at-s : goal.returns-then-at-s
returns-then-at-s c =
    let found = c.first_not_finite-at.ensures in
    stepping_found _ _ _ c.requires.0 _ _ _ c.loop-i.invariant (before_end (goal.at.returns-then-at-s c).After-plain_step-arg-1) c.plain_step.auto.s
    c.plain_step.ensures _
    (failing_some _ (rw found at c.if-at-s.true)) found

pub loop-i-preserved : goal.loop-i-preserved
loop-i-preserved c =
    let found = c.first_not_finite-at.ensures in
    stepping_on _ _ _ c.requires.0 _ _ _ c.loop-i.invariant (before_end (goal.at.loop-i-preserved c).After-plain_step-arg-1) c.plain_step.auto.s
    c.plain_step.ensures
    (failing_all _ (rw found at c.if-at-s.false))

pub returns : goal.returns
unfolding told_factor
returns c = sym (stepping_end _ _ _ c.requires.0 _ _ c.loop-i.invariant (rw c.min-end.ensures at c.loop-i-test.false))

pub loop-i-init : goal.loop-i-init
loop-i-init c = stepping_begin _ _ _ c.requires.0 c.requires.1
