-- What is left to test from row k on gives the whole answer. Assumes nothing.
use mathlib.Core.Path.{sym, ◌∙◌}
use mathlib.Core.Bool.{true, false}
use native.Mathlib.Omega.{arith}
use Rattle.finite.proofs.Finite.{finite_next, finite_end}
use Rattle.finite.proofs.rest_finite.Goals as goal

pub loop-k-preserved : goal.loop-k-preserved
loop-k-preserved c = sym (finite_next _ _ c.loop-k-test.true true (sym c.is_finite.ensures ∙ c.if-not-is_finite.false)) ∙ c.loop-k.invariant

pub returns-then-not-is_finite : goal.returns-then-not-is_finite
returns-then-not-is_finite c =
    sym (finite_next _ _ c.loop-k-test.true false (sym c.is_finite.ensures ∙ c.if-not-is_finite.true)) ∙ c.loop-k.invariant

pub returns : goal.returns
returns c = sym (finite_end _ c.loop-k.k (omega arith)) ∙ c.loop-k.invariant
