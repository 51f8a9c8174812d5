-- What is left to test from number k on gives the whole answer. Assumes nothing.
use mathlib.Core.Path.{sym, ◌∙◌}
use mathlib.Core.Bool.{true, false}
use Rattle.panel_file.proofs.Numbers.{test_next, test_end}
use Rattle.panel_file.proofs.numbers_finite.Goals as goal

pub loop-k-preserved : goal.loop-k-preserved
loop-k-preserved c =
    sym (test_next _ _ c.loop-k.k _ _ true c.loop-k-test.true c.bits_at.ensures
    c.is_finite_bits.ensures c.if-not-is_finite_bits.false) ∙ c.loop-k.invariant

pub returns-then-not-is_finite_bits : goal.returns-then-not-is_finite_bits
returns-then-not-is_finite_bits c =
    sym (test_next _ _ c.loop-k.k _ _ false c.loop-k-test.true c.bits_at.ensures
    c.is_finite_bits.ensures c.if-not-is_finite_bits.true) ∙ c.loop-k.invariant

pub returns : goal.returns
returns c = sym (test_end _ _ _ c.loop-k-test.false) ∙ c.loop-k.invariant
