-- What is left to write from row k on is `each_from` from k on, with the entries of src. Assumes nothing.
use mathlib.Core.Path.{sym, ◌∙◌}
use native.Mathlib.Omega.{arith}
use borrow.Author.Rules.{rules}
use borrow.Author.Tests.{eq-eqb, ne_eqb}
use lib.Ieee.{nan}
use Rattle.blas.specs.Blas.{copied}
use Rattle.numbers.proofs.Each.{each_step, each_stop, each_over}
use Rattle.blas.proofs.copy.Goals as goal

pub returns-then-src-dst : goal.returns-then-src-dst
unfolding copied
returns-then-src-dst c = rw (ne_eqb _ _ c.if-src-dst.true)

pub loop-k-init : goal.loop-k-init
loop-k-init c = each_over _ _ _ (omega arith)

pub loop-k-preserved : goal.loop-k-preserved
loop-k-preserved c = each_step _ _ _ nan (search rules) ∙ c.loop-k.invariant

pub returns : goal.returns
unfolding copied
returns c = rw (eq-eqb _ _ c.if-src-dst.false) (sym (each_stop _ c.loop-k.k _ (omega arith)) ∙ c.loop-k.invariant)
