-- What is left to do from row k on is the same change of each entry from k on. Assumes nothing.
use mathlib.Core.Path.{sym, ◌∙◌}
use native.Mathlib.Omega.{arith}
use borrow.Author.Rules.{rules}
use borrow.Author.Tests.{eq-eqb}
use lib.Ieee.{nan}
use Rattle.blas.specs.Blas.{axpy_from}
use Rattle.numbers.proofs.Each.{each_step, each_stop}
use Rattle.blas.proofs.Rows.{axpy_apart}
use Rattle.blas.proofs.axpy.Invariants.{changed}
use Rattle.blas.proofs.axpy.Goals as goal

pub returns-then-x-y : goal.returns-then-x-y
returns-then-x-y c = sym (axpy_apart _ _ _ _ c.if-x-y.true)

pub loop-k-preserved : goal.loop-k-preserved
loop-k-preserved c = each_step (changed c.args.a c.args.x.now) _ _ nan (search rules) ∙ c.loop-k.invariant

pub returns : goal.returns
unfolding axpy_from
returns c = rw (eq-eqb _ _ c.if-x-y.false) (sym (each_stop _ c.loop-k.k _ (omega arith)) ∙ c.loop-k.invariant)
