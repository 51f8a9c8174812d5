-- What is left to scale from row k on is `scale_from` from k on. Assumes nothing.
use mathlib.Core.Path.{sym, ◌∙◌}
use native.Mathlib.Omega.{arith}
use borrow.Author.Rules.{rules}
use lib.Ieee.{nan}
use Rattle.blas.specs.Blas.{scale_from}
use Rattle.numbers.proofs.Each.{each_step, each_stop}
use Rattle.blas.proofs.scale.Goals as goal

pub loop-k-preserved : goal.loop-k-preserved
unfolding scale_from
loop-k-preserved c = each_step _ _ _ nan (search rules) ∙ c.loop-k.invariant

pub returns : goal.returns
unfolding scale_from
returns c = sym (each_stop _ c.loop-k.k _ (omega arith)) ∙ c.loop-k.invariant
