-- Each running sum takes the product at its own place: what is left to do from place k on is `each_from` from k on. Assumes nothing.
use mathlib.Core.Path.{sym, ◌∙◌}
use native.Mathlib.Omega.{arith}
use borrow.Author.Rules.{rules}
use lib.Ieee.{nan}
use Rattle.blas.specs.Dot.{add_product}
use Rattle.numbers.proofs.Each.{each_step, each_stop}
use Rattle.blas.proofs.add_block.Goals as goal

pub loop-k-preserved : goal.loop-k-preserved
unfolding add_product
loop-k-preserved c = each_step (add_product c.args.x.now c.args.y.now) _ _ nan (search rules) ∙ c.loop-k.invariant

pub returns : goal.returns
returns c = sym (each_stop _ c.loop-k.k _ (omega arith)) ∙ c.loop-k.invariant
