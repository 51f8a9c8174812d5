-- Each product takes the factor at its own place: what is left to do from place k on is `each_from` from k on. Assumes nothing.
use mathlib.Core.Path.{sym, ◌∙◌}
use native.Mathlib.Omega.{arith}
use borrow.Author.Rules.{rules}
use lib.Ieee.{nan}
use Rattle.numbers.proofs.Each.{each_step, each_stop}
use Rattle.finite.proofs.Product.{by_entry}
use Rattle.finite.proofs.times_block.Goals as goal

pub loop-k-preserved : goal.loop-k-preserved
loop-k-preserved c = each_step (by_entry c.args.x.now) _ _ nan (search rules) ∙ c.loop-k.invariant

pub returns : goal.returns
returns c = sym (each_stop _ c.loop-k.k _ (omega arith)) ∙ c.loop-k.invariant
