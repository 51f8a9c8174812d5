-- What is left to add from row k on are the turns from k on. Assumes nothing.
use mathlib.Core.Path.{refl, sym, ◌∙◌}
use borrow.Author.Rules.{rules}
use Rattle.blas.specs.Dot.{add_product}
use Rattle.numbers.proofs.Each.{turns_next, turns_done}
use Rattle.blas.proofs.add_rest.Goals as goal

pub loop-k-preserved : goal.loop-k-preserved
unfolding add_product
loop-k-preserved c = turns_next (add_product c.args.x.now c.args.y.now) _ _ _ _ (search rules) refl ∙ c.loop-k.invariant

pub returns : goal.returns
returns c = sym (turns_done _ _ _ _ c.loop-k-test.false) ∙ c.loop-k.invariant
