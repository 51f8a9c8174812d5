-- The blocks that are left from block j on, and then the rest, give the whole sum. Assumes nothing.
use mathlib.Core.Path.{sym, ◌∙◌}
use borrow.Author.Tests.{ne_eqb}
use lib.Ieee.{div, of_bits}
use Rattle.blas.specs.Dot.{add_block, eight_sums, pair_sums, dot_of}
use Rattle.blas.proofs.Sum.{block_added, dot_done}
use Rattle.numbers.proofs.Each.{turns_begin, turns_next, turns_done}
use Rattle.blas.proofs.dot.Goals as goal

pub returns-then-x-y : goal.returns-then-x-y
unfolding dot_of div of_bits
returns-then-x-y c = rw (ne_eqb _ _ c.if-x-y.true)

pub loop-j-init : goal.loop-j-init
unfolding eight_sums
loop-j-init c = turns_begin _ _ _

pub loop-j-preserved : goal.loop-j-preserved
loop-j-preserved c =
    turns_next (add_block c.args.x.now c.args.y.now) _ _ _ _ c.loop-j-test.true (block_added c.args.x.now c.args.y.now _ _ _ c.add_block.ensures)
    ∙ c.loop-j.invariant

pub returns : goal.returns
unfolding pair_sums
returns c =
    dot_done _ _ c.loop-j.acc _ c.if-x-y.false (sym (turns_done _ _ _ _ c.loop-j-test.false) ∙ c.loop-j.invariant)
    c.add_rest.ensures
