-- By the tests. Assumes nothing.
use borrow.Author.Tests.{le-leb, lt-leb}
use Rattle.four_by_four.specs.Inner.{next_of}
use Rattle.four_by_four.proofs.next.Goals as goal

pub returns-then-k-i : goal.returns-then-k-i
unfolding next_of
returns-then-k-i c = rw (le-leb _ _ c.if-k-i.true)

pub returns-then-v-f : goal.returns-then-v-f
unfolding next_of
returns-then-v-f c = rw (lt-leb _ _ c.if-k-i.false, ← c.magnitude-v.ensures, c.if-v-f.true)

pub returns-else-v-f : goal.returns-else-v-f
unfolding next_of
returns-else-v-f c = rw (lt-leb _ _ c.if-k-i.false, ← c.magnitude-v.ensures, c.if-v-f.false)
