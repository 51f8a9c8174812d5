-- By the rest on division by 2. Assumes nothing.
use Prim.Native.Nat.{◌%◌}
use borrow.Author.Tests.{eq-eqb, ne_eqb}
use Rattle.permutation_sequence.specs.Calls.{sign_of}
use Rattle.permutation_sequence.proofs.determinant.Goals as goal

pub returns-then-pairs-eq0 : goal.returns-then-pairs-eq0
unfolding sign_of
returns-then-pairs-eq0 c = rw (eq-eqb (c.args.pairs % 2) 0 c.if-pairs-eq0.true)

pub returns-else-pairs-eq0 : goal.returns-else-pairs-eq0
unfolding sign_of
returns-else-pairs-eq0 c = rw (ne_eqb (c.args.pairs % 2) 0 c.if-pairs-eq0.false)
