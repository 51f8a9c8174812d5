-- The factors that are left from row i on give the whole product. Assumes nothing.
use mathlib.Core.Path.{sym, ap, ◌∙◌}
use lib.Ieee.{nan, mul, binary64}
use Rattle.numbers.proofs.Each.{turns_begin, turns_next, turns_done}
use Rattle.store.specs.Columns.{columns}
use Rattle.store.proofs.Columns.{sized, entry_at}
use Rattle.from_factors.specs.Determinant.{times_diagonal, diagonal_product}
use Rattle.from_factors.proofs.diagonal_product.Goals as goal

pub loop-i-init : goal.loop-i-init
unfolding diagonal_product
loop-i-init c = ((sized _ _ _ c.requires).size, turns_begin _ _ _)

pub loop-i-preserved : goal.loop-i-preserved
unfolding times_diagonal
loop-i-preserved c =
    let g = c.args in
    let t = c.loop-i-test.true in (
      c.loop-i.invariant.0,
      turns_next (times_diagonal (columns g.n g.n g.factors.now)) _ _ _ _ t
          (ap (mul binary64 c.loop-i.res) (entry_at g.n g.n c.loop-i.i c.loop-i.i g.factors.now nan t t)) ∙ c.loop-i.invariant.1,
    )

pub returns : goal.returns
returns c = sym (turns_done _ _ _ _ c.loop-i-test.false) ∙ c.loop-i.invariant.1
