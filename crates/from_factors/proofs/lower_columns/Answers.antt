-- The columns of L that are left to write from column j on give all of them. Assumes nothing.
use mathlib.Core.Path.{ap, ◌∙◌}
use native.Mathlib.Omega.{arith}
use Rattle.store.proofs.Columns.{sized, part_column}
use Rattle.from_factors.specs.Triangles.{lower_of, lower_factor}
use Rattle.from_factors.proofs.Written.{written_start, written_turn, written_flat}
use Rattle.from_factors.proofs.lower_columns.Invariants.{lower}
use Rattle.from_factors.proofs.lower_columns.Goals as goal

pub loop-j-init : goal.loop-j-init
loop-j-init c = ((sized _ _ _ c.requires.0).size, written_start _ _ _ _ c.requires.1)

pub loop-j-preserved : goal.loop-j-preserved
loop-j-preserved c =
    let g = c.args in (
      c.loop-j.invariant.0,
      written_turn (lower g.m g.n g.factors.now) _ _ _ _ _ c.loop-j-test.true c.loop-j.invariant.1 c.lower_column.auto.dst
          (c.lower_column.ensures ∙ ap (lower_of c.loop-j.j) (part_column g.m g.n c.loop-j.j g.factors.now (omega arith))),
    )

pub returns : goal.returns
unfolding lower_factor
returns c = written_flat _ _ _ _ _ c.loop-j-test.false c.loop-j.invariant.1
