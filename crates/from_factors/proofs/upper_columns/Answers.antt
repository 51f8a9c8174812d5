-- The columns of U that are left to write from column j on give all of them. Assumes nothing.
use Prim.Native.Nat.{ℕ}
use mathlib.Core.Path.{ap₂, ◌∙◌}
use Rattle.numbers.specs.Column.{Column}
use Rattle.store.proofs.Columns.{sized, column_length, part_column}
use Rattle.from_factors.specs.Triangles.{upper_of, upper_factor}
use Rattle.from_factors.proofs.Written.{written_start, written_turn, written_flat}
use Rattle.from_factors.proofs.upper_columns.Invariants.{upper}
use Rattle.from_factors.proofs.upper_columns.Goals as goal

pub loop-j-init : goal.loop-j-init
loop-j-init c = ((sized _ _ _ c.requires.0).size, written_start _ _ _ _ c.requires.1)

pub loop-j-preserved : goal.loop-j-preserved
loop-j-preserved c =
    let g = c.args in
    let t = c.loop-j-test.true in (
      c.loop-j.invariant.0,
      written_turn (upper g.k g.m g.n g.factors.now) _ _ _ _ _ t c.loop-j.invariant.1 c.upper_column.auto.dst
          (c.upper_column.ensures ∙ ap₂ (λ (i : ℕ) (x : Column). upper_of i c.loop-j.j x)
          (column_length g.k g.n c.loop-j.j c.loop-j.out t c.loop-j.invariant.1.size) (part_column g.m g.n c.loop-j.j g.factors.now t)),
    )

pub returns : goal.returns
unfolding upper_factor
returns c = written_flat _ _ _ _ _ c.loop-j-test.false c.loop-j.invariant.1
