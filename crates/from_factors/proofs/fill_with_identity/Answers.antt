-- The columns that are left to write from column j on give the identity. Assumes nothing.
use Prim.Native.Nat.{ℕ}
use mathlib.Core.Path.{ap, ◌∙◌}
use Rattle.store.proofs.Columns.{column_length}
use Rattle.from_factors.specs.Solving.{unit_column}
use Rattle.from_factors.proofs.Written.{written_start, written_turn, written_end}
use Rattle.from_factors.proofs.fill_with_identity.Goals as goal

pub loop-j-init : goal.loop-j-init
loop-j-init c = written_start _ _ _ _ c.requires

pub loop-j-preserved : goal.loop-j-preserved
loop-j-preserved c =
    let n = c.args.n in
    let t = c.loop-j-test.true in
    written_turn (unit_column n) _ _ _ _ _ t c.loop-j.invariant c.unit_column.auto.dst (c.unit_column.ensures ∙ ap (λ (i : ℕ). unit_column i c.loop-j.j)
    (column_length n n c.loop-j.j c.loop-j.x t c.loop-j.invariant.size))

pub returns : goal.returns
returns c = written_end _ _ _ _ _ c.loop-j-test.false c.loop-j.invariant
