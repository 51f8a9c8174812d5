-- A block's turns, and those that are left behind them, are all from its first on; at the end k is `to`. Assumes nothing.
use mathlib.Core.Path.{refl, ◌∙◌}
use native.Mathlib.Omega.{arith}
use Rattle.solve_by_rows.proofs.Rows.{turns_by, block_fits}
use Rattle.solve_by_rows.proofs.rows_by.Goals as goal

pub rows_at_once-requires : goal.rows_at_once-requires
rows_at_once-requires g c =
    let p = c.requires in
    let fits = block_fits g.row.N _ _ p.5 c.loop-k-test.true c.loop-k.invariant.1 in
    (p.0, c.loop-k.auto.b ∙ p.1, omega (arith, fits.0, p.3))

pub loop-k-preserved : goal.loop-k-preserved
loop-k-preserved g c =
    let p = c.requires in
    let fits = block_fits g.row.N _ _ p.5 c.loop-k-test.true c.loop-k.invariant.1 in (
      fits.0,
      fits.1,
      turns_by _ g.row.N _ _ _ _ _ _ refl (omega (arith, fits.0, p.3)) c.rows_at_once.ensures ∙ c.loop-k.invariant.2,
    )

-- the exit where k would pass `to`
pub returns-2 : goal.returns-2
returns-2 g c =
    let p = c.requires in
    let fits = block_fits g.row.N _ _ p.5 c.loop-k-test.true c.loop-k.invariant.1 in
    turns_by _ g.row.N _ _ _ _ _ _ (omega (arith, fits.0)) (omega (arith, fits.0, p.3)) c.rows_at_once.ensures ∙ c.loop-k.invariant.2
