-- Two blocks of all rows (`One`). Assumes nothing.
use Rattle.solve_by_rows.proofs.One.{two_blocks}
use Rattle.solve_by_rows.proofs.solve_small.Goals as goal

pub returns : goal.returns
returns g c =
    let p = c.requires in
    two_blocks _ _ p.0 _ _ _ p.1 c.rows_at_once.auto.b c.slice_known-1.given c.slice_known-2-1.given c.rows_at_once.ensures c.rows_at_once-2.ensures
