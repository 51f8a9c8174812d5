-- A place that is there is written; past the end nothing is. Assumes nothing.
use Rattle.std.proofs.Common.{arith, w64}
use borrow.Kind.Array.{e_int, good_length}
use Rattle.season.specs.Season.{one_more_at}
use Rattle.season.proofs.Rows.{past_end}
use Rattle.season.proofs.one_more.Goals as goal

pub returns-then-i : goal.returns-then-i
unfolding one_more_at
returns-then-i g c = rw c.wrapping_add_usize.ensures.value

pub returns-else-i : goal.returns-else-i
returns-else-i g c = past_end _ c.args.a (omega (arith, good_length (e_int w64) g.row.N c.args.a _ c.well_formed.0, c.if-i.false))
