-- A column that ends before the row has no diagonal. Assumes nothing.
use Rattle.std.proofs.Common.{sym, arith}
use Rattle.dead_columns.proofs.Dead.{past_last}
use Rattle.dead_columns.proofs.dead_at.Goals as goal

pub returns-in-None : goal.returns-in-None
returns-in-None c = (sym (past_last _ c.args.col.now c.in-None.ensures.lookup.3), omega arith)
