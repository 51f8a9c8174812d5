-- By what is exchanged. Assumes nothing.
use mathlib.Core.Path.{◌∙◌}
use Rattle.exchanges.proofs.OnColumns.{on_all}
use Rattle.exchanges.proofs.exchange.Goals as goal

pub returns-then-columns : goal.returns-then-columns
returns-then-columns c = rw c.if-columns.true c.swap_columns.ensures

pub returns : goal.returns
returns c = rw c.if-columns.false (c.swap_rows.ensures ∙ on_all _ _ _ _ _)
