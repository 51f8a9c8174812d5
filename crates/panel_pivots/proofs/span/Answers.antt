-- The diagonal is copied, then its greatest and its least are looked for. Assumes nothing.
use Rattle.panel_pivots.proofs.Measured.{spanned}
use Rattle.panel_pivots.proofs.span.Goals as goal

pub returns : goal.returns
returns c = spanned _ _ _ _ _ _ _ c.fill_diagonal.ensures c.greatest.ensures c.least.ensures
