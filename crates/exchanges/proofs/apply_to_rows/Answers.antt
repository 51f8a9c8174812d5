-- In reverse by ones. Else a single column by ones (`one_applied`), or the fours, and then the rest by ones. Assumes nothing.
use mathlib.Core.Path.{sym, ◌∙◌}
use mathlib.Core.Bool.{false}
use native.Mathlib.Omega.{arith}
use Rattle.store.specs.Steps.{swap_in_all}
use Rattle.store.proofs.Columns.{on_none}
use Rattle.exchanges.proofs.OnColumns.{exchange_keeps, applied_none, one_applied, fours_applied}
use Rattle.exchanges.proofs.apply_to_rows.Goals as goal

pub returns-then-reverse : goal.returns-then-reverse
returns-then-reverse c = rw c.if-reverse.true c.apply.ensures

pub returns-then-swaps-pairs : goal.returns-then-swaps-pairs
returns-then-swaps-pairs c =
    let a = c.args in
    rw c.if-reverse.false (applied_none _ _ swap_in_all (exchange_keeps false _ _) false a.pairs a.swaps.now a.s.now (omega arith))

pub returns-then-not-is_matrix : goal.returns-then-not-is_matrix
returns-then-not-is_matrix c = on_none _ _ _ _ (sym c.is_matrix.ensures ∙ c.if-not-is_matrix.true)

pub returns-then-n-eq1 : goal.returns-then-n-eq1
returns-then-n-eq1 c =
    let a = c.args in
    rw c.if-reverse.false (one_applied _ _ a.pairs a.swaps.now _ _ (sym c.is_matrix.ensures ∙ c.if-not-is_matrix.false)
    c.if-n-eq1.true (omega arith) c.apply_to_column.ensures)

pub exchange_in_fours-requires : goal.exchange_in_fours-requires
exchange_in_fours-requires c = (sym c.is_matrix.ensures ∙ c.if-not-is_matrix.false, omega arith)

pub returns : goal.returns
returns c =
    let a = c.args in
    rw c.if-reverse.false (fours_applied a.m a.n swap_in_all (exchange_keeps false a.m a.n) a.pairs a.swaps.now a.s.now _ _
    (omega arith) c.exchange_in_fours.ensures c.apply-2.ensures)
