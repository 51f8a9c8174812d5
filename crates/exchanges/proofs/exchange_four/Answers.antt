-- The columns that are left from column j on give the whole. Assumes nothing.
use mathlib.Core.Path.{sym, ◌∙◌}
use Rattle.store.proofs.Columns.{sized, column_turn, column_stop, on_done}
use Rattle.swap_list.specs.SwapList.{pairs_of}
use Rattle.exchanges.proofs.Permute.{permute_four, rows_each}
use Rattle.exchanges.proofs.exchange_four.Invariants.{in_column}
use Rattle.exchanges.proofs.exchange_four.Goals as goal

pub loop-j-preserved : goal.loop-j-preserved
loop-j-preserved c =
    let four = c.args.four.now in
    column_turn (in_column (pairs_of 4 four)) _ _ _ _ _ c.loop-j-test.true (c.loop-j.auto.s ∙ (sized _ _ _ c.requires.0).size) c.swap_four.auto.col
    (permute_four four _ _ c.swap_four.ensures) ∙ c.loop-j.invariant

pub returns : goal.returns
returns c =
    on_done _ _ _ _ _ c.requires.0 c.loop-j.auto.s
    (sym (column_stop (in_column (pairs_of 4 c.args.four.now)) _ _ _ _ c.loop-j-test.false) ∙ c.loop-j.invariant
    ∙ sym (rows_each (pairs_of 4 c.args.four.now) _))
