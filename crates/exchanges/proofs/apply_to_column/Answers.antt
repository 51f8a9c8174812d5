-- The pairs that are left from turn k on give the whole. Assumes nothing.
use mathlib.Core.Path.{refl, sym, ◌∙◌}
use mathlib.Core.Bool.{false}
use Rattle.blas.specs.Blas.{swap_rows}
use Rattle.exchanges.specs.Permute.{in_order, pair_of_turn}
use Rattle.exchanges.proofs.Permute.{permuted_turn, permuted_end}
use Rattle.exchanges.proofs.apply_to_column.Goals as goal

pub loop-k-init : goal.loop-k-init
unfolding in_order
loop-k-init c = refl

pub loop-k-preserved : goal.loop-k-preserved
unfolding pair_of_turn
loop-k-preserved c =
    let a = c.args in
    permuted_turn false a.pairs a.swaps.now swap_rows _ _ _ _ c.loop-k-test.true refl c.swap.ensures ∙ c.loop-k.invariant

pub returns : goal.returns
returns c =
    let a = c.args in
    sym (permuted_end false a.pairs a.swaps.now swap_rows _ _ c.loop-k-test.false) ∙ c.loop-k.invariant
