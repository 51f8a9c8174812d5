-- The pairs that are left from turn k on give the whole. Assumes nothing.
use mathlib.Core.Path.{◌∙◌}
use native.Mathlib.Omega.{arith}
use Rattle.exchanges.specs.Permute.{exchange_of}
use Rattle.exchanges.proofs.Permute.{permuted_turn}
use Rattle.exchanges.proofs.OnColumns.{exchange_keeps, on_slice, applied_none, applied}
use Rattle.exchanges.proofs.apply.Goals as goal

pub returns-then-swaps-pairs : goal.returns-then-swaps-pairs
returns-then-swaps-pairs c =
    let a = c.args in
    applied_none _ _ (exchange_of a.columns) (exchange_keeps a.columns _ _) _ a.pairs _ _ (omega arith)

pub loop-k-preserved : goal.loop-k-preserved
loop-k-preserved c =
    let a = c.args in
    permuted_turn a.reverse a.pairs a.swaps.now (on_slice (exchange_of a.columns) a.m a.n) _ _ _ _ c.loop-k-test.true
    c.pair_of_turn-p.ensures.0 c.exchange.ensures
    ∙ c.loop-k.invariant

pub returns : goal.returns
returns c =
    let a = c.args in
    applied _ _ (exchange_of a.columns) (exchange_keeps a.columns _ _) a.reverse a.pairs a.swaps.now a.s.now _ _ (omega arith)
    c.loop-k-test.false
    c.loop-k.invariant
