-- Before turn k the first k times four pairs are exchanged. Assumes nothing.
use Prim.Native.Nat.{ℕ, ◌+◌, ◌*◌}
use mathlib.Core.Path.{◌≡◌, ap, ◌∙◌}
use mathlib.Core.Bool.{false}
use native.Mathlib.Omega.{arith}
use lib.ListN.{length-take, length-drop}
use Rattle.store.specs.Columns.{on_columns}
use Rattle.store.specs.Steps.{swap_in_all}
use Rattle.store.proofs.Columns.{same_matrix}
use Rattle.swap_list.specs.SwapList.{Swaps, pairs_of}
use Rattle.exchanges.specs.Permute.{rows_permuted}
use Rattle.swap_list.proofs.SwapList.{part_pairs}
use Rattle.exchanges.proofs.OnColumns.{exchange_keeps, pairs_none, pairs_more}
use Rattle.exchanges.proofs.exchange_in_fours.Goals as goal

pub loop-k-init : goal.loop-k-init
loop-k-init c = pairs_none _ _ swap_in_all (exchange_keeps false _ _) _ _

pub exchange_four-requires : goal.exchange_four-requires
exchange_four-requires c = (same_matrix _ _ _ c.loop-k.s c.loop-k.auto.s ∙ c.requires.0, simp (length-take, length-drop) (omega arith))

pub loop-k-preserved : goal.loop-k-preserved
loop-k-preserved c =
    let a = c.args in
    let four-more : 4 * c.loop-k.k + 4 ≡ 4 * (c.loop-k.k + 1) = omega arith in
    pairs_more a.m a.n swap_in_all (exchange_keeps false a.m a.n) (4 * c.loop-k.k) 4 a.swaps.now a.s.now c.loop-k.s _ c.loop-k.invariant
    (c.exchange_four.ensures ∙ ap (λ (swaps : Swaps). on_columns a.m a.n (rows_permuted swaps) c.loop-k.s) (part_pairs c.loop-k.k a.swaps.now))
    ∙ ap (λ (i : ℕ). on_columns a.m a.n (rows_permuted (pairs_of i a.swaps.now)) a.s.now) four-more
