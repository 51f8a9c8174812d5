-- Fewer than eight entries are all rest. Else eight products take a block a turn: what they tell and what is left behind the blocks so far give the
-- answer. Assumes nothing.
use Prim.Native.Nat.{◌*◌}
use mathlib.Core.Path.{◌≡◌}
use mathlib.Core.Bool.{true, ◌&&◌}
use lib.ListN.{drop}
use Rattle.finite.specs.Finite.{all_finite}
use Rattle.finite.proofs.Product.{naught, calm, every, eight}
use Rattle.finite.proofs.finite_by_eight.Given as goal

abbrev pub invariant-loop-block : goal.invariant-loop-block
invariant-loop-block l =
    let ts = eight l.t0 l.t1 l.t2 l.t3 l.t4 l.t5 l.t6 l.t7 in
    let part = drop l.from l.s in
    (every calm ts ≡ true) × ((every naught ts && all_finite (drop (l.block-index * 8) part)) ≡ all_finite part)
