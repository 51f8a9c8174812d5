-- After k pads the first k slots hold the chosen ones of them, and 0 behind (`Filling`). Assumes nothing.
use Prim.Native.Nat.{◌<◌}
use mathlib.Core.Path.{sym, ◌∙◌}
use native.Mathlib.Omega.{arith}
use lib.ListN.{length}
use Rattle.ranking.proofs.Listing.{held_pads, turn_with, turn_without, filling_begins}
use Rattle.ranking.proofs.list.Goals.{then-is_listed, else-is_listed}
use Rattle.ranking.proofs.list.Goals as goal

pub loop-k-init : goal.loop-k-init
loop-k-init c = filling_begins _ _ _

pub insert-requires-clause-by_index : goal.insert-requires-clause-by_index
insert-requires-clause-by_index c =
    let room : c.loop-k.k < length c.args.ranks.now = omega arith in
    held_pads _ _ _ c.loop-k.ranks c.loop-k.count c.loop-k.k c.loop-k.invariant room (omega arith)

pub loop-k-preserved : goal.loop-k-preserved
loop-k-preserved c =
    let test = sym c.is_listed.ensures in
    let room : c.loop-k.k < length c.args.ranks.now = omega arith in
    elim c.if-is_listed.branch [
      | then-is_listed w ↦ rw (w.ranks-is, w.count-is) (turn_with _ _ _ c.loop-k.ranks _ c.loop-k.count c.loop-k.k c.loop-k.invariant room (test
          ∙ w.if-is_listed.true) w.insert.ensures)
      | else-is_listed w ↦ rw (w.ranks-is, w.count-is) (turn_without _ _ _ c.loop-k.ranks c.loop-k.count c.loop-k.k c.loop-k.invariant room (test
          ∙ w.if-is_listed.false))
    ]
