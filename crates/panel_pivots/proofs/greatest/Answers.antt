-- The greatest magnitude of the numbers before number k. Assumes nothing.
use Prim.Native.Nat.{◌+◌}
use mathlib.Core.Path.{sym, subst}
use Rattle.panel_pivots.specs.Outermost.{Greatest}
use Rattle.panel_pivots.proofs.Outermost.{zero_outermost, greatest_taken, greatest_left}
use Rattle.panel_pivots.proofs.greatest.Goals.{then-higher, else-higher}
use Rattle.panel_pivots.proofs.greatest.Goals as goal

pub loop-number-preserved : goal.loop-number-preserved
loop-number-preserved c =
    let s = c.args.numbers.now in
    let x = c.magnitude-x.ensures in
    let k = c.loop-number.number-index in
    let next = Greatest s (k + 1) in
    elim c.if-higher.branch [
      | then-higher w ↦ subst next (sym w.found-is) (greatest_taken s k c.loop-number.found _ x c.loop-number.invariant w.if-higher.true)
      | else-higher w ↦ subst next (sym w.found-is) (greatest_left s k c.loop-number.found _ x c.loop-number.invariant w.if-higher.false)
    ]

pub loop-number-init : goal.loop-number-init
loop-number-init c = zero_outermost _
