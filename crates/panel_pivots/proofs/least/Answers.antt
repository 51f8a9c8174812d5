-- The least magnitude of the numbers before number k. Assumes nothing.
use Prim.Native.Nat.{◌+◌}
use mathlib.Core.Path.{sym, subst}
use lib.Ieee.{nan_bits}
use Rattle.panel_pivots.specs.Outermost.{Least}
use Rattle.panel_pivots.proofs.Outermost.{infinity_outermost, least_taken, least_left}
use Rattle.panel_pivots.proofs.least.Goals.{then-x-found, else-x-found}
use Rattle.panel_pivots.proofs.least.Goals as goal

pub loop-number-preserved : goal.loop-number-preserved
loop-number-preserved c =
    let s = c.args.numbers.now in
    let x = c.magnitude-x.ensures in
    let k = c.loop-number.number-index in
    let next = Least s (k + 1) in
    elim c.if-x-found.branch [
      | then-x-found w ↦ subst next (sym w.found-is) (least_taken s k c.loop-number.found _ x c.loop-number.invariant w.if-x-found.true)
      | else-x-found w ↦ subst next (sym w.found-is) (least_left s k c.loop-number.found _ x c.loop-number.invariant w.if-x-found.false)
    ]

pub float_from_bits-found : goal.float_from_bits-found
unfolding nan_bits
float_from_bits-found c = tt

pub loop-number-init : goal.loop-number-init
loop-number-init c = infinity_outermost _
