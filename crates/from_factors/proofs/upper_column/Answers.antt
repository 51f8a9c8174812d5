-- A copy of the first rows, and zeros below row j. Assumes nothing.
use native.Mathlib.Omega.{arith}
use lib.ListN.{length-take}
use Rattle.from_factors.proofs.Written.{upper_whole, upper_written}
use Rattle.from_factors.proofs.upper_column.Goals as goal

pub slice_bounds-copy-end : goal.slice_bounds-copy-end
slice_bounds-copy-end c = simp length-take (omega arith)

pub returns-then-j-k : goal.returns-then-j-k
returns-then-j-k c =
    upper_written _ c.args.src.now c.args.dst.now _ c.requires c.copy.ensures _ c.if-j-k.true
    c.fill_zero.ensures

pub returns-else-j-k : goal.returns-else-j-k
returns-else-j-k c = upper_whole _ c.args.src.now c.args.dst.now _ c.requires c.copy.ensures c.if-j-k.false
