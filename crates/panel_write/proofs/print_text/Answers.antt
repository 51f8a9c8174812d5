-- The bytes of a file fit their room. Assumes nothing.
use mathlib.Core.Path.{sym}
use Prim.Native.Nat.{◌≤◌}
use native.Mathlib.Omega.{arith}
use lib.Seq.{length-take-le}
use Rattle.panel_write.proofs.Written.{text_fits}
use Rattle.panel_write.proofs.print_text.Goals.{In-Ok}
use Rattle.panel_write.proofs.print_text.Goals as goal

fits : (c : In-Ok) → c.in-Ok.count ≤ 33286
fits c = text_fits _ _ _ _ (rw c.in-Ok.is at c.write_text.ensures)

pub slice_bounds-file-end : goal.slice_bounds-file-end
slice_bounds-file-end c = omega (arith, fits c)

pub slice_bounds-write_all-end : goal.slice_bounds-write_all-end
slice_bounds-write_all-end c = sym (length-take-le _ _ (omega (arith, fits (goal.at.slice_bounds-write_all-end c).In-Ok)))
