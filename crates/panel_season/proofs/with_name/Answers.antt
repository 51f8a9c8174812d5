-- `panel_season::with_name` is safe and ends: the name lies within its store. Assumes nothing.
use native.Mathlib.Omega.{arith}
use lib.ListN.{length-take}
use Rattle.panel_season.proofs.with_name.Goals as goal

pub slice_bounds-with_named-end : goal.slice_bounds-with_named-end
slice_bounds-with_named-end c = simp length-take (omega arith)
