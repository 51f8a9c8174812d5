-- The four pieces of a line, one behind the other (`line_written`). Assumes nothing.
use Prim.Native.Nat.{◌+◌, ◌≤◌}
use native.Mathlib.Omega.{arith}
use lib.ListN.{length-set}
use Rattle.panel_file.proofs.Bits.{no_nan}
use Rattle.panel_text.proofs.Writing.{length_decimal, line_room, line_written}
use Rattle.panel_text.proofs.put_line.Goals.{After-slice_known-2-1}
use Rattle.panel_text.proofs.put_line.Goals as goal

-- the space has its place, and the number at most two digits before it
space_at : (c : After-slice_known-2-1) → c.put_decimal-space.result ≤ c.args.at + 2
space_at c = omega (arith, c.put_decimal-space.ensures.value, (length_decimal c.args.pad).1)

pub bounds-out-space : goal.bounds-out-space
bounds-out-space c = omega (arith, space_at c)

pub overflow_add-hex : goal.overflow_add-hex
overflow_add-hex c = omega (arith, space_at c)

pub float_to_bits-load : goal.float_to_bits-load
float_to_bits-load c = no_nan c.args.load c.requires.2

pub put_hex-requires : goal.put_hex-requires
put_hex-requires c = simp length-set (omega (arith, space_at (goal.at.put_hex-requires c).After-slice_known-2-1))

pub overflow_add-end : goal.overflow_add-end
overflow_add-end c = omega (arith, space_at (goal.at.overflow_add-end c).After-slice_known-2-1)

pub bounds-out-end : goal.bounds-out-end
bounds-out-end c =
    (line_room _ _ c.args.load _ _ _ _ c.requires.1 c.put_decimal-space.ensures.out_after c.put_decimal-space.ensures.value c.put_hex.ensures).0

pub overflow_add-result : goal.overflow_add-result
overflow_add-result c = omega (arith, space_at (goal.at.overflow_add-result c).After-slice_known-2-1)

pub shape_of-out : goal.shape_of-out
shape_of-out c =
    simp length-set (line_room _ _ c.args.load _ _ _ _ c.requires.1 c.put_decimal-space.ensures.out_after c.put_decimal-space.ensures.value c.put_hex.ensures).1

pub returns : goal.returns
returns c =
    let whole = line_written _ _ _ _ _ _ _ c.requires.1 c.put_decimal-space.ensures.out_after c.put_decimal-space.ensures.value c.put_hex.ensures in
    record { value = whole.0; out_after = whole.1 }
