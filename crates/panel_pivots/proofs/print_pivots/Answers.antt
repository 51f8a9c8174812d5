-- What is printed by its bits is no NaN. Assumes nothing.
use Rattle.panel_pivots.proofs.Measured.{measured_numbers}
use Rattle.panel_pivots.proofs.print_pivots.Goals as goal

pub print_bits-requires : goal.print_bits-requires
print_bits-requires c = (measured_numbers _ _ _ c.pivots_of.ensures _ c.in-Ok.is).0

pub print_bits-requires-in-Ok : goal.print_bits-requires-in-Ok
print_bits-requires-in-Ok c = (measured_numbers _ _ _ c.pivots_of.ensures _ c.in-Ok.is).1

pub print_bits-requires-in-Ok-2 : goal.print_bits-requires-in-Ok-2
print_bits-requires-in-Ok-2 c = (measured_numbers _ _ _ c.pivots_of.ensures _ c.in-Ok.is).2
