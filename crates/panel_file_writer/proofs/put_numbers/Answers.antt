-- The numbers before number k are written, and what stands before them stays (`Filling`). Assumes nothing.
use native.Mathlib.Omega.{arith}
use Rattle.finite.proofs.Finite.{finite_entry}
use Rattle.panel_file.proofs.Bits.{no_nan}
use Rattle.panel_file_writer.proofs.Fields.{fill_turn, fill_end}
use Rattle.panel_file_writer.proofs.put_numbers.Goals as goal

pub float_to_bits-x : goal.float_to_bits-x
float_to_bits-x c = no_nan _ (finite_entry c.args.numbers.now c.loop-k.k c.requires.1 (omega arith))

pub loop-k-preserved : goal.loop-k-preserved
loop-k-preserved c =
    fill_turn _ _ _ c.loop-k.file c.loop-k.k c.loop-k.invariant (omega arith) c.requires.0 _ c.put_bits.ensures.0.0 c.put_bits.ensures.0.1 c.put_bits.ensures.1
    (c.type_inv.numbers c.loop-k.k)

pub returns-clause-k_after : goal.returns-clause-k_after
returns-clause-k_after c = fill_end _ _ _ _ _ c.loop-k.invariant c.loop-k-test.false
