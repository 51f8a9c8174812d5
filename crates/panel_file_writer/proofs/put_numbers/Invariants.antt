-- The numbers before number k are written, and what stands before them stays (`Filling`). Assumes nothing.
use Rattle.panel_file_writer.proofs.Fields.{Filling}
use Rattle.panel_file_writer.proofs.put_numbers.Given as goal

abbrev pub invariant-loop-k : goal.invariant-loop-k
invariant-loop-k l = Filling l.from l.numbers l.initial.file l.file l.k
