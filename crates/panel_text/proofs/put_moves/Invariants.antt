-- What is left at reading i are the lines from i on (`Lines`). Assumes nothing.
use lib.ListN.{length}
use Rattle.panel_text.specs.Text.{numbered}
use Rattle.panel_text.proofs.Lines.{Lines}
use Rattle.panel_text.proofs.put_moves.Given as goal

abbrev pub invariant-loop-i : goal.invariant-loop-i
invariant-loop-i l = Lines l.moves (numbered (length l.moves)) 0 l.initial.out l.out l.at l.i
