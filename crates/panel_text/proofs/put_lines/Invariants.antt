-- What is left at pad i are the lines from i on (`Lines`). Assumes nothing.
use Rattle.panel_text.proofs.Lines.{Lines}
use Rattle.panel_text.proofs.put_lines.Given as goal

abbrev pub invariant-loop-pad : goal.invariant-loop-pad
invariant-loop-pad l = Lines l.loads l.ranks l.from l.initial.out l.out l.at l.pad-index
