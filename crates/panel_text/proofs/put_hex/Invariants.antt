-- What is left at digit k are the first k digits of the rest of the bits (`Spelling`). Assumes nothing.
use Rattle.panel_text.proofs.Writing.{Spelling}
use Rattle.panel_text.proofs.put_hex.Given as goal

abbrev pub invariant-loop-k : goal.invariant-loop-k
invariant-loop-k l = Spelling l.at l.bits l.initial.out l.out l.rest l.k
