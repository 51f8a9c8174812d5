-- The numbers that are left from row i on give the least of all. Assumes nothing.
use mathlib.Core.Path.{sym, ap, ◌∙◌}
use lib.Ieee.{nan, nan_bits}
use Rattle.numbers.specs.Numbers.{magnitude}
use Rattle.numbers.proofs.Each.{turns_begin, turns_next, turns_done}
use Rattle.store.specs.Columns.{columns}
use Rattle.store.proofs.Columns.{entry_at}
use Rattle.bands.specs.Bands.{less_at, least_on_diagonal}
use Rattle.bands.proofs.Least.{less_taken, less_left}
use Rattle.bands.proofs.least_on_diagonal.Goals.{then-lower, else-lower}
use Rattle.bands.proofs.least_on_diagonal.Goals as goal

pub float_from_bits-least : goal.float_from_bits-least
unfolding nan_bits
float_from_bits-least c = tt

pub loop-i-init : goal.loop-i-init
unfolding least_on_diagonal
loop-i-init c = turns_begin _ _ _

pub loop-i-preserved : goal.loop-i-preserved
loop-i-preserved c =
    let g = c.args in
    let h = c.loop-i-test.true in
    let cs = columns g.n g.n g.t.now in
    let x = c.magnitude-x.ensures ∙ ap magnitude (entry_at g.n g.n c.loop-i.i c.loop-i.i g.t.now nan h h) in
    turns_next (less_at cs) _ _ _ _ h
    (elim c.if-lower.branch [
      | then-lower w ↦ w.least-is ∙ less_taken cs _ _ _ x w.if-lower.true
      | else-lower w ↦ w.least-is ∙ less_left cs _ _ _ x w.if-lower.false
    ]) ∙ c.loop-i.invariant

pub returns : goal.returns
returns c = sym (turns_done _ _ _ _ c.loop-i-test.false) ∙ c.loop-i.invariant
