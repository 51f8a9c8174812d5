-- The least magnitude of the numbers before number k. Assumes nothing.
use Rattle.panel_pivots.specs.Outermost.{Least}
use Rattle.panel_pivots.proofs.least.Given as goal

abbrev pub invariant-loop-number : goal.invariant-loop-number
invariant-loop-number l = Least l.numbers l.number-index l.found
