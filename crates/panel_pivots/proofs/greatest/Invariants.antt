-- The greatest magnitude of the numbers before number k. Assumes nothing.
use Rattle.panel_pivots.specs.Outermost.{Greatest}
use Rattle.panel_pivots.proofs.greatest.Given as goal

abbrev pub invariant-loop-number : goal.invariant-loop-number
invariant-loop-number l = Greatest l.numbers l.number-index l.found
