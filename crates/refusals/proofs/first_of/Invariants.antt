-- No test before the index holds: the first of those left is the first of all. Assumes nothing.
use mathlib.Core.Path.{◌≡◌}
use lib.ListN.{drop}
use Rattle.refusals.specs.Outcome.{first_holding, numbered}
use Rattle.refusals.proofs.first_of.Given as goal

abbrev pub invariant-loop-refusal : goal.invariant-loop-refusal
invariant-loop-refusal l = first_holding (numbered (drop l.refusal-index l.tests)) ≡ first_holding (numbered l.tests)
