-- What is left to do at place j gives the whole (`Pushing`). Assumes nothing.
use Rattle.ranking.proofs.Inserting.{Pushing}
use Rattle.ranking.proofs.insert.Given as goal

abbrev pub invariant-loop-j : goal.invariant-loop-j
invariant-loop-j l = Pushing l.loads l.pad l.initial.ranks l.count l.ranks l.carried l.j
