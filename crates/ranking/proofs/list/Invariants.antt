-- After k pads the first k slots hold the chosen ones of them, and 0 behind (`Filling`). Assumes nothing.
use Rattle.ranking.specs.Inner.{choice_by}
use Rattle.ranking.proofs.Listing.{Filling}
use Rattle.ranking.proofs.list.Given as goal

abbrev pub invariant-loop-k : goal.invariant-loop-k
invariant-loop-k l = Filling (choice_by l.all l.loads) l.loads l.initial.ranks l.ranks l.count l.k
