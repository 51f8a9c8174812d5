-- After k columns the slices hold the outcome of factoring the first k (`Build`). Assumes nothing.
use Rattle.building_up.proofs.Build.{Building}
use Rattle.building_up.proofs.add_all.Given as goal

abbrev pub invariant-loop-k : goal.invariant-loop-k
invariant-loop-k l = Building l.m l.n l.a l.out l.swaps l.told l.tossed l.k
