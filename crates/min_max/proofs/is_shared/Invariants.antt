-- What is left at row k gives the whole. Assumes nothing.
use Prim.Native.Nat.{◌+◌}
use mathlib.Core.Path.{◌≡◌}
use lib.ListN.{drop}
use Rattle.min_max.specs.TossUp.{shared_from}
use Rattle.min_max.proofs.is_shared.Given as goal

abbrev pub invariant-loop-k : goal.invariant-loop-k
invariant-loop-k l = shared_from l.top l.row l.k (drop l.k l.col) ≡ shared_from l.top l.row (l.row + 1) (drop (l.row + 1) l.col)
