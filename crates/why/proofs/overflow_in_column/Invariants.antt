-- After k turns, what is left gives the first result that is not finite and the solved column (`Turning`). Assumes nothing.
use Rattle.store.specs.Columns.{columns}
use Rattle.why.proofs.Column.{Turning}
use Rattle.why.proofs.overflow_in_column.Given as goal

abbrev pub invariant-loop-k : goal.invariant-loop-k
invariant-loop-k l = Turning l.pass l.n (columns l.n l.n l.t) l.initial.b l.b l.k
