-- The numbers that are left from row i on give the least of all. Assumes nothing.
use Prim.Native.Nat.{◌-◌}
use mathlib.Core.Path.{◌≡◌}
use Rattle.numbers.specs.Each.{turns_from}
use Rattle.store.specs.Columns.{columns}
use Rattle.bands.specs.Bands.{less_at, least_on_diagonal}
use Rattle.bands.proofs.least_on_diagonal.Given as goal

abbrev pub invariant-loop-i : goal.invariant-loop-i
invariant-loop-i l = turns_from (less_at (columns l.n l.n l.t)) l.i (l.n - l.i) l.least ≡ least_on_diagonal l.n (columns l.n l.n l.t)
