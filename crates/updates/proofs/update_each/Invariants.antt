-- The updates that are left from column i on give the whole. Assumes nothing.
use Prim.Native.Nat.{◌-◌}
use mathlib.Core.Path.{◌≡◌}
use Rattle.numbers.specs.Each.{turns_from}
use Rattle.store.specs.Columns.{columns}
use Rattle.updates.specs.Updates.{updated_at}
use Rattle.updates.proofs.update_each.Given as goal

abbrev pub invariant-loop-i : goal.invariant-loop-i
invariant-loop-i l =
    turns_from (updated_at l.j) l.i (l.to - l.i) (columns l.m l.n l.s)
    ≡ turns_from (updated_at l.j) l.from (l.to - l.from) (columns l.m l.n l.initial.s)
