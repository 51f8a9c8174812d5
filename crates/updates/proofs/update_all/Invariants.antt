-- The updates that are left from column i on give the whole; a turn makes the next four of them, or those that are left. Assumes nothing.
use Prim.Native.Nat.{◌+◌, ◌-◌, min}
use mathlib.Core.Path.{◌≡◌}
use Rattle.numbers.specs.Each.{turns_from}
use Rattle.store.specs.Columns.{columns}
use Rattle.updates.specs.Updates.{updated_at}
use Rattle.updates.proofs.update_all.Given as goal

abbrev pub invariant-loop-i : goal.invariant-loop-i
invariant-loop-i l =
    turns_from (updated_at l.n) l.i (l.all - l.i) (columns l.m (l.n + 1) l.s)
    ≡ turns_from (updated_at l.n) 0 (min l.m l.n) (columns l.m (l.n + 1) l.initial.s)
