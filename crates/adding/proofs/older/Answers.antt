-- The slot of a store that has one lies behind n columns. Assumes nothing.
use Prim.Native.Nat.{◌+◌, ◌*◌, ◌≤◌}
use mathlib.Core.Path.{sym, ◌∙◌}
use native.Mathlib.Omega.{arith}
use lib.ListN.{length}
use Rattle.store.proofs.Columns.{sized, column_within}
use Rattle.adding.proofs.older.Goals.{Then-room}
use Rattle.adding.proofs.older.Goals as goal

within : (c : Then-room) → let g = c.args in g.n * g.m + g.m ≤ length g.s.now
within c =
    let g = c.args in
    column_within g.m (g.n + 1) g.n g.s.now (omega arith) (sized g.m (g.n + 1) g.s.now (sym c.requires ∙ c.if-room.true)).size

pub returns-then-room : goal.returns-then-room
returns-then-room c = (rw c.if-room.true, omega (arith, within c))

pub returns : goal.returns
returns c = (rw c.if-room.false, omega arith)

pub overflow_mul-result : goal.overflow_mul-result
overflow_mul-result c = omega (arith, within c)
