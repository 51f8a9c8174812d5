-- A store of more than 64 columns is none. Assumes nothing.
use Prim.Native.Nat.{◌+◌}
use native.Mathlib.Omega.{arith}
use borrow.Author.Tests.{lt-leb}
use lib.Dec.{leb}
use Rattle.numbers.proofs.Choice.{test_cases}
use Rattle.store.specs.Columns.{is_matrix}
use Rattle.adding.proofs.has_room.Goals as goal

pub returns-then-n-gt63 : goal.returns-then-n-gt63
unfolding is_matrix
returns-then-n-gt63 c =
    let more = lt-leb (c.args.n + 1) 64 (omega arith) in
    test_cases (leb c.args.m 64) (λ t. rw (t, more)) (λ t. rw t)
