-- The turns that are left from turn p on, on what v holds then, give the block solved. Assumes nothing.
use Prim.Native.Nat.{◌-◌}
use mathlib.Core.Bool.{false}
use mathlib.Core.Path.{◌≡◌}
use lib.ListN.{length}
use Rattle.numbers.specs.Each.{turns_from}
use Rattle.store.specs.Columns.{columns}
use Rattle.solve_by_rows.specs.Rows.{block_of, column_turn, solved_within}
use Rattle.solve_by_rows.proofs.within_down.Given as goal

abbrev pub invariant-loop-p : goal.invariant-loop-p
invariant-loop-p l =
    let w = length l.initial.v in
    turns_from (column_turn false w (block_of (columns l.n l.n l.t) l.r w)) l.p (w - l.p) l.v ≡ solved_within false (columns l.n l.n l.t) l.r l.initial.v
