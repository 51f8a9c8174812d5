-- The turns that are left when rows up to p are, on what v holds then, give the block solved. Assumes nothing.
use Prim.Native.Nat.{◌-◌}
use mathlib.Core.Bool.{true}
use mathlib.Core.Path.{◌≡◌}
use Rattle.numbers.specs.Each.{turns_from}
use Rattle.store.specs.Columns.{columns}
use Rattle.solve_by_rows.specs.Rows.{block_of, column_turn, solved_within}
use Rattle.solve_by_rows.proofs.within_up.Given as goal

abbrev pub invariant-loop-p : goal.invariant-loop-p
invariant-loop-p l =
    turns_from (column_turn true l.w (block_of (columns l.n l.n l.t) l.r l.w)) (l.w - l.p) l.p l.v ≡ solved_within true (columns l.n l.n l.t) l.r l.initial.v
