-- The turns that are left from turn k on, on what the column holds then, give the solved column. Assumes nothing.
use Prim.Native.Nat.{◌-◌}
use mathlib.Core.Path.{◌≡◌}
use Rattle.numbers.specs.Each.{turns_from}
use Rattle.store.specs.Columns.{columns}
use Rattle.triangular_passes.specs.Triangular.{turns_of, turn, solved_column}
use Rattle.triangular_passes.proofs.solve_column.Given as goal

abbrev pub invariant-loop-k : goal.invariant-loop-k
invariant-loop-k l =
    turns_from (turn l.pass l.n (columns l.n l.n l.t)) l.k (turns_of l.pass l.n - l.k) l.b ≡ solved_column l.pass l.n (columns l.n l.n l.t) l.initial.b
