-- The columns of L that are left to write from column j on give all of them. Assumes nothing.
use Prim.Native.Nat.{ℕ, ◌*◌}
use mathlib.Core.Path.{◌≡◌}
use lib.ListN.{length}
use Rattle.numbers.specs.Column.{Column}
use Rattle.store.specs.Columns.{columns}
use Rattle.store.specs.Steps.{column}
use Rattle.from_factors.specs.Triangles.{lower_of}
use Rattle.from_factors.proofs.Written.{Written}
use Rattle.from_factors.proofs.lower_columns.Given as goal

-- what is written to column j
abbrev pub lower : ℕ → ℕ → Column → ℕ → Column
lower m n factors j = lower_of j (column (columns m n factors) j)

abbrev pub invariant-loop-j : goal.invariant-loop-j
invariant-loop-j l = (length l.factors ≡ l.n * l.m) × Written (lower l.m l.n l.factors) l.m l.k l.j l.out
