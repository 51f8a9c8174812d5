-- The column by its number. Assumes nothing.
use Prim.Native.Nat.{ℕ}
use native.Mathlib.Omega.{arith}
use Rattle.store.specs.Steps.{column}
use Rattle.four_by_four.specs.System.{matrix_of}
use Rattle.four_by_four.proofs.Cases.{at}
use Rattle.four_by_four.proofs.column.Goals as goal

pub returns-in-0 : goal.returns-in-0
returns-in-0 c = at (λ (j : ℕ). column (matrix_of c.args.s) j) c.args.j 0 (omega arith)

pub returns-in-1 : goal.returns-in-1
returns-in-1 c = at (λ (j : ℕ). column (matrix_of c.args.s) j) c.args.j 1 (omega arith)

pub returns-in-2 : goal.returns-in-2
returns-in-2 c = at (λ (j : ℕ). column (matrix_of c.args.s) j) c.args.j 2 (omega arith)

pub returns-in_default : goal.returns-in_default
returns-in_default c = at (λ (j : ℕ). column (matrix_of c.args.s) j) c.args.j 3 (omega arith)
