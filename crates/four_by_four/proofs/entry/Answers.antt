-- The row by its number. Assumes nothing.
use Prim.Native.Nat.{ℕ}
use native.Mathlib.Omega.{arith}
use Rattle.numbers.specs.Column.{entry}
use Rattle.four_by_four.specs.System.{listed}
use Rattle.four_by_four.proofs.Cases.{at}
use Rattle.four_by_four.proofs.entry.Goals as goal

pub returns-in-0 : goal.returns-in-0
returns-in-0 c = at (λ (k : ℕ). entry (listed c.args.c) k) c.args.k 0 (omega arith)

pub returns-in-1 : goal.returns-in-1
returns-in-1 c = at (λ (k : ℕ). entry (listed c.args.c) k) c.args.k 1 (omega arith)

pub returns-in-2 : goal.returns-in-2
returns-in-2 c = at (λ (k : ℕ). entry (listed c.args.c) k) c.args.k 2 (omega arith)

pub returns-in_default : goal.returns-in_default
returns-in_default c = at (λ (k : ℕ). entry (listed c.args.c) k) c.args.k 3 (omega arith)
