-- Each exchange of two of four entries, computed. Assumes nothing.
use Prim.Native.Nat.{ℕ}
use native.Mathlib.Omega.{arith}
use Rattle.numbers.specs.Column.{Column}
use Rattle.blas.specs.Blas.{exchanged, swap_rows}
use Rattle.four_by_four.specs.declared.Rows.{Rows}
use Rattle.four_by_four.specs.System.{listed}
use Rattle.four_by_four.proofs.Cases.{at_two}
use Rattle.four_by_four.proofs.exchanged.Goals as goal

abbrev swapped_rows : Rows → ℕ → ℕ → Column
swapped_rows c i p = swap_rows i p (listed c)

pub returns-in-0-p : goal.returns-in-0-p
unfolding exchanged
returns-in-0-p c = let a = c.args in at_two (swapped_rows a.c) a.i a.p 0 0 (omega arith) (omega arith)

pub returns-in-1-p : goal.returns-in-1-p
unfolding exchanged
returns-in-1-p c = let a = c.args in at_two (swapped_rows a.c) a.i a.p 0 1 (omega arith) (omega arith)

pub returns-in-2 : goal.returns-in-2
unfolding exchanged
returns-in-2 c = let a = c.args in at_two (swapped_rows a.c) a.i a.p 0 2 (omega arith) (omega arith)

pub returns-in_default-p : goal.returns-in_default-p
unfolding exchanged
returns-in_default-p c = let a = c.args in at_two (swapped_rows a.c) a.i a.p 0 3 (omega arith) (omega arith)

pub returns-in-1-p-2 : goal.returns-in-1-p-2
unfolding exchanged
returns-in-1-p-2 c = let a = c.args in at_two (swapped_rows a.c) a.i a.p 1 1 (omega arith) (omega arith)

pub returns-in-2-p : goal.returns-in-2-p
unfolding exchanged
returns-in-2-p c = let a = c.args in at_two (swapped_rows a.c) a.i a.p 1 2 (omega arith) (omega arith)

pub returns-in_default-p-2 : goal.returns-in_default-p-2
unfolding exchanged
returns-in_default-p-2 c = let a = c.args in at_two (swapped_rows a.c) a.i a.p 1 3 (omega arith) (omega arith)

pub returns-in-2-p-2 : goal.returns-in-2-p-2
unfolding exchanged
returns-in-2-p-2 c = let a = c.args in at_two (swapped_rows a.c) a.i a.p 2 2 (omega arith) (omega arith)

pub returns-in_default-p-3 : goal.returns-in_default-p-3
unfolding exchanged
returns-in_default-p-3 c = let a = c.args in at_two (swapped_rows a.c) a.i a.p 2 3 (omega arith) (omega arith)
