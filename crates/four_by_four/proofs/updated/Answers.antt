-- Each row by itself, computed; from row 3 on no row is below. Assumes nothing.
use mathlib.Core.Path.{sym}
use Prim.Native.Nat.{ℕ, ◌+◌}
use native.Mathlib.Omega.{arith}
use lib.Ieee.{Float}
use Rattle.numbers.specs.Each.{each_from}
use Rattle.numbers.specs.Column.{Column}
use Rattle.blas.specs.Blas.{axpy_from}
use Rattle.blas.proofs.Rows.{axpy_none}
use Rattle.four_by_four.specs.declared.Rows.{Rows}
use Rattle.four_by_four.specs.System.{listed}
use Rattle.four_by_four.proofs.Cases.{at}
use Rattle.four_by_four.proofs.updated.Goals as goal

abbrev updated_below : Float → Rows → Rows → ℕ → Column
updated_below u l c i = axpy_from (i + 1) u (listed l) (listed c)

pub returns-in-0 : goal.returns-in-0
unfolding axpy_from each_from
returns-in-0 c = let a = c.args in at (updated_below a.u a.l a.c) a.i 0 (omega arith)

pub returns-in-1 : goal.returns-in-1
unfolding axpy_from each_from
returns-in-1 c = let a = c.args in at (updated_below a.u a.l a.c) a.i 1 (omega arith)

pub returns-in-2 : goal.returns-in-2
unfolding axpy_from each_from
returns-in-2 c = let a = c.args in at (updated_below a.u a.l a.c) a.i 2 (omega arith)

pub returns-in_default : goal.returns-in_default
unfolding axpy_from each_from
returns-in_default c = let a = c.args in sym (axpy_none (a.i + 1) a.u (listed a.l) (listed a.c) (omega arith))
