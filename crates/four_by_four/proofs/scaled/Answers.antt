-- Each row by itself, computed. Assumes nothing.
use Prim.Native.Nat.{ℕ, ◌+◌}
use native.Mathlib.Omega.{arith}
use lib.Ieee.{Float}
use Rattle.numbers.specs.Each.{each_from}
use Rattle.numbers.specs.Column.{Column}
use Rattle.blas.specs.Blas.{scale_from}
use Rattle.four_by_four.specs.declared.Rows.{Rows}
use Rattle.four_by_four.specs.System.{listed}
use Rattle.four_by_four.proofs.Cases.{at}
use Rattle.four_by_four.proofs.scaled.Goals as goal

abbrev scaled_below : Float → Rows → ℕ → Column
scaled_below r c i = scale_from (i + 1) r (listed c)

pub returns-in-0 : goal.returns-in-0
unfolding scale_from each_from
returns-in-0 c = let a = c.args in at (scaled_below a.r a.c) a.i 0 (omega arith)

pub returns-in-1 : goal.returns-in-1
unfolding scale_from each_from
returns-in-1 c = let a = c.args in at (scaled_below a.r a.c) a.i 1 (omega arith)

pub returns-in_default : goal.returns-in_default
unfolding scale_from each_from
returns-in_default c = let a = c.args in at (scaled_below a.r a.c) a.i 2 (omega arith)
