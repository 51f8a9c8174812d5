-- The matrix lies in front of its store. Assumes nothing.
use mathlib.Core.Path.{subst}
use native.Mathlib.Omega.{arith}
use lib.ListN.{length}
use Rattle.numbers.specs.Column.{Column, zeros}
use Rattle.crossing.proofs.Factors.{Read, taken_count}
use Rattle.panel_pivots.specs.Outermost.{Greatest}
use Rattle.panel_pivots.proofs.Reading.{pads_read, never_refused}
use Rattle.panel_pivots.proofs.greatest_of.Goals.{In-Ok}
use Rattle.panel_pivots.proofs.greatest_of.Goals as goal

read_at : (c : In-Ok) → Read c.args.file.now (zeros 4096) (zeros 64) c.read.new.matrix c.read.new.readings
    c.in-Ok.n
read_at c =
    pads_read _ _ _ _ (c.read.ensures.result_value, (c.read.ensures.matrix_after, c.read.ensures.readings_after)) _ c.in-Ok.is

pub returns-in-Ok : goal.returns-in-Ok
returns-in-Ok c =
    λ _. subst (λ (p : Column). Greatest p (length p) c.greatest.result) (read_at (goal.at.returns-in-Ok c).In-Ok).is_matrix_lem c.greatest.ensures

pub returns-in-Err : goal.returns-in-Err
returns-in-Err c = λ z. absurd (never_refused _ _ c.read.ensures.result_value _ c.in-Err.is z)

pub overflow_mul-entries : goal.overflow_mul-entries
overflow_mul-entries c = omega (arith, (read_at c).entries)

pub slice_bounds-matrix-end : goal.slice_bounds-matrix-end
slice_bounds-matrix-end c = omega (arith, (read_at c).entries)

pub slice_bounds-greatest-end : goal.slice_bounds-greatest-end
slice_bounds-greatest-end c = taken_count _ _ (omega (arith, (read_at (goal.at.slice_bounds-greatest-end c).In-Ok).entries))
