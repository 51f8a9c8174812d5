-- Reading, then factoring in front of the store. Assumes nothing.
use mathlib.Core.Path.{sym}
use native.Mathlib.Omega.{arith}
use borrow.Author.Rules.{rules}
use Rattle.crossing.proofs.Factors.{Read, file_read, held_read, held_refused}
use Rattle.crossing.proofs.factor_read.Goals.{In_ok-n}
use Rattle.crossing.proofs.factor_read.Goals as goal

pub returns-in_err-n : goal.returns-in_err-n
returns-in_err-n c =
    let whole = held_refused c.args.file.now c.args.matrix.now c.args.readings.now c.args.swaps.now c.told-matrix c.told-readings _ _
    c.read.ensures.matrix_after c.read.ensures.readings_after _ _ c.in_err-n.ensures.result_value c.from_residual.ensures.1 in
    record { result_value = whole.0; swaps_after = whole.1 }

read_at : (c : In_ok-n) → let g = c.args in Read g.file.now g.matrix.now g.readings.now c.read.new.matrix c.read.new.readings c.in_ok-n.n
read_at c =
    file_read c.args.file.now c.args.matrix.now c.args.readings.now c.args.swaps.now c.told-matrix c.told-readings _ _
    c.read.ensures.matrix_after c.read.ensures.readings_after _ c.in_ok-n.ensures.result_value

pub overflow_mul-entries : goal.overflow_mul-entries
overflow_mul-entries c = omega (arith, (read_at c).entries)

pub slice_bounds-factor_pads-end : goal.slice_bounds-factor_pads-end
slice_bounds-factor_pads-end c = omega (arith, (read_at c).entries)

pub slice_bounds-factor_pads-end-2 : goal.slice_bounds-factor_pads-end-2
slice_bounds-factor_pads-end-2 c = sym (read_at (goal.at.slice_bounds-factor_pads-end-2 c).In_ok-n).good.size

pub factor_pads-requires : goal.factor_pads-requires
factor_pads-requires c =
    let w = (read_at (goal.at.factor_pads-requires c).In_ok-n).good in
    (w.least, w.most, w.size, w.finite, search rules)

pub returns : goal.returns
returns c =
    let whole = held_read c.args.file.now c.args.matrix.now c.args.readings.now c.args.swaps.now c.told-matrix c.told-readings _ _ _
    (read_at (goal.at.returns c).In_ok-n) _ _ _
    c.factor_pads.ensures.result_value c.factor_pads.ensures.a_after c.factor_pads.ensures.swaps_after in
    record { result_value = whole.0; swaps_after = whole.1 }
