-- The matrix, then the readings, each over the front of its store. Assumes nothing.
use mathlib.Core.Path.{sym}
use Rattle.panel_file.proofs.Reading.{Passed, read_refused, read_filled, matrix_fits, readings_fit, matrix_count, readings_count, matrix_asks}
use Rattle.panel_file.proofs.Reading.{readings_asks}
use Rattle.panel_file.proofs.read_front.Goals.{After-pads_of-n}
use Rattle.panel_file.proofs.read_front.Goals as goal

-- past the tests
passed : (c : After-pads_of-n) → let g = c.args in
    Passed g.fit g.file.now g.matrix.now g.readings.now c.pads_of-n.result
passed c = record { none = sym c.in_ok-test_beside.ensures; pads = c.pads_of-n.ensures.0; hold = c.requires }

pub returns-in_err-test_beside : goal.returns-in_err-test_beside
returns-in_err-test_beside c =
    let whole = read_refused _ _ _ _ _ _ c.in_err-test_beside.ensures c.from_residual.ensures.1 in
    record { result_value = whole.0; readings_after = whole.1 }

pub slice_bounds-fill-end : goal.slice_bounds-fill-end
slice_bounds-fill-end c = matrix_fits _ _ _ _ _ (passed c)

pub slice_bounds-fill-end-2 : goal.slice_bounds-fill-end-2
slice_bounds-fill-end-2 c = matrix_count _ _ _ _ _ (passed (goal.at.slice_bounds-fill-end-2 c).After-pads_of-n)

pub fill-requires : goal.fill-requires
fill-requires c =
    let whole = matrix_asks _ _ _ _ _ (passed (goal.at.fill-requires c).After-pads_of-n) in record { dst_in_bounds = whole.0; by_index = whole.1 }

pub slice_bounds-fill-end-3 : goal.slice_bounds-fill-end-3
slice_bounds-fill-end-3 c = readings_fit _ _ _ _ _ (passed (goal.at.slice_bounds-fill-end-3 c).After-pads_of-n)

pub slice_bounds-fill-end-4 : goal.slice_bounds-fill-end-4
slice_bounds-fill-end-4 c = readings_count _ _ _ _ _ (passed (goal.at.slice_bounds-fill-end-4 c).After-pads_of-n)

pub fill-requires-2 : goal.fill-requires-2
fill-requires-2 c =
    let whole = readings_asks _ _ _ _ _ (passed (goal.at.fill-requires-2 c).After-pads_of-n) in record { dst_in_bounds = whole.0; by_index = whole.1 }

pub returns : goal.returns
returns c =
    let whole = read_filled _ _ _ _ _ (passed (goal.at.returns c).After-pads_of-n) _ _ c.fill.ensures c.fill-2.ensures in
    record { result_value = whole.0; readings_after = whole.1 }
