-- The tests, then the file over the front of the slice. Assumes nothing.
use mathlib.Core.Path.{sym}
use lib.ListN.{length}
use lib.Seq.{length-take-le}
use Rattle.panel_file_writer.proofs.Writing.{Fit, fit, write_refused, write_done}
use Rattle.panel_file_writer.proofs.write.Goals.{In_ok-test_writing}
use Rattle.panel_file_writer.proofs.write.Goals as goal

pub returns-in_err-test_writing : goal.returns-in_err-test_writing
returns-in_err-test_writing c = write_refused _ _ _ _ _ _ c.in_err-test_writing.ensures c.from_residual.ensures.1

-- past the tests
past : (c : In_ok-test_writing) → let g = c.args in Fit g.n g.matrix.now g.readings.now (length g.out.now)
past c = fit _ _ _ _ (sym c.in_ok-test_writing.ensures)

pub slice_bounds-put_file-end : goal.slice_bounds-put_file-end
slice_bounds-put_file-end c = (past (goal.at.slice_bounds-put_file-end c).In_ok-test_writing).fits

pub slice_bounds-put_file-end-2 : goal.slice_bounds-put_file-end-2
slice_bounds-put_file-end-2 c = sym (length-take-le _ _ (past (goal.at.slice_bounds-put_file-end-2 c).In_ok-test_writing).fits)

pub put_file-requires : goal.put_file-requires
put_file-requires c =
    let f = past (goal.at.put_file-requires c).In_ok-test_writing in
    record { n_bound = (f.size.at_most, f.matrix_length, f.readings_length, length-take-le _ _ f.fits); matrix_value = (f.matrix_finite, f.readings_finite) }

pub returns : goal.returns
returns c = write_done _ _ _ _ _ (sym c.in_ok-test_writing.ensures) c.put_file.ensures
