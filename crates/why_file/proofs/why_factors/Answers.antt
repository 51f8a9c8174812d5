-- Reading, then why the matrix is not factored (`by_matrix`, `by_reader`). Assumes nothing.
use Rattle.why_file.proofs.Filed.{was_read, by_matrix, by_reader}
use Rattle.why_file.proofs.why_factors.Goals as goal

pub why_matrix-requires : goal.why_matrix-requires
why_matrix-requires c =
    (was_read c.args.file.now _ _ c.read.ensures.matrix_after c.read.ensures.readings_after _ c.in-Ok.ensures.result_value).good.most

pub returns-in-Ok : goal.returns-in-Ok
returns-in-Ok c =
    by_matrix c.args.file.now _ _ c.read.ensures.matrix_after c.read.ensures.readings_after _ c.in-Ok.ensures.result_value _ c.why_matrix.ensures

pub returns-in-Err : goal.returns-in-Err
returns-in-Err c = by_reader c.args.file.now _ c.in-Err.ensures.result_value
