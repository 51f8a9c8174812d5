-- The size first, so that its square is a small number; then the tests as the definition has them. Assumes nothing.
use mathlib.Core.Path.{◌∙◌}
use Rattle.refusals.proofs.Outcomes.{handed_on}
use Rattle.panel_file_writer.proofs.Writing.{size_refused, size_passed}
use Rattle.panel_file_writer.proofs.test_writing.Goals as goal

pub returns-in_err-first_of : goal.returns-in_err-first_of
returns-in_err-first_of c =
    rw (handed_on _ _ c.from_residual.ensures.1)
    (size_refused c.args.n c.args.matrix.now c.args.readings.now c.args.room _ (rw c.outside.ensures at c.in_err-first_of.ensures))

pub returns : goal.returns
returns c =
    rw (c.all_finite.ensures, c.all_finite-2.ensures) at c.first_of-2.ensures
    ∙ size_passed c.args.n c.args.matrix.now c.args.readings.now c.args.room (rw c.outside.ensures at c.in_ok-first_of.ensures)
