-- The head's tests first; the numbers are tested once their places are known to be there. Assumes nothing.
use mathlib.Core.Path.{◌≡◌, ◌∙◌}
use native.Mathlib.Omega.{arith}
use Rattle.refusals.specs.Outcome.{first_holding}
use Rattle.refusals.proofs.Outcomes.{handed_on}
use Rattle.panel_file.proofs.Reading.{head_tests, refused_early, refused_late, places_tested}
use Rattle.panel_file.proofs.test_beside.Goals.{In_ok-first_of}
use Rattle.panel_file.proofs.test_beside.Goals as goal

pub returns-in_err-first_of : goal.returns-in_err-first_of
returns-in_err-first_of c =
    rw (handed_on _ _ c.from_residual.ensures.1)
    (refused_early c.args.fit c.args.file.now _ (rw (c.is_headed.ensures, c.outside.ensures, c.pads_of-n.ensures.0) at c.in_err-first_of.ensures))

-- past the head's tests
passed : (c : In_ok-first_of) → 0 ≡ first_holding (head_tests c.args.fit c.args.file.now)
passed c = rw (c.is_headed.ensures, c.outside.ensures, c.pads_of-n.ensures.0) at c.in_ok-first_of.ensures

pub numbers_finite-requires : goal.numbers_finite-requires
numbers_finite-requires c = rw c.pads_of-n.ensures.0 (omega (arith, places_tested c.args.fit c.args.file.now (passed c)))

pub returns : goal.returns
returns c =
    rw (c.numbers_finite.ensures, c.pads_of-n.ensures.0) at c.first_of-2.ensures
    ∙ refused_late c.args.fit c.args.file.now (passed (goal.at.returns c).In_ok-first_of)
