-- The determinant's answer, taken apart and handed on. Assumes nothing.
use mathlib.Core.Path.{sym, ap, ◌∙◌, subst}
use native.Mathlib.Omega.{arith}
use Rattle.panel_file.proofs.Reading.{square}
use Rattle.refusals.specs.Outcome.{outcome}
use Rattle.scaled_determinant.specs.Range.{AnswerRanged}
use Rattle.crossing.specs.Below.{scaled_by}
use Rattle.crossing.proofs.determinant_of.Goals as goal

pub overflow_mul-entries : goal.overflow_mul-entries
overflow_mul-entries c = omega (arith, square c.args.told.rows 64 c.requires)

pub returns-in_default : goal.returns-in_default
unfolding scaled_by
returns-in_default c =
    record { result_value = c.scaled_determinant-answer.ensures.result_value; answer_ranged = c.scaled_determinant-answer.ensures.answer_ranged }

pub returns : goal.returns
unfolding scaled_by
returns c =
    record {
      result_value = ap outcome (sym c.in-Ok.is) ∙ c.scaled_determinant-answer.ensures.result_value;
      answer_ranged = subst AnswerRanged c.in-Ok.is c.scaled_determinant-answer.ensures.answer_ranged;
    }
