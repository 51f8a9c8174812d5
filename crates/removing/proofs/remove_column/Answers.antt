-- Refused by its tests, the record stays. Assumes nothing.
use mathlib.Core.Path.{sym, ap, ◌∙◌}
use Rattle.refusals.proofs.Outcomes.{never_0, tested_some}
use Rattle.factors.specs.Factors.{Factoring, record_after}
use Rattle.removing.specs.Removing.{removing}
use Rattle.removing.proofs.remove_column.Goals as goal

pub returns-in-Err-clause-record_value : goal.returns-in-Err-clause-record_value
unfolding removing record_after
returns-in-Err-clause-record_value c =
    sym (ap (λ (o : Factoring). record_after c.args.told o.answer) (tested_some _ _ _ (λ z. never_0 c.in-Err.refusal (c.in-Err.ensures ∙ z))))
