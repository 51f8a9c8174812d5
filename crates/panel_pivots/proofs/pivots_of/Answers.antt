-- The factors, then their pivots; or the refusal. Assumes nothing.
use Rattle.crossing.proofs.Factors.{Filed, filed_ready, filed_tossed, filed_refused}
use Rattle.panel_pivots.proofs.Measured.{measured, measured_refused}
use Rattle.panel_pivots.proofs.pivots_of.Goals.{After-factor_file}
use Rattle.panel_pivots.proofs.pivots_of.Goals as goal

-- what the stores hold
filed : (c : After-factor_file) → let s = c.factor_file.new in Filed c.args.file.now c.factor_file.result s.matrix s.readings s.swaps
filed c = (c.factor_file.ensures.result_value, (c.factor_file.ensures.swaps_after, c.factor_file.ensures.matrix_len))

pub returns-in_err-told : goal.returns-in_err-told
returns-in_err-told c =
    measured_refused _ _ _ (filed_refused _ _ _ _ _ (filed (goal.at.returns-in_err-told c).After-factor_file) _ c.in_err-told.was)
    c.from_residual.ensures.1

pub span_front-requires : goal.span_front-requires
span_front-requires c =
    (filed_ready _ _ _ _ _ (filed (goal.at.span_front-requires c).After-factor_file) _ c.in_ok-told.was).most

pub returns : goal.returns
returns c =
    let f = filed (goal.at.returns c).After-factor_file in
    let w = filed_ready _ _ _ _ _ f _ c.in_ok-told.was in
    measured _ _ _ _ _ _ w.factors w.pads (filed_tossed _ _ _ _ _ f _ c.in_ok-told.was) c.greatest_of-most.ensures c.span_front.ensures
