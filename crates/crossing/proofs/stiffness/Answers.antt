-- The factors, then the determinant. Assumes nothing.
use Rattle.crossing.proofs.Factors.{Filed, filed_ready, filed_tossed, filed_refused, stiffness_held, stiffness_refused, tossed_held, tossed_refused}
use Rattle.crossing.proofs.stiffness.Goals.{After-factor_file}
use Rattle.crossing.proofs.stiffness.Goals as goal

-- what the stores hold
filed : (c : After-factor_file) → let s = c.factor_file.new in Filed c.args.file.now c.factor_file.result s.matrix s.readings s.swaps
filed c = (c.factor_file.ensures.result_value, (c.factor_file.ensures.swaps_after, c.factor_file.ensures.matrix_len))

pub determinant_of-determinant-requires : goal.determinant_of-determinant-requires
determinant_of-determinant-requires c =
    (filed_ready _ _ _ _ _ (filed (goal.at.determinant_of-determinant-requires c).After-factor_file) _ c.in-Ok.is).most

pub returns-in-Ok : goal.returns-in-Ok
returns-in-Ok c =
    let f = filed (goal.at.returns-in-Ok c).After-factor_file in
    let e = (filed_ready _ _ _ _ _ f _ c.in-Ok.is).factors in
    record {
      determinant_value = stiffness_held _ _ _ e c.determinant_of-determinant.ensures.result_value;
      answer_ranged = c.determinant_of-determinant.ensures.answer_ranged;
      toss_ups_value = tossed_held _ _ _ e (filed_tossed _ _ _ _ _ f _ c.in-Ok.is);
    }

pub returns-in-Err : goal.returns-in-Err
returns-in-Err c =
    let e = filed_refused _ _ _ _ _ (filed (goal.at.returns-in-Err c).After-factor_file) _ c.in-Err.is in
    record { determinant_value = stiffness_refused _ _ e; answer_ranged = tt; toss_ups_value = tossed_refused _ _ e }
