-- The factors, then the share. Assumes nothing.
use Rattle.std.proofs.Common.{◌∙◌}
use Rattle.crossing.proofs.Factors.{Ready, filed_ready, filed_refused}
use Rattle.season.proofs.Telling.{telling_held, telling_refused}
use Rattle.season.proofs.tell.Goals.{In_ok-told}
use Rattle.season.proofs.tell.Goals as goal

-- the factors stand in their store
ready : (c : In_ok-told)
    → Ready c.args.file.now c.factor_file.new.matrix c.factor_file.new.readings c.factor_file.new.swaps c.in_ok-told.field-0.told
ready c =
    filed_ready _ _ _ _ _ (c.factor_file.ensures.result_value, (c.factor_file.ensures.swaps_after, c.factor_file.ensures.matrix_len)) _ c.in_ok-told.was

pub returns-in_err-told : goal.returns-in_err-told
returns-in_err-told c =
    telling_refused _ _ _ (filed_refused _ _ _ _ _ (
      c.factor_file.ensures.result_value,
      (
        c.factor_file.ensures.swaps_after,
        c.factor_file.ensures.matrix_len,
      ),
    ) _ c.in_err-told.was)
    c.from_residual.ensures.1

pub tell_crossing-requires : goal.tell_crossing-requires
tell_crossing-requires c = let w = ready (goal.at.tell_crossing-requires c).In_ok-told in (w.least, w.most)

pub returns : goal.returns
returns c =
    let w = ready (goal.at.returns c).In_ok-told in
    c.tell_crossing.ensures ∙ telling_held _ _ _ _ _ w.factors w.is_readings
