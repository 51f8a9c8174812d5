-- The factors, then why they do not solve; or why there are none. Assumes nothing.
use Rattle.crossing.proofs.Factors.{Ready, filed_ready, filed_refused}
use Rattle.why_file.proofs.Filed.{by_loads, by_factors}
use Rattle.why_file.proofs.Near.{placed}
use Rattle.why_file.proofs.why_file.Goals.{In-Ok}
use Rattle.why_file.proofs.why_file.Goals as goal

-- the factors stand in their store
ready : (c : In-Ok) → Ready c.args.file.now c.factor_file.new.matrix c.factor_file.new.readings c.factor_file.new.swaps c.in-Ok.field-0.told
ready c =
    filed_ready _ _ _ _ _ (c.factor_file.ensures.result_value, (c.factor_file.ensures.swaps_after, c.factor_file.ensures.matrix_len)) _ c.in-Ok.is

pub why_loads-requires : goal.why_loads-requires
why_loads-requires c = (ready (goal.at.why_loads-requires c).In-Ok).most

pub returns-in-Ok : goal.returns-in-Ok
returns-in-Ok c =
    let e = by_loads _ _ _ _ _ _ (ready (goal.at.returns-in-Ok c).In-Ok) c.why_loads.ensures in
    record { result_value = e; placed = placed _ _ e }

pub returns-in-Err : goal.returns-in-Err
returns-in-Err c =
    let e = by_factors _ _ _ (filed_refused _ _ _ _ _ (
      c.factor_file.ensures.result_value,
      (
        c.factor_file.ensures.swaps_after,
        c.factor_file.ensures.matrix_len,
      ),
    ) _ c.in-Err.is)
    c.why_factors.ensures in
    record { result_value = e; placed = placed _ _ e }
