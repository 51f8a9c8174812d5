-- The factors, then the loads and their ranks. Assumes nothing.
use native.Mathlib.Omega.{arith}
use borrow.Author.Rules.{rules}
use Rattle.crossing.proofs.Factors.{Filed, filed_ready, filed_tossed, filed_refused, factors_seven}
use Rattle.crossing_pads.proofs.Ordering.{ordering_held, ordering_refused}
use Rattle.crossing_pads.proofs.pad_order.Goals.{After-factor_file}
use Rattle.crossing_pads.proofs.pad_order.Goals as goal

-- what the stores hold
filed : (c : After-factor_file) → let s = c.factor_file.new in Filed c.args.file.now c.factor_file.result s.matrix s.readings s.swaps
filed c = (c.factor_file.ensures.result_value, (c.factor_file.ensures.swaps_after, c.factor_file.ensures.matrix_len))

pub rank_loads-requires : goal.rank_loads-requires
rank_loads-requires c =
    let w = filed_ready _ _ _ _ _ (filed (goal.at.rank_loads-requires c).After-factor_file) _ c.in-Ok.is in
    (w.least, w.most)

pub refuse-requires : goal.refuse-requires
refuse-requires c =
    let e = filed_refused _ _ _ _ _ (filed (goal.at.refuse-requires c).After-factor_file) _ c.in-Err.is in
    (λ seven. omega (arith, c.pads_of.ensures.0, factors_seven _ _ e seven))

pub returns-in-Ok : goal.returns-in-Ok
returns-in-Ok c =
    let f = filed (goal.at.returns-in-Ok c).After-factor_file in
    let w = filed_ready _ _ _ _ _ f _ c.in-Ok.is in
    let o = ordering_held _ _ _ _ _ _ _ w.factors w.pads w.is_readings _ (filed_tossed _ _ _ _ _ f _ c.in-Ok.is) _ _ _
    c.rank_loads.ensures.result_value c.rank_loads.ensures.ranks_after c.rank_loads.ensures.loads_after in
    record { result_value = o.0; ranks_after = o.1.0; loads_after = o.1.1; loads_len = search rules }

pub returns-in-Err : goal.returns-in-Err
returns-in-Err c =
    let e = filed_refused _ _ _ _ _ (filed (goal.at.returns-in-Err c).After-factor_file) _ c.in-Err.is in
    let o = ordering_refused _ _ _ _ _ _ _ e c.pads_of.ensures.0 c.refuse.ensures.value c.refuse.ensures.out_after in
    record { result_value = o.0; ranks_after = o.1.0; loads_after = o.1.1; loads_len = search rules }
