-- The ranking of finite loads is not refused. Assumes nothing.
use Rattle.std.proofs.Common.{sym, ◌∙◌, arith}
use Rattle.crossing.proofs.Factors.{taken_count}
use Rattle.season.proofs.Telling.{listed_pads}
use Rattle.season.proofs.listed.Goals as goal

pub slice_bounds-rank-end : goal.slice_bounds-rank-end
slice_bounds-rank-end c = taken_count _ _ (omega (arith, c.requires))

pub returns : goal.returns
returns c =
    c.unwrap_or.ensures ∙ listed_pads _ c.args.loads.now _ c.requires (sym (taken_count _ _ (omega (arith, c.requires.1)))) _ c.rank.ensures.result_value
