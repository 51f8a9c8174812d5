-- The pad's number, then the factors and the transposed solve. Assumes nothing.
use mathlib.Core.Bool.{false}
use mathlib.Core.Path.{◌≡◌, refl}
use native.Mathlib.Omega.{arith}
use borrow.Author.Rules.{rules}
use Rattle.std.proofs.Common.{Err}
use Rattle.refusals.specs.declared.Refusal.TheVariants.{Size}
use Rattle.panel_file.specs.File.{pads_of}
use Rattle.crossing_pads.specs.Moving.{no_pad}
use Rattle.crossing.proofs.Factors.{Filed, filed_ready, filed_tossed, filed_refused, factors_seven}
use Rattle.crossing_pads.proofs.Moving.{pad_inside, moving_held, moving_refused, refused_by_file, refused_by_pad, moving_early}
use Rattle.crossing_pads.proofs.moves.Goals.{After-factor_file}
use Rattle.crossing_pads.proofs.moves.Goals as goal

pub returns-in-Err : goal.returns-in-Err
returns-in-Err c =
    let g = c.args in
    let o = moving_early g.file.now g.pad c.in-Err.refusal (Err c.in-Err.refusal) g.out.now (refused_by_file g.file.now g.pad _ c.in-Err.ensures) refl in
    record { result_value = o.0; out_after = o.1; out_len = search rules }

pub returns-in-Ok : goal.returns-in-Ok
returns-in-Ok c =
    let g = c.args in
    let o = moving_early g.file.now g.pad Size (Err Size) g.out.now (refused_by_pad g.file.now g.pad (rw (← c.pads_of-n.ensures.0) c.if-nowhere.true)
    c.in-Ok.ensures) refl in
    record { result_value = o.0; out_after = o.1; out_len = search rules }

-- past the pad's test
there : (c : After-factor_file) → let g = c.args in no_pad (pads_of g.file.now) g.pad ≡ false
there c = rw (← c.pads_of-n.ensures.0) c.if-nowhere.false

-- what the stores hold
filed : (c : After-factor_file) → let s = c.factor_file.new in Filed c.args.file.now c.factor_file.result s.matrix s.readings s.swaps
filed c = (c.factor_file.ensures.result_value, (c.factor_file.ensures.swaps_after, c.factor_file.ensures.matrix_len))

pub move_pad-requires : goal.move_pad-requires
move_pad-requires c =
    let at = (goal.at.move_pad-requires c).After-factor_file in
    let w = filed_ready _ _ _ _ _ (filed at) _ c.in-Ok-factor_file.is in
    let p = pad_inside _ _ (there at) in
    (p.0, omega (arith, p.1, w.pads), w.most)

pub refuse-requires : goal.refuse-requires
refuse-requires c =
    let e = filed_refused _ _ _ _ _ (filed (goal.at.refuse-requires c).After-factor_file) _ c.in-Err-factor_file.is in
    (λ seven. omega (arith, c.pads_of-n.ensures.0, factors_seven _ _ e seven))

pub returns-in-Ok-factor_file : goal.returns-in-Ok-factor_file
returns-in-Ok-factor_file c =
    let at = (goal.at.returns-in-Ok-factor_file c).After-factor_file in
    let w = filed_ready _ _ _ _ _ (filed at) _ c.in-Ok-factor_file.is in
    let o = moving_held _ _ (there at) _ _ _ _ w.factors w.pads _ (filed_tossed _ _ _ _ _ (filed at) _ c.in-Ok-factor_file.is) _ _
    c.move_pad.ensures.result_value
    c.move_pad.ensures.out_after in
    record { result_value = o.0; out_after = o.1; out_len = search rules }

pub returns-in-Err-factor_file : goal.returns-in-Err-factor_file
returns-in-Err-factor_file c =
    let at = (goal.at.returns-in-Err-factor_file c).After-factor_file in
    let o = moving_refused _ _ (there at) _ _ _ _ _ (filed_refused _ _ _ _ _ (filed at) _ c.in-Err-factor_file.is) c.pads_of-n.ensures.0 c.refuse.ensures.value
    c.refuse.ensures.out_after in
    record { result_value = o.0; out_after = o.1; out_len = search rules }
