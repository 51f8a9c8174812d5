-- The refusal, the step, the column and the row (`told_factoring`). Assumes nothing.
use mathlib.Core.List.{◌++◌}
use native.Mathlib.Omega.{arith}
use lib.ListN.{length-append}
use Rattle.panel_text.specs.Text.{refused_text}
use Rattle.panel_text.specs.Why.{step_word, place_text}
use Rattle.panel_text.proofs.Pieces.{Put, put_first, put_next, put_text, length_place, length_refused, length_spot, told_factoring}
use Rattle.panel_text.proofs.put_factoring.Goals.{After-put_place-arg-3-1, After-put_spot-arg-1}
use Rattle.panel_text.proofs.put_factoring.Goals as goal

refusal_at : (c : After-put_place-arg-3-1) → Put 0 c.args.out.now (refused_text 7) c.put_refusal-at.new.out c.put_refusal-at.result
refusal_at c =
    put_first _ _ _ _ _ (omega (arith, length_refused 7, c.requires.3)) c.put_refusal-at.ensures.out_after
    (omega (arith, c.put_refusal-at.ensures.value))

step_at : (c : After-put_spot-arg-1) → Put 0 c.args.out.now (refused_text 7 ++ place_text step_word c.args.step) c.put_place-end.new.out c.put_place-end.result
step_at c =
    let refusal_at : Put 0 c.args.out.now (refused_text 7) c.put_refusal-at.new.out c.put_refusal-at.result =
    put_first _ _ _ _ _ (omega (arith, length_refused 7, c.requires.3)) c.put_refusal-at.ensures.out_after
    (omega (arith, c.put_refusal-at.ensures.value)) in
    put_next _ _ _ _ _ refusal_at _ _ _ (omega (arith, length_refused 7, length_place step_word c.args.step, c.requires.3))
    c.put_place-end.ensures.out_after c.put_place-end.ensures.value

pub put_place-end-requires : goal.put_place-end-requires
put_place-end-requires c =
    let p = refusal_at c in
    (c.requires.0, omega (arith, p.size, p.count, length_refused 7, c.requires.3))

pub put_spot-requires : goal.put_spot-requires
put_spot-requires c =
    let p = step_at c in
    let both = length-append (refused_text 7) (place_text step_word c.args.step) in
    (c.requires.1, c.requires.2, omega (arith, p.size, p.count, length_refused 7, length_place step_word c.args.step, c.requires.3))

pub returns : goal.returns
returns c =
    let g = c.args in
    let both = length-append (refused_text 7) (place_text step_word g.step) in
    let p = put_next _ _ _ _ _ (step_at (goal.at.returns c).After-put_spot-arg-1) _ _ _
    (omega (arith, length_refused 7, length_place step_word g.step, length_spot g.column g.row, c.requires.3)) c.put_spot.ensures.out_after
    c.put_spot.ensures.value in
    let whole = put_text _ _ _ _ _ p (told_factoring g.step g.column g.row) in record { value = whole.0; out_after = whole.1 }
