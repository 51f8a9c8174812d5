-- The refusal, the column, the newline (`told_singular`). Assumes nothing.
use mathlib.Core.List.{[], ◌∷◌, ◌++◌}
use native.Mathlib.Omega.{arith}
use lib.ListN.{length-append}
use Rattle.panel_text.specs.Text.{refused_text}
use Rattle.panel_text.specs.Why.{column_word, place_text}
use Rattle.panel_text.proofs.Pieces.{Put, put_first, put_next, put_text, length_place, length_refused, told_singular}
use Rattle.panel_text.proofs.put_singular.Goals.{After-put_place-arg-3-1, After-put_word-arg-3-1}
use Rattle.panel_text.proofs.put_singular.Goals as goal

refusal_at : (c : After-put_place-arg-3-1) → Put 0 c.args.out.now (refused_text 6) c.put_refusal-at.new.out c.put_refusal-at.result
refusal_at c =
    put_first _ _ _ _ _ (omega (arith, length_refused 6, c.requires.1)) c.put_refusal-at.ensures.out_after
    (omega (arith, c.put_refusal-at.ensures.value))

column_at : (c : After-put_word-arg-3-1) → Put 0 c.args.out.now (refused_text 6 ++ place_text column_word c.args.column) c.put_place-end.new.out
    c.put_place-end.result
column_at c =
    let refusal_at : Put 0 c.args.out.now (refused_text 6) c.put_refusal-at.new.out c.put_refusal-at.result =
    put_first _ _ _ _ _ (omega (arith, length_refused 6, c.requires.1)) c.put_refusal-at.ensures.out_after
    (omega (arith, c.put_refusal-at.ensures.value)) in
    put_next _ _ _ _ _ refusal_at _ _ _ (omega (arith, length_refused 6, length_place column_word c.args.column, c.requires.1))
    c.put_place-end.ensures.out_after c.put_place-end.ensures.value

pub put_place-end-requires : goal.put_place-end-requires
put_place-end-requires c =
    let p = refusal_at c in
    (c.requires.0, omega (arith, p.size, p.count, length_refused 6, c.requires.1))

pub put_word-requires : goal.put_word-requires
put_word-requires c =
    let p = column_at c in
    let both = length-append (refused_text 6) (place_text column_word c.args.column) in
    omega (arith, p.size, p.count, length_refused 6, length_place column_word c.args.column, c.requires.1)

pub returns : goal.returns
returns c =
    let g = c.args in
    let both = length-append (refused_text 6) (place_text column_word g.column) in
    let p = put_next _ _ _ _ _ (column_at (goal.at.returns c).After-put_word-arg-3-1) (10 ∷ []) _ _
    (omega (arith, length_refused 6, length_place column_word g.column, c.requires.1))
    c.put_word.ensures.out_after c.put_word.ensures.value in
    let whole = put_text _ _ _ _ _ p (told_singular g.column) in record { value = whole.0; out_after = whole.1 }
