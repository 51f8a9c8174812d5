-- The refusal, the pass, the column and the row (`told_solving`). Assumes nothing.
use mathlib.Core.Path.{ap, ◌∙◌}
use mathlib.Core.List.{List, ◌++◌}
use Prim.Native.Nat.{ℕ, ◌+◌}
use native.Mathlib.Omega.{arith}
use lib.ListN.{length, length-append}
use Rattle.panel_text.specs.Text.{written, refused_text}
use Rattle.panel_text.specs.Why.{pass_word}
use Rattle.panel_text.proofs.Pieces.{Put, put_first, put_next, put_text, length_refused, length_spot, length_pass, told_solving}
use Rattle.panel_text.proofs.put_solving.Goals.{After-put_spot-arg-1, After-slice_known-2-1}
use Rattle.panel_text.proofs.put_solving.Goals as goal

refusal_at : (c : After-slice_known-2-1) → Put 0 c.args.out.now (refused_text 7) c.put_refusal-at.new.out c.put_refusal-at.result
refusal_at c =
    put_first _ _ _ _ _ (omega (arith, length_refused 7, c.requires.2)) c.put_refusal-at.ensures.out_after (omega (arith, c.put_refusal-at.ensures.value))

pass_at : (c : After-put_spot-arg-1) → Put 0 c.args.out.now (refused_text 7 ++ pass_word c.args.pass) c.put_word-end.new.out c.put_word-end.result
pass_at c =
    let refusal_at : Put 0 c.args.out.now (refused_text 7) c.put_refusal-at.new.out c.put_refusal-at.result =
    put_first _ _ _ _ _ (omega (arith, length_refused 7, c.requires.2)) c.put_refusal-at.ensures.out_after
    (omega (arith, c.put_refusal-at.ensures.value)) in
    let name = c.pass_word-name.ensures in
    put_next _ _ _ _ _ refusal_at _ _ _ (omega (arith, length_refused 7, length_pass c.args.pass, c.requires.2))
    (c.put_word-end.ensures.out_after ∙ ap (λ (w : List ℕ). written c.put_refusal-at.result w c.put_refusal-at.new.out) name)
    (c.put_word-end.ensures.value ∙ ap (λ (w : List ℕ). c.put_refusal-at.result + length w) name)

pub put_word-end-requires : goal.put_word-end-requires
put_word-end-requires c =
    let p = refusal_at (goal.at.put_word-end-requires c).After-slice_known-2-1 in
    let named = ap length c.pass_word-name.ensures ∙ length_pass c.args.pass in
    omega (arith, p.size, p.count, length_refused 7, c.requires.2)

pub put_spot-requires : goal.put_spot-requires
put_spot-requires c =
    let p = pass_at c in
    let both = length-append (refused_text 7) (pass_word c.args.pass) in
    (c.requires.0, c.requires.1, omega (arith, p.size, p.count, length_refused 7, length_pass c.args.pass, c.requires.2))

pub returns : goal.returns
returns c =
    let g = c.args in
    let both = length-append (refused_text 7) (pass_word g.pass) in
    let p = put_next _ _ _ _ _ (pass_at (goal.at.returns c).After-put_spot-arg-1) _ _ _
    (omega (arith, length_refused 7, length_pass g.pass, length_spot g.column g.row, c.requires.2)) c.put_spot.ensures.out_after
    c.put_spot.ensures.value in
    let whole = put_text _ _ _ _ _ p (told_solving g.pass g.column g.row) in record { value = whole.0; out_after = whole.1 }
