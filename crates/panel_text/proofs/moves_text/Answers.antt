-- The answer, then its text. Assumes nothing.
use native.Mathlib.Omega.{arith}
use borrow.Author.Rules.{rules}
use Rattle.crossing.proofs.Factors.{taken_count}
use Rattle.panel_text.proofs.Writing.{prints}
use Rattle.panel_text.proofs.Printed.{Moved, moved, text_not_moved}
use Rattle.panel_text.proofs.moves_text.Goals.{In-Ok}
use Rattle.panel_text.proofs.moves_text.Goals as goal

-- what the slice holds where there are moves
moved_at : (c : In-Ok) → Moved c.args.file.now c.args.pad c.in-Ok.field-0.pads c.moves.new.out
moved_at c = moved _ _ _ c.moves.ensures.result_value _ _ c.in-Ok.is c.moves.ensures.out_after c.moves.ensures.out_len

pub slice_bounds-moves-end : goal.slice_bounds-moves-end
slice_bounds-moves-end c = omega (arith, (moved_at (goal.at.slice_bounds-moves-end c).In-Ok).few)

pub slice_bounds-put_moves-end-in-Ok : goal.slice_bounds-put_moves-end-in-Ok
slice_bounds-put_moves-end-in-Ok c =
    taken_count _ c.moves.new.out (omega (arith, (moved_at (goal.at.slice_bounds-put_moves-end-in-Ok c).In-Ok).few, c.moves.ensures.out_len))

pub put_moves-requires : goal.put_moves-requires
put_moves-requires c =
    let w = moved_at (goal.at.put_moves-requires c).In-Ok in
    let a = taken_count c.in-Ok.field-0.pads c.moves.new.out (omega (arith, w.few, c.moves.ensures.out_len)) in
    (omega (arith, a, w.few), search rules, w.finite)

pub returns-in-Ok : goal.returns-in-Ok
returns-in-Ok c =
    let is = (moved_at (goal.at.returns-in-Ok c).In-Ok).text in
    let p = prints _ _ _ _ _ is c.put_moves.ensures.value c.put_moves.ensures.out_after in
    record { prefix_len = p.0; value = p.1.0; out_after = p.1.1 }

pub returns-in-Err : goal.returns-in-Err
returns-in-Err c =
    let is = text_not_moved _ _ _ c.moves.ensures.result_value _ c.in-Err.is in
    let p = prints _ _ _ _ _ is c.put_refusal.ensures.value c.put_refusal.ensures.out_after in
    record { prefix_len = p.0; value = p.1.0; out_after = p.1.1 }
