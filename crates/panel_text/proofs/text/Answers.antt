-- The answer, then its text. Assumes nothing.
use mathlib.Core.Path.{sym}
use native.Mathlib.Omega.{arith}
use borrow.Author.Rules.{rules}
use Rattle.crossing.proofs.Factors.{taken_count}
use Rattle.panel_text.proofs.Writing.{prints}
use Rattle.panel_text.proofs.Printed.{Shown, shown, text_refused, lines_asks}
use Rattle.panel_text.proofs.text.Goals.{In-Ok}
use Rattle.panel_text.proofs.text.Goals as goal

-- what the slices hold where pads are ranked
shown_at : (c : In-Ok) → Shown c.args.file.now c.in-Ok.field-0.pads c.pad_order.new.ranks c.pad_order.new.loads
shown_at c =
    shown _ _ c.pad_order.ensures.result_value _ _ _ c.in-Ok.is c.pad_order.ensures.ranks_after c.pad_order.ensures.loads_after
    c.pad_order.ensures.loads_len

pub slice_bounds-ranks-end : goal.slice_bounds-ranks-end
slice_bounds-ranks-end c = let w = shown_at (goal.at.slice_bounds-ranks-end c).In-Ok in omega (arith, w.few, w.ranks_count)

pub slice_bounds-put_pads-end-in-Ok : goal.slice_bounds-put_pads-end-in-Ok
slice_bounds-put_pads-end-in-Ok c =
    let w = shown_at (goal.at.slice_bounds-put_pads-end-in-Ok c).In-Ok in taken_count _ _ (omega (arith, w.few, w.ranks_count))

pub slice_bounds-loads-end : goal.slice_bounds-loads-end
slice_bounds-loads-end c = omega (arith, (shown_at (goal.at.slice_bounds-loads-end c).In-Ok).few)

pub slice_bounds-put_pads-end-in-Ok-2 : goal.slice_bounds-put_pads-end-in-Ok-2
slice_bounds-put_pads-end-in-Ok-2 c =
    let w = shown_at (goal.at.slice_bounds-put_pads-end-in-Ok-2 c).In-Ok in
    taken_count _ c.pad_order.new.loads (omega (arith, w.few, c.pad_order.ensures.loads_len))

pub put_pads-requires : goal.put_pads-requires
put_pads-requires c =
    let w = shown_at (goal.at.put_pads-requires c).In-Ok in
    let loads-count = c.pad_order.ensures.loads_len in
    let a = taken_count c.in-Ok.field-0.pads c.pad_order.new.ranks (omega (arith, w.few, w.ranks_count)) in
    let b = taken_count c.in-Ok.field-0.pads c.pad_order.new.loads (omega (arith, w.few, loads-count)) in
    record { n_bound = (w.few, sym a, sym b, search rules); loads_value = lines_asks _ _ _ _ w loads-count }

pub returns-in-Ok : goal.returns-in-Ok
returns-in-Ok c =
    let is = (shown_at (goal.at.returns-in-Ok c).In-Ok).text in
    let p = prints _ _ _ _ _ is c.put_pads.ensures.value c.put_pads.ensures.out_after in
    record { prefix_len = p.0; value = p.1.0; out_after = p.1.1 }

pub returns-in-Err : goal.returns-in-Err
returns-in-Err c =
    let is = text_refused _ _ c.pad_order.ensures.result_value _ c.in-Err.is in
    let p = prints _ _ _ _ _ is c.put_refusal.ensures.value c.put_refusal.ensures.out_after in
    record { prefix_len = p.0; value = p.1.0; out_after = p.1.1 }
