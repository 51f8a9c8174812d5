-- The word, the number, the newline. Assumes nothing.
use native.Mathlib.Omega.{arith}
use lib.ListN.{length-set}
use Rattle.refusals.specs.Outcome.{number}
use Rattle.panel_text.specs.Text.{refused_word}
use Rattle.panel_text.proofs.Lines.{FirstLine, first_line_written, refusal_written}
use Rattle.panel_text.proofs.put_refusal.Goals.{After-slice_known-3-1}
use Rattle.panel_text.proofs.put_refusal.Goals as goal

first_at : (c : After-slice_known-3-1) → let g = c.args in
    FirstLine refused_word (number g.refusal) g.out.now c.put_decimal-end.new.out c.put_decimal-end.result
first_at c =
    rw (← c.from.ensures)
    (first_line_written refused_word _ _ _ _ _ _ (omega arith) c.put_word-at.ensures.out_after c.put_word-at.ensures.value c.put_decimal-end.ensures.out_after
    c.put_decimal-end.ensures.value)

pub bounds-out-end : goal.bounds-out-end
bounds-out-end c = (first_at c).room

pub overflow_add-result : goal.overflow_add-result
overflow_add-result c = omega (arith, (first_at c).room)

pub shape_of-out : goal.shape_of-out
shape_of-out c = simp length-set (first_at c).size

pub returns : goal.returns
returns c = let whole = refusal_written _ _ _ _ (first_at c) in record { value = whole.0; out_after = whole.1 }
