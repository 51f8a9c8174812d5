-- The first line, then a line for each pad. Assumes nothing.
use mathlib.Core.Path.{◌≡◌}
use native.Mathlib.Omega.{arith}
use lib.ListN.{length, length-set}
use Rattle.panel_text.specs.Text.{written, pads_word, pads_text}
use Rattle.panel_text.proofs.Lines.{FirstLine, first_line_written, pads_written}
use Rattle.panel_text.proofs.put_pads.Goals.{After-slice_known-3-1, After-slice_known-4-1}
use Rattle.panel_text.proofs.put_pads.Goals as goal

first_at : (c : After-slice_known-3-1) → let g = c.args in
    FirstLine pads_word g.n g.out.now c.put_decimal-end.new.out c.put_decimal-end.result
first_at c =
    first_line_written pads_word _ _ _ _ _ _ (omega arith) c.put_word-at.ensures.out_after c.put_word-at.ensures.value c.put_decimal-end.ensures.out_after
    c.put_decimal-end.ensures.value

written_at : (c : After-slice_known-4-1) → let g = c.args in
    let t = pads_text g.n g.loads.now g.ranks.now in
    (c.put_lines.result ≡ length t) × (c.put_lines.new.out ≡ written 0 t g.out.now) × (length c.put_lines.new.out ≡ length g.out.now)
written_at c =
    let first_at : let g = c.args in FirstLine pads_word g.n g.out.now c.put_decimal-end.new.out c.put_decimal-end.result =
    first_line_written pads_word _ _ _ _ _ _ (omega arith) c.put_word-at.ensures.out_after c.put_word-at.ensures.value c.put_decimal-end.ensures.out_after
    c.put_decimal-end.ensures.value in
    pads_written _ _ _ _ _ _ _ _ first_at (omega (arith, c.requires.n_bound.0, c.requires.n_bound.1)) (omega (arith, c.requires.n_bound.3))
    c.put_lines.ensures.value c.put_lines.ensures.out_after

pub bounds-out-end : goal.bounds-out-end
bounds-out-end c = (first_at c).room

pub overflow_add-end : goal.overflow_add-end
overflow_add-end c = omega (arith, (first_at (goal.at.overflow_add-end c).After-slice_known-3-1).room)

pub put_lines-requires : goal.put_lines-requires
put_lines-requires c =
    let w = first_at (goal.at.put_lines-requires c).After-slice_known-3-1 in
    record { loads_len_bound = (omega arith, simp length-set (omega (arith, w.few, w.size))); loads_value = c.requires.loads_value }

pub shape_of-out : goal.shape_of-out
shape_of-out c = (written_at c).2

pub returns : goal.returns
returns c =
    let o = written_at c in
    record { value = o.0; out_after = o.1 }
