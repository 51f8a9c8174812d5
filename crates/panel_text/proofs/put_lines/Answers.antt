-- What is left at pad i are the lines from i on (`Lines`). Assumes nothing.
use native.Mathlib.Omega.{arith}
use Rattle.finite.proofs.Finite.{finite_entry}
use Rattle.panel_text.proofs.Lines.{lines_turn, lines_end}
use Rattle.panel_text.proofs.put_lines.Goals as goal

pub put_line-at-requires : goal.put_line-at-requires
put_line-at-requires c =
    let p = c.requires.loads_value.1 c.loop-pad.pad-index c.loop-pad-test.true in
    (omega arith, omega (arith, c.loop-pad.invariant.room, c.loop-pad.invariant.size), finite_entry _ _ c.requires.loads_value.0 (omega arith))

pub loop-pad-preserved : goal.loop-pad-preserved
loop-pad-preserved c =
    lines_turn _ _ _ _ c.loop-pad.out c.loop-pad.at c.loop-pad.pad-index c.loop-pad.invariant c.loop-pad-test.true _ _
    c.put_line-at.ensures.out_after c.put_line-at.ensures.value

pub returns : goal.returns
returns c =
    let whole = lines_end _ _ _ _ _ _ _ c.loop-pad.invariant c.loop-pad-test.false in record { value = whole.0; out_after = whole.1 }
