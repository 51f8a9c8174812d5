-- What is left at reading i are the lines from i on (`Lines`). Assumes nothing.
use Prim.Native.Nat.{suc}
use mathlib.Core.Path.{refl, ◌∙◌}
use native.Mathlib.Nat.{zero-add}
use native.Mathlib.Omega.{arith}
use lib.ListN.{length}
use Rattle.numbers.proofs.Each.{length_list}
use Rattle.finite.proofs.Finite.{finite_entry}
use Rattle.panel_text.proofs.Lines.{lines_end, moves_turn}
use Rattle.panel_text.proofs.put_moves.Goals as goal

pub loop-i-init : goal.loop-i-init
loop-i-init c =
    record { size = refl; place = omega arith; room = omega (arith, length_list (length c.args.moves.now) suc); end = refl; left = refl }

pub put_line-at-requires : goal.put_line-at-requires
put_line-at-requires c = (
  omega arith,
  omega (arith, c.loop-i.invariant.room, c.loop-i.invariant.size, length_list (length c.args.moves.now) suc),
  finite_entry _ _ c.requires.2 c.loop-i-test.true,
)

pub loop-i-preserved : goal.loop-i-preserved
loop-i-preserved c =
    moves_turn _ _ c.loop-i.out c.loop-i.at c.loop-i.i c.loop-i.invariant c.loop-i-test.true _ _
    c.put_line-at.ensures.out_after c.put_line-at.ensures.value

pub returns : goal.returns
returns c =
    let o = lines_end _ _ _ _ _ _ _ c.loop-i.invariant (rw (length_list _ suc) c.loop-i-test.false) in
    record { value = o.0 ∙ zero-add _; out_after = o.1 }
