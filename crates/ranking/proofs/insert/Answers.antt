-- What is left to do at place j gives the whole (`Pushing`). Assumes nothing.
use mathlib.Core.Path.{sym, ◌∙◌}
use Rattle.ranking.proofs.Inserting.{turn_moves, turn_stays, turns_end}
use Rattle.ranking.proofs.insert.Goals.{then-is_ahead, else-is_ahead}
use Rattle.ranking.proofs.insert.Goals as goal

pub loop-j-preserved : goal.loop-j-preserved
loop-j-preserved c =
    elim c.if-is_ahead.branch [
      | then-is_ahead w ↦ rw (w.ranks-is, w.carried-is) (turn_moves _ _ _ _ c.loop-j.ranks c.loop-j.carried c.loop-j.j c.loop-j.invariant c.requires.pad.1
          c.loop-j-test.true (sym c.is_ahead.ensures ∙ w.if-is_ahead.true))
      | else-is_ahead w ↦ rw (w.ranks-is, w.carried-is) (turn_stays _ _ _ _ c.loop-j.ranks c.loop-j.carried c.loop-j.j c.loop-j.invariant c.requires.pad.1
          c.loop-j-test.true (sym c.is_ahead.ensures ∙ w.if-is_ahead.false))
    ]

pub returns : goal.returns
returns c = turns_end _ _ _ _ _ _ _ c.loop-j.invariant c.requires.pad.1 c.loop-j-test.false
