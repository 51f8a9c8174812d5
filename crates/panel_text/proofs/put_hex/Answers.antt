-- What is left at digit k are the first k digits of the rest of the bits (`Spelling`). Assumes nothing.
use native.Mathlib.Omega.{arith}
use Rattle.panel_text.proofs.Writing.{spell_turn, spell_end}
use Rattle.panel_text.proofs.put_hex.Goals as goal

pub loop-k-preserved : goal.loop-k-preserved
loop-k-preserved c = spell_turn _ _ _ c.loop-k.out c.loop-k.rest c.loop-k.k _ _ c.loop-k.invariant (omega arith) c.requires c.glyph.ensures

pub returns : goal.returns
returns c = spell_end _ _ _ _ _ _ c.loop-k.invariant (omega arith)
