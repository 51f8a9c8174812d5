-- The word, then the number. Assumes nothing.
use Prim.Native.Nat.{◌+◌}
use native.Mathlib.Omega.{arith}
use Rattle.panel_text.specs.Text.{decimal}
use Rattle.panel_text.specs.Why.{place_text}
use Rattle.panel_text.proofs.Writing.{length_decimal}
use Rattle.panel_text.proofs.Pieces.{put_first, put_next}
use Rattle.panel_text.proofs.put_place.Goals as goal

pub returns : goal.returns
unfolding place_text
returns c =
    let g = c.args in
    let few = (length_decimal (g.place + 1)).1 in
    let word = put_first g.at g.out.now g.word.now _ _ (omega arith) c.put_word-end.ensures.out_after c.put_word-end.ensures.value in
    let both = put_next g.at g.out.now g.word.now _ _ word (decimal (g.place + 1)) _ _ (omega arith) c.put_decimal.ensures.out_after
    c.put_decimal.ensures.value in
    record { value = both.count; out_after = both.is }
