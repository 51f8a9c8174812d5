-- The digits of `io::decimal`, written as a word (`spelled`). Assumes nothing.
use mathlib.Core.Path.{◌≡◌, ap, ◌∙◌}
use mathlib.Core.List.{List}
use Prim.Native.Nat.{ℕ, ◌+◌}
use native.Mathlib.Omega.{arith}
use lib.ListN.{length, take}
use Rattle.panel_text.specs.Text.{written, whole}
use Rattle.panel_text.proofs.Whole.{whole_few, spelled}
use Rattle.panel_text.proofs.put_whole.Goals.{After-put_word-arg-1}
use Rattle.panel_text.proofs.put_whole.Goals as goal

-- the word is the number in decimal
word : (c : After-put_word-arg-1) → take c.decimal-k.result c.decimal-k.new.out ≡ whole c.args.n
word c = spelled c.args.n _ _ c.requires.0 c.decimal-k.ensures.len c.decimal-k.ensures.digits

pub put_word-requires : goal.put_word-requires
put_word-requires c =
    let n = c.args.n in
    omega (arith, ap length (word (goal.at.put_word-requires c).After-put_word-arg-1), whole_few n)

pub returns : goal.returns
returns c =
    let w = word (goal.at.returns c).After-put_word-arg-1 in
    let g = c.args in
    record {
      value = c.put_word.ensures.value ∙ ap (λ (t : List ℕ). g.at + length t) w;
      out_after = c.put_word.ensures.out_after ∙ ap (λ (t : List ℕ). written g.at t g.out.now) w;
    }
