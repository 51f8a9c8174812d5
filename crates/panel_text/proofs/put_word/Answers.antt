-- The word takes the place of as many bytes. Assumes nothing.
use borrow.Author.Rules.{rules}
use Rattle.std.proofs.lemmas.Slice.{overwrites}
use Rattle.panel_text.specs.Text.{written}
use Rattle.panel_text.proofs.put_word.Goals as goal

pub returns-clause-out_after : goal.returns-clause-out_after
unfolding written
returns-clause-out_after c = search (rules, overwrites)
