-- The writer's answer on the numbers that were read, or the refusal of a line. Assumes nothing.
use mathlib.Core.Path.{sym, ◌∙◌}
use mathlib.Core.Bool.{true≢false}
use Rattle.panel_write.proofs.Written.{lines_whole, lines_refused}
use Rattle.panel_write.proofs.write_filled.Goals as goal

pub returns-then-fill-2 : goal.returns-then-fill-2
returns-then-fill-2 c =
    let p = c.requires in
    let f = c.fill.ensures.are_lines c.if-fill.true in
    let g = c.fill-then-fill.ensures.are_lines c.if-fill-2.true in
    lines_whole _ _ _ _ _ p.1 p.2 p.3 _ _ _ f.0 f.1 g.0 g.1 c.write.ensures

pub returns-else-fill-2 : goal.returns-else-fill-2
returns-else-fill-2 c =
    let p = c.requires in
    lines_refused _ _ _ _ _ p.1 p.2 p.3 (λ _ b. true≢false (sym (c.fill-then-fill.ensures.value b) ∙ c.if-fill-2.false))

pub returns-else-fill : goal.returns-else-fill
returns-else-fill c =
    let p = c.requires in
    lines_refused _ _ _ _ _ p.1 p.2 p.3 (λ a _. true≢false (sym (c.fill.ensures.value a) ∙ c.if-fill.false))
