-- The search, entry by entry. Assumes nothing.
use mathlib.Core.Path.{ap, ◌∙◌}
use lib.Ieee.{Float}
use Rattle.numbers.specs.Numbers.{magnitude}
use Rattle.four_by_four.specs.declared.Found.{Found}
use Rattle.four_by_four.specs.Inner.{next_of}
use Rattle.four_by_four.proofs.Steps.{search_is}
use Rattle.four_by_four.proofs.pivot.Goals as goal

pub returns : goal.returns
returns c =
    let r = c.args.c in
    let i = c.args.i in
    let begin : Float → Found = λ t. record { top = t; row = i } in
    let e0 = ap begin (c.magnitude-top.ensures ∙ ap magnitude c.entry.ensures) in
    let e1 = c.next-f1.ensures ∙ ap (λ (f : Found). next_of f i 1 r.1) e0 in
    let e2 = c.next-f2.ensures ∙ ap (λ (f : Found). next_of f i 2 r.2) e1 in
    let e3 = c.next-f3.ensures ∙ ap (λ (f : Found). next_of f i 3 r.3) e2 in
    ap (λ (f : Found). f.row) e3 ∙ search_is r i c.requires
