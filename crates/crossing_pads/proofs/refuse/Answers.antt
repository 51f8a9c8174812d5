-- By the test: +0.0 over the front, or all as it was. Assumes nothing.
use mathlib.Core.Path.{sym, ap, ◌∙◌}
use mathlib.Core.List.{◌++◌}
use borrow.Author.Rules.{rules}
use denote.Enum.Bare.{same_true, same_false}
use lib.ListN.{drop}
use Rattle.numbers.specs.Column.{Column}
use Rattle.refusals.specs.contracts.Refusal.{the_type}
use Rattle.refusals.specs.declared.Refusal.TheVariants.{Overflow}
use Rattle.refusals.proofs.Outcomes.{only_overflow}
use Rattle.crossing.specs.Factors.{settled_in}
use Rattle.crossing.proofs.Factors.{fronted_kept}
use Rattle.crossing_pads.proofs.refuse.Goals as goal

pub returns-then-overflown-clause-out_after : goal.returns-then-overflown-clause-out_after
unfolding settled_in
returns-then-overflown-clause-out_after c =
    rw (same_true the_type (search rules) c.args.refusal Overflow (sym c.eq-overflown.ensures ∙ c.if-overflown.true))
    (ap (λ (t : Column). t ++ drop c.args.n c.args.out.now) c.fill_zero.ensures)

pub returns-else-overflown-clause-out_after : goal.returns-else-overflown-clause-out_after
returns-else-overflown-clause-out_after c =
    fronted_kept c.args.n _ c.args.out.now
    (λ seven. same_false the_type c.args.refusal Overflow (sym c.eq-overflown.ensures ∙ c.if-overflown.false) (only_overflow _ seven))
