-- What `position` answers is the place of the first number that is not finite, and the length where there is none. Assumes nothing.
use mathlib.Core.Path.{◌≡◌, refl, ap, ◌∙◌}
use mathlib.Core.Bool.{not}
use native.Mathlib.Omega.{arith}
use lib.ListN.{length}
use lib.Ieee.Scale.{finite}
use Rattle.std.proofs.Common.{rules, tests, unwrap_or}
use Rattle.std.specs.List.{position_or_len, position}
use Rattle.std.proofs.lemmas.Grind.{common_steps}
use Rattle.std.proofs.lemmas.Bool.Decides.{nat_tests}
use Rattle.std.proofs.lemmas.Iterator.{YieldsList-from_slice}
use Rattle.std.proofs.lemmas.Iterator.Search.{position_from_yields_List}
use Rattle.std.proofs.lemmas.List.Sums.{prefix_len-le-length}
use Rattle.std.proofs.lemmas.List.Recursion.{is_position_or_len}
use Rattle.numbers.specs.First.{first_failing}
use Rattle.numbers.specs.Column.{Column}
use Rattle.why.proofs.first_not_finite.Goals as goal

-- `position`'s place is the specification's
same_place : (s : Column) → first_failing finite s ≡ position_or_len (λ x. not (finite x)) s
unfolding first_failing
same_place = is_position_or_len (first_failing finite) (λ x. not (finite x)) refl (λ x xs. grind (arith, nat_tests))

place : (s : Column) → unwrap_or (position (λ x. not (finite x)) s) (length s) ≡ first_failing finite s
place s = let e = same_place s in let few = prefix_len-le-length (λ x. not (not (finite x))) s in grind (arith, nat_tests, common_steps)

pub returns : goal.returns
returns c =
    c.unwrap_or.ensures
    ∙ ap (λ o. unwrap_or o (length c.args.s.now))
    (position_from_yields_List (λ x. not (finite x)) _ _ c.position.result c.position.ensures.ran (YieldsList-from_slice c.args.s.now cc)
    (λ x b q k. search (rules, tests)))
    ∙ place c.args.s.now
