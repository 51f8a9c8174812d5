-- Both heads, then the rows below them by fours, by two and by one, are the four steps on both (`two_made`). Assumes nothing.
use mathlib.Core.Path.{◌∙◌}
use Prim.Native.Nat.{◌<◌}
use native.Mathlib.Omega.{arith}
use Rattle.store.proofs.Columns.{sized, same_matrix}
use Rattle.four_steps.proofs.Places.{reaches}
use Rattle.four_steps.proofs.Within.{two_made}
use Rattle.four_steps.proofs.steps_on_two.Goals as goal

pub head-requires : goal.head-requires
head-requires c =
    let h = c.requires in
    let here : c.args.j < c.args.n = omega arith in
    record { n_value = (h.0, h.1, h.2, here); reaches = reaches _ _ _ _ _ h.0 h.2 here }

pub head-requires-2 : goal.head-requires-2
head-requires-2 c =
    let h = c.requires in
    let fits = same_matrix _ _ _ _ c.head.auto.s ∙ h.0 in
    record { n_value = (fits, h.1, omega arith, h.3); reaches = reaches _ _ _ _ _ fits (omega arith) h.3 }

pub two_by_four-after_fours-requires : goal.two_by_four-after_fours-requires
two_by_four-after_fours-requires c = let h = c.requires in (same_matrix _ _ _ _ (c.head-2.auto.s ∙ c.head.auto.s) ∙ h.0, h.1, h.2, h.3)

pub two_by_two-after_two-requires : goal.two_by_two-after_two-requires
two_by_two-after_two-requires c =
    let h = c.requires in (
      same_matrix _ _ _ _ (c.two_by_four-after_fours.auto.s ∙ c.head-2.auto.s ∙ c.head.auto.s)
          ∙ h.0,
      h.1,
      h.2,
      h.3,
      c.two_by_four-after_fours.ensures.lower_bound.0,
      c.two_by_four-after_fours.ensures.lower_bound.1,
      c.two_by_four-after_fours.ensures.lower_bound.2,
    )

pub two_by_one-requires : goal.two_by_one-requires
two_by_one-requires c =
    let h = c.requires in (
      same_matrix _ _ _ _ (c.two_by_two-after_two.auto.s ∙ c.two_by_four-after_fours.auto.s ∙ c.head-2.auto.s ∙ c.head.auto.s)
          ∙ h.0,
      h.1,
      h.2,
      h.3,
      c.two_by_two-after_two.ensures.lower_bound.0,
      c.two_by_two-after_two.ensures.lower_bound.2,
    )

pub returns : goal.returns
returns c =
    let h = c.requires in
    two_made _ _ _ _ _ (sized _ _ _ h.0).size h.1 h.2 _ _ _ _ _ _ _ h.3 c.head.ensures c.head-2.ensures
    c.two_by_four-after_fours.ensures.s_after c.two_by_two-after_two.ensures.s_after c.two_by_one.ensures
