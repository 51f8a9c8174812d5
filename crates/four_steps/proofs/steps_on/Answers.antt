-- The head, then the rows below it, are the four steps (`one_made`). Assumes nothing.
use mathlib.Core.Path.{◌∙◌}
use Rattle.store.proofs.Columns.{sized, same_matrix}
use Rattle.four_steps.proofs.Places.{reaches}
use Rattle.four_steps.proofs.Within.{one_made}
use Rattle.four_steps.proofs.steps_on.Goals as goal

pub head-requires : goal.head-requires
head-requires c =
    let h = c.requires in
    record { n_value = h; reaches = reaches _ _ _ _ _ h.0 h.2 h.3 }

pub tail-requires : goal.tail-requires
tail-requires c = let h = c.requires in (same_matrix _ _ _ _ c.head.auto.s ∙ h.0, h.1, h.2, h.3)

pub returns : goal.returns
returns c =
    let h = c.requires in
    one_made _ _ _ _ _ (sized _ _ _ h.0).size h.1 h.2 _ _ h.3 c.head.ensures c.tail.ensures
