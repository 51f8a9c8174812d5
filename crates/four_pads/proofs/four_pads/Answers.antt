-- The columns by name, then the rest. Assumes nothing.
use mathlib.Core.Path.{ap₂, ◌∙◌}
use mathlib.Core.List.{[], ◌∷◌}
use Rattle.numbers.specs.Each.{list_of}
use Rattle.numbers.specs.Column.{Column}
use Rattle.store.specs.Columns.{flat}
use Rattle.store.specs.Steps.{Matrix}
use Rattle.four_by_four.proofs.Cases.{named}
use Rattle.four_pads.specs.Profile.{four_of}
use Rattle.four_pads.proofs.four_pads.Goals as goal

pub returns : goal.returns
unfolding list_of
returns c =
    c.solved.ensures
    ∙ ap₂ (λ (m : Matrix) (b : Column). four_of (flat m) b)
    ((λ i. c.entries.ensures i ∷ c.entries-2.ensures i ∷ c.entries-3.ensures i ∷ c.entries-4.ensures i ∷ [])
    ∙ named [] 4 c.args.matrix c.well_formed.0.1.0.1)
    c.entries-5.ensures
