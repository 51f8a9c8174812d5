-- Column by column. Assumes nothing.
use mathlib.Core.List.{[], ◌∷◌}
use Rattle.numbers.specs.Each.{each_from}
use Rattle.store.specs.Steps.{swap_in_all}
use Rattle.four_by_four.proofs.swapped.Goals as goal

pub returns : goal.returns
unfolding swap_in_all each_from
returns c =
    ((λ t. c.exchanged.ensures t ∷ c.exchanged-2.ensures t ∷ c.exchanged-3.ensures t ∷ c.exchanged-4.ensures t ∷ []), c.exchanged-5.ensures)
