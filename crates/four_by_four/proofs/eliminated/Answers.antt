-- Column by column. Assumes nothing.
use mathlib.Core.Path.{refl}
use mathlib.Core.List.{[], ◌∷◌}
use Rattle.four_by_four.proofs.eliminated.Goals as goal

pub returns : goal.returns
returns c = ((λ t. c.stepped.ensures t ∷ c.stepped-2.ensures t ∷ c.stepped-3.ensures t ∷ c.stepped-4.ensures t ∷ []), refl)
