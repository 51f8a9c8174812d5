-- The line of document 01's table on the ranking, by computation. Assumes nothing.
use mathlib.Core.Path.{◌≡◌, refl}
use mathlib.Core.Bool.{true, false}
use mathlib.Core.List.{[], ◌∷◌}
use lib.IntN.{pos}
use lib.Ieee.{fin, neg, lt, eq, of_bits}
use Rattle.numbers.specs.Numbers.{magnitude, is_zero}
use Rattle.numbers.specs.Column.{Column}
use Rattle.finite.specs.Finite.{all_finite}
use Rattle.refusals.specs.Outcome.{done, first_holding, tested}
use Rattle.refusals.specs.Refusals.{outside}
use Rattle.ranking.specs.Ranking.{ahead, loaded, every_pad, insert_pad, ranked, pads_to, chosen, listing, ranking_refusal, ranking}

-- what has to unfold for a ranking to be computed
unfoldable pub Ranks : Type 0
unfolding neg lt eq of_bits magnitude is_zero all_finite first_holding tested outside ahead insert_pad ranked pads_to chosen listing ranking_refusal ranking
Ranks = Unit {0}

-- "loads 1, -3, 3: pads 2, 3, 1"; of either choice, since none is zero
abbrev loads : Column
loads = fin false 1 (pos 0) ∷ fin true 3 (pos 0) ∷ fin false 3 (pos 0) ∷ []

pub one_three_three : ranking (loaded loads) loads 3 (0 ∷ 0 ∷ 0 ∷ []) ≡ record { answer = done 3; left = 2 ∷ 3 ∷ 1 ∷ [] }
unfolding Ranks
one_three_three = refl

pub one_three_three_all : ranking every_pad loads 3 (0 ∷ 0 ∷ 0 ∷ []) ≡ record { answer = done 3; left = 2 ∷ 3 ∷ 1 ∷ [] }
unfolding Ranks
one_three_three_all = refl
