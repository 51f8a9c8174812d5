-- Every marked line of document 01's table holds, and the corrected one, by computation. Assumes nothing.
use mathlib.Core.Path.{◌≡◌, refl}
use mathlib.Core.List.{map}
use Rattle.ranking.proofs.Figures.{Ranks}
use Rattle.figures.specs.Table.{Shown, marked}
use Rattle.figures.proofs.WrongAnswers.{Triangles}

-- THEOREM. Every line holds.
pub every_line : map (λ (l : Shown × Shown). l.0) marked ≡ map (λ (l : Shown × Shown). l.1) marked
unfolding Triangles Ranks
every_line = refl
