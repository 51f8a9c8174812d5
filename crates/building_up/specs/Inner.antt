-- What the promise of the loop over the columns speaks of.
use Rattle.std.specs.Prelude.{◌≡◌, true, List, ℕ, Result}
use Rattle.numbers.specs.Column.{Column}
use Rattle.finite.specs.Finite.{all_finite}
use Rattle.store.specs.Columns.{columns, flat}
use Rattle.factors.specs.Factors.{store_of}
use Rattle.elimination.specs.Elimination.{eliminate}
use Rattle.elimination.specs.TossUps.{toss_ups}
use Rattle.refusals.specs.declared.Refusal.{Refusal}
use Rattle.lu.specs.declared.Factored.{Factored}
use Rattle.lu.specs.Factoring.{settled, factored, with_toss_ups}

-- what adding all columns of an m by n matrix leaves: factoring's answer, and where the factors are finite, they and the swaps
pub record AllAdded (a : Column) (m n : ℕ) (r : Result Factored Refusal) (s : Column) (store : List ℕ) : Type 0 where
  pub answer : factored r ≡ with_toss_ups (toss_ups m (columns m n a)) (settled m n (eliminate m (columns m n a))).answer
  pub held : let f = eliminate m (columns m n a) in all_finite (flat f.columns) ≡ true → (s ≡ flat f.columns) × (store ≡ store_of f.swaps)
