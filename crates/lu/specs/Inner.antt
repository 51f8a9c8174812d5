-- How the factors on paper lie in the slices of the code: the inner functions' promises speak of this.
use Rattle.std.specs.Prelude.{◌≡◌, List, ℕ, ◌+◌, ◌-◌, ◌*◌, ◌≤◌, length, Result}
use Rattle.numbers.specs.Each.{turns_from}
use Rattle.numbers.specs.Column.{Column}
use Rattle.store.specs.Columns.{columns}
use Rattle.lu.specs.declared.Counts.{Counts}
use Rattle.factors.specs.Factors.{Factors, store_of}
use Rattle.elimination.specs.Elimination.{step, eliminate}
use Rattle.elimination.specs.TossUps.{toss_from, toss_ups}
use Rattle.refusals.specs.declared.Refusal.{Refusal}
use Rattle.lu.specs.declared.Factored.{Factored}
use Rattle.lu.specs.Factoring.{settled, factored, with_toss_ups}

-- the slice s holds the columns of f, an m by n matrix, and the store with its number of pairs holds the swaps
pub record Held (s : Column) (m n : ℕ) (store : List ℕ) (pairs : ℕ) (f : Factors) : Type 0 where
  pub size : length s ≡ n * m
  pub is_columns : columns m n s ≡ f.columns
  pub is_store : store ≡ store_of f.swaps
  pub is_pairs : pairs ≡ length f.swaps

-- what the steps from `from` up to but not `to` leave of slices s and store, and of what was counted before them: whatever factors were held, the steps on them
-- are held, and their toss-ups are counted
pub record Stepped (s : Column) (m n from to : ℕ) (store : List ℕ) (counts : Counts) (r : Counts) (s' : Column) (store' : List ℕ) : Type 0 where
  pub steps : (f : Factors) → Held s m n store counts.pairs f → Held s' m n store' r.pairs (turns_from step from (to - from) f)
  pub toss : (f : Factors) → Held s m n store counts.pairs f → r.tossed ≡ counts.tossed + toss_from from (to - from) f
  pub few : (r.pairs ≤ to) × (r.tossed ≤ to) × (counts.pairs ≤ r.pairs)

-- the settled elimination of the m by n matrix that the slice s held: the answer, and what the two slices then hold
pub record Settled (s : Column) (m n : ℕ) (r : Result Factored Refusal) (s' : Column) (store' : List ℕ) : Type 0 where
  pub answer : factored r ≡ with_toss_ups (toss_ups m (columns m n s)) (settled m n (eliminate m (columns m n s))).answer
  pub factors : s' ≡ (settled m n (eliminate m (columns m n s))).left.factors
  pub store : store' ≡ (settled m n (eliminate m (columns m n s))).left.store
