-- What the promises of the inner functions of removing speak of.
use Rattle.std.specs.Prelude.{◌≡◌, Bool, true, List, ℕ, ◌+◌, ◌-◌, ◌*◌, ◌≤◌, min, length, Result}
use Rattle.numbers.specs.Column.{Column}
use Rattle.store.specs.Columns.{columns, is_matrix}
use Rattle.dead_columns.specs.Dead.{dead_in}
use Rattle.swap_list.specs.SwapList.{pairs_of, good_list}
use Rattle.refusals.specs.declared.Refused.{Refused}
use Rattle.refusals.specs.Outcome.{outcome_or_old}
use Rattle.factors.specs.declared.Record.{Record}
use Rattle.factors.specs.Factors.{record_after}
use Rattle.removing.specs.Removing.{good_undoing, removing_refusal, removing, record_in}

-- the list is good and can have the last column taken off it; what is said of a list that is not good does not matter
pub record RemovableIf (store : List ℕ) (r : Record) (is : Bool) : Type 0 where
  pub good : good_list store r.pairs r.rows (min r.rows r.columns) ≡ true
      → is ≡ good_undoing r.rows (r.columns - 1) (pairs_of r.pairs store)

-- removing is not refused by its tests; so there is a column, its slot lies within the store, the pairs lie in the swap store,
-- the last one can be undone, and the record's dead columns are those of the factors
pub record Ready (s : Column) (store : List ℕ) (r : Record) : Type 0 where
  pub none : removing_refusal s store r ≡ 0
  pub some : 1 ≤ r.columns
  pub few : r.columns ≤ 64
  pub matrix : is_matrix s r.rows r.columns ≡ true
  pub within : (r.columns - 1) * r.rows + r.rows ≤ length s
  pub few_pairs : r.pairs ≤ 64
  pub room : length store ≡ 128
  pub undoing : good_undoing r.rows (r.columns - 1) (pairs_of r.pairs store) ≡ true
  pub dead : r.dead ≡ dead_in r.rows (columns r.rows r.columns s)

-- the whole promise of removing
pub record RemovedFrom (s : Column) (store : List ℕ) (r : Record) (a : Result Record (Refused Record)) (s' : Column) (store' : List ℕ) : Type 0 where
  pub answer : outcome_or_old a ≡ (removing s store r).answer
  pub told : record_in a ≡ record_after r (removing s store r).answer
  pub factors : s' ≡ (removing s store r).left.factors
  pub pairs : store' ≡ (removing s store r).left.store
