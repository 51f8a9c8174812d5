-- What the promises of adding's inner functions speak of: what they know past the tests, and what each leaves.
use Rattle.std.specs.Prelude.{◌≡◌, true, List, [], ◌∷◌, ◌++◌, ℕ, ◌+◌, ◌*◌, ◌≤◌, min, length, Result}
use Rattle.numbers.specs.Column.{Column}
use Rattle.store.specs.Columns.{columns, is_matrix, on_columns}
use Rattle.store.specs.Steps.{Matrix, rows_swapped}
use Rattle.dead_columns.specs.Dead.{dead_in}
use Rattle.swap_list.specs.SwapList.{good_list}
use Rattle.factors.specs.declared.Record.{Record}
use Rattle.factors.specs.Factors.{pairs_with, store_with, record_of, factors_in, record_after}
use Rattle.elimination.specs.Adding.{reduced}
use Rattle.refusals.specs.declared.Refused.{Refused}
use Rattle.lu.specs.declared.Factored.{Factored}
use Rattle.adding.specs.Adding.{adding_refusal, adding, added, record_in, adding_answer}

-- the call is not refused by its tests; so there is room for the column, which has m entries, its slot lies within the store, the list is good, and the
-- record's dead columns are those of the factors
pub record Ready (s c : Column) (store : List ℕ) (r : Record) : Type 0 where
  pub none : adding_refusal s c store r ≡ 0
  pub few_rows : r.rows ≤ 64
  pub few : r.columns ≤ 63
  pub room : is_matrix s r.rows (r.columns + 1) ≡ true
  pub within : r.columns * r.rows + r.rows ≤ length s
  pub long : length c ≡ r.rows
  pub store_room : length store ≡ 128
  pub list : good_list store r.pairs r.rows (min r.rows r.columns) ≡ true
  pub dead : r.dead ≡ dead_in r.rows (columns r.rows r.columns s)
  pub few_dead : r.dead ≤ 64

-- the older columns, and the reduced column behind them
unfoldable pub with_reduced : Column → ℕ → ℕ → Column → List ℕ → ℕ → Matrix
with_reduced s m n c store pairs = columns m n s ++ reduced m (factors_in s m n store pairs) c ∷ []

-- rows n and p exchanged in the older columns, n being their number, and the swap recorded; `dead` columns are dead then
pub record Joined (s : Column) (store : List ℕ) (r : Record) (p dead : ℕ) (new : Record) (s' : Column) (store' : List ℕ) : Type 0 where
  pub told : new ≡ record_of r.rows (r.columns + 1) (pairs_with store r.pairs r.columns p) dead
  pub rows : s' ≡ on_columns r.rows (r.columns + 1) (rows_swapped r.columns p 0 r.columns) s
  pub pairs : store' ≡ store_with store r.pairs r.columns p

-- the whole promise of adding
pub record AddedTo (s c : Column) (store : List ℕ) (r : Record) (a : Result Factored (Refused Record)) (s' : Column) (store' : List ℕ) : Type 0 where
  pub answer : added a ≡ adding_answer s c store r
  pub told : record_in a ≡ record_after r (adding s c store r).answer
  pub factors : s' ≡ (adding s c store r).left.factors
  pub pairs : store' ≡ (adding s c store r).left.store
