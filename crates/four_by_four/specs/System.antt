-- Four entries as a column, four columns as a matrix, and what all steps of its elimination leave.
use Rattle.std.specs.Prelude.{◌≡◌, [], ◌∷◌, ℕ}
use Rattle.numbers.specs.Column.{Column}
use Rattle.store.specs.Steps.{Matrix}
use Rattle.swap_list.specs.SwapList.{Swaps}
use Rattle.exchanges.specs.Permute.{permute}
use Rattle.factors.specs.Factors.{record_swap}
use Rattle.elimination.specs.Elimination.{eliminate}
use Rattle.four_by_four.specs.declared.Rows.{Rows}
use Rattle.four_by_four.specs.declared.System.{System}
use Rattle.four_by_four.specs.declared.Reduced.{Reduced}

abbrev pub listed : Rows → Column
listed c = c.0 ∷ c.1 ∷ c.2 ∷ c.3 ∷ []

abbrev pub matrix_of : System → Matrix
matrix_of s = listed s.c0 ∷ listed s.c1 ∷ listed s.c2 ∷ listed s.c3 ∷ []

-- the swaps of three steps, p, q and r being the rows that they swapped with their own
abbrev pub recorded_by : ℕ → ℕ → ℕ → Swaps
recorded_by p q r = record_swap 2 r (record_swap 1 q (record_swap 0 p []))

-- the elimination; the readings are permuted by its swaps
pub record Eliminated (s : System) (r : Reduced) : Type 0 where
  pub columns : matrix_of r.system ≡ (eliminate 4 (matrix_of s)).columns
  pub swaps : recorded_by r.p r.q r.r ≡ (eliminate 4 (matrix_of s)).swaps
  pub readings : listed r.system.x ≡ permute (eliminate 4 (matrix_of s)).swaps (listed s.x)
