-- What the reasons say of some cases, the lines of document 01's table that give 7 among them, by computation. Assumes nothing.
use mathlib.Core.Path.{◌≡◌, refl}
use mathlib.Core.Bool.{true, false}
use mathlib.Core.List.{[], ◌∷◌}
use mathlib.Core.Option.{none, some, or_else}
use lib.IntN.{pos, negsuc}
use lib.Ieee.{fin}
use Rattle.numbers.specs.First.{first_failing, first_turn, first_some}
use Rattle.triangular_passes.specs.declared.Pass.TheVariants.{Upper}
use Rattle.triangular_passes.specs.Triangular.{solved_from}
use Rattle.solve.specs.Reason.{first_row, first_in_column, first_in_pass}
use Rattle.elimination.specs.Reason.{first_reason}
use Rattle.from_factors.specs.Reason.{solve_reason}
use Rattle.from_factors.proofs.Figures.{Computes, n0, n1, n2}

-- a name for all that has to unfold for a reason to compute
Explains : Type 0
unfolding Computes first_failing first_turn first_some or_else solved_from first_row first_in_column first_in_pass first_reason solve_reason
Explains = Unit {0}

-- 2 by 1: of (2^-1024, 0) the reciprocal is an infinity, and zero times it is stored in row 1; (2^-1023, 0) is accepted
pub small_pivot : (first_reason 2 ((fin false 1 (negsuc 1023) ∷ n0 ∷ []) ∷ []) ≡ some (record { step = 0; column = 0; row = 1 }))
    × (first_reason 2 ((fin false 1 (negsuc 1022) ∷ n0 ∷ []) ∷ []) ≡ none)
unfolding Explains
small_pivot = (refl, refl)

-- columns (1, 2, 0) and (1.5, -1.75, 0) times 2^1023: the sum of row 0 overflows, which stands in row 1 at that moment
pub rows_as_swapped : first_reason 3 ((n1 ∷ n2 ∷ n0 ∷ []) ∷ (fin false 3 (pos 1022) ∷ fin true 7 (pos 1021) ∷ n0 ∷ []) ∷ [])
    ≡ some (record { step = 0; column = 1; row = 1 })
unfolding Explains
rows_as_swapped = refl

-- 1 by 1 factor 2^-1000, reading 2^100: the upper pass
pub load_overflows : solve_reason 1 ((fin false 1 (negsuc 999) ∷ []) ∷ []) [] ((fin false 1 (pos 100) ∷ []) ∷ [])
    ≡ some (record { pass = Upper; column = 0; turn = 0; row = 0 })
unfolding Explains
load_overflows = refl

-- the upper pass stores in its own row first: row 1 is named, though the same turn spoils row 0 too
pub own_row_first : solve_reason 2 ((n1 ∷ n0 ∷ []) ∷ (n1 ∷ fin false 1 (negsuc 999) ∷ []) ∷ []) [] ((n1 ∷ n1 ∷ []) ∷ (n1 ∷ fin false 1 (pos 100) ∷ []) ∷ [])
    ≡ some (record { pass = Upper; column = 1; turn = 0; row = 1 })
unfolding Explains
own_row_first = refl
