-- Document 01, "Refusal numbers", for the triangular solves: what each call answers and leaves, on every input.
use Rattle.std.specs.Prelude.{Bool, true, not, ◌&&◌, ◌||◌, [], ◌∷◌, ℕ, eqb}
use Rattle.std.specs.Float.Ieee.Scale.{finite}
use Rattle.numbers.specs.Numbers.{is_zero}
use Rattle.numbers.specs.Column.{Column}
use Rattle.finite.specs.Finite.{all_finite}
use Rattle.store.specs.Columns.{is_matrix}
use Rattle.dead_columns.specs.Dead.{dead_of}
use Rattle.refusals.specs.Outcome.{first_holding, tested, Call, leaving}
use Rattle.refusals.specs.Refusals.{outside, seventh}
use Rattle.triangular_passes.specs.declared.Pass.{Pass}
use Rattle.triangular_passes.specs.Triangular.{given, solved_in_place}

-- ---- the tests

-- refusal 1: the size of the matrix, or the number of right-hand columns, outside 1 to 64
unfoldable pub sizes_outside : ℕ → ℕ → Bool
sizes_outside n k = outside 1 n || outside 1 k

-- refusal 3: the n by n matrix t, the k right-hand columns b and the result's slice x have exactly their lengths
unfoldable pub lengths_fit : Column → ℕ → Column → ℕ → Column → Bool
lengths_fit t n b k x = is_matrix t n n && is_matrix b n k && is_matrix x n k

-- refusal 5: every number of the matrix and of the right-hand sides is finite, used or not, and the given diagonal, where there is one
abbrev pub given_finite : Pass → Bool
given_finite pass = given pass finite true

unfoldable pub numbers_finite : Pass → Column → Column → Bool
numbers_finite pass t b = all_finite t && all_finite b && given_finite pass

-- refusal 6: a zero of either sign on the diagonal of the n by n matrix that t holds, that is, a dead column
unfoldable pub zero_on_diagonal : Column → ℕ → Bool
zero_on_diagonal t n = not (eqb (dead_of t n n) 0)

-- "where a diagonal is given, that one alone counts"
abbrev pub zero_divisor : Pass → Column → ℕ → Bool
zero_divisor pass t n = given pass is_zero (zero_on_diagonal t n)

-- ---- the call

-- the refusal before the work, 0 for none
unfoldable pub refusal_of : Pass → Column → ℕ → Column → ℕ → Column → ℕ
refusal_of pass t n b k x =
    first_holding
    ((1, sizes_outside n k)
    ∷ (3, not (lengths_fit t n b k x))
    ∷ (5, not (numbers_finite pass t b))
    ∷ (6, zero_divisor pass t n)
    ∷ [])

-- What a call comes to, and what the result's slice, which held x, then holds: x where the tests refuse; else the solved columns, or +0.0
-- throughout where some number of them is not finite.
unfoldable pub solving : Pass → Column → ℕ → Column → ℕ → Column → Call (Unit {0}) Column
solving pass t n b k x = tested (refusal_of pass t n b k x) (leaving x) (seventh (solved_in_place pass t n b k))
