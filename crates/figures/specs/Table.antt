-- Document 01's table, "Figures to meet": every marked line under the paper's own words, and beside the given diagonal's the corrected one. A line is a call's
-- own outcome and what the document gives for it. Each lent slice holds ones before the call, so that +0.0 and "leaves all as it was" are seen.
use Rattle.std.specs.Prelude.{Bool, true, false, List, [], ◌∷◌, ◌++◌, ℕ, ◌+◌, ◌-◌, ◌*◌, ◌^◌, length, replicate, pos, negsuc, Float}
use Rattle.std.specs.Float.{fin}
use Rattle.numbers.specs.Column.{Column, zeros}
use Rattle.refusals.specs.Outcome.{Outcome, done, Call, leaving}
use Rattle.swap_list.specs.SwapList.{Swaps}
use Rattle.triangular_passes.specs.declared.Pass.{Pass}
use Rattle.triangular_passes.specs.declared.Pass.TheVariants.{GivenDiagonal, TransposedLower, CorrectedDiagonal}
use Rattle.solve.specs.Calls.{solving as solvingTriangle}
use Rattle.factors.specs.Factors.{store_of, record_of, slices, Factoring}
use Rattle.adding.specs.Adding.{adding}
use Rattle.ranking.specs.Ranking.{loaded, ranking}
use Rattle.from_factors.specs.Solving.{solving}
use Rattle.from_factors.specs.Determinant.{determining, inverse_test}
use Rattle.from_factors.proofs.Figures.{ones, fresh, told_in, leaves, n0, n1, n2, n4, n5, n8}

-- what a call gives: factors, a slice of numbers, the determinant, the truth, the listed pads
pub data Shown : Type 0 where
  factors : Factoring → Shown
  numbers : Call (Unit {0}) Column → Shown
  determinant : Outcome Float → Shown
  invertible : Outcome Bool → Shown
  ranks : Call ℕ (List ℕ) → Shown

-- ---- numbers, each written in its one way: an odd number times a power of two

-- 2 to the power k, and to the power -k
abbrev two_to : ℕ → Float
two_to k = fin false 1 (pos k)

abbrev two_to_minus : ℕ → Float
two_to_minus k = fin false 1 (negsuc (k - 1))

abbrev -n0 : Float
-n0 = fin true 0 (pos 0)

abbrev -n1 : Float
-n1 = fin true 1 (pos 0)

abbrev -n2 : Float
-n2 = fin true 1 (pos 1)

abbrev n3 : Float
n3 = fin false 3 (pos 0)

abbrev -n3 : Float
-n3 = fin true 3 (pos 0)

abbrev n6 : Float
n6 = fin false 3 (pos 1)

-- 1.75 · 2^1023, which is 7 · 2^1021; and 1 + 2^-51
abbrev huge : Float
huge = fin false 7 (pos 1021)

abbrev one_and_a_little : Float
one_and_a_little = fin false (2 ^ 51 + 1) (negsuc 50)

-- ---- the calls on a fresh factoring of an n by n matrix, with one right-hand column

abbrev solved_for : ℕ → Column → Column → Shown
solved_for n a b = let o = fresh n n a in numbers (solving o.left.factors o.left.store (told_in n n o) b 1 (ones n))

abbrev determinant_for : ℕ → Column → Shown
determinant_for n a = let o = fresh n n a in determinant (determining o.left.factors o.left.store (told_in n n o))

abbrev invertible_for : ℕ → Column → Shown
invertible_for n a = let o = fresh n n a in invertible (inverse_test o.left.factors o.left.store (told_in n n o))

-- m by 1 numbers factored, and one more column added
abbrev added_to : ℕ → Column → Column → Shown
added_to m a c = let o = fresh m 1 a in factors (adding (o.left.factors ++ ones m) c o.left.store (told_in m 1 o))

-- a triangular solve of two rows and one right-hand column
abbrev solved_by : Pass → Column → Column → Shown
solved_by pass t b = numbers (solvingTriangle pass t 2 b 1 (ones 2))

-- the pads of these loads, in slots of ones
abbrev ranked : Column → Shown
ranked loads = let n = length loads in ranks (ranking (loaded loads) loads n (replicate n 1))

-- ---- what the document gives: packed factors with their swaps, of which so many columns are dead (document 02, request 7), or 7 with +0.0 and a swap store
-- of zeros

abbrev packed_with : ℕ → ℕ → ℕ → Column → Swaps → Shown
packed_with dead m n a swaps = factors (record { answer = done (record_of m n (length swaps) dead); left = slices a (store_of swaps) })

abbrev packed : ℕ → ℕ → Column → Swaps → Shown
packed = packed_with 0

abbrev overflow : ℕ → ℕ → Shown
overflow m n = factors (leaving (slices (zeros (n * m)) (store_of [])) 7)

-- ---- the marked lines, in the document's order
abbrev pub marked : List (Shown × Shown)
marked =
    -- "columns (0,2),(1,0)": "packed 2,0,0,1; swap (0,1); determinant -2"
    (factors (fresh 2 2 (n0 ∷ n2 ∷ n1 ∷ n0 ∷ [])), packed 2 2 (n2 ∷ n0 ∷ n0 ∷ n1 ∷ []) ((0, 1) ∷ []))
    ∷ (determinant_for 2 (n0 ∷ n2 ∷ n1 ∷ n0 ∷ []), determinant (done -n2))
    -- "that, readings (5,8)": "4, 5"
    ∷ (solved_for 2 (n0 ∷ n2 ∷ n1 ∷ n0 ∷ []) (n5 ∷ n8 ∷ []), numbers (leaves (n4 ∷ n5 ∷ [])))
    -- "2 by 1: (0,2), then add (1,0)": "as the first row of this table"
    ∷ (added_to 2 (n0 ∷ n2 ∷ []) (n1 ∷ n0 ∷ []), packed 2 2 (n2 ∷ n0 ∷ n0 ∷ n1 ∷ []) ((0, 1) ∷ []))
    -- "1 by 1: 2^-1024": "accepted"
    ∷ (factors (fresh 1 1 (two_to_minus 1024 ∷ [])), packed 1 1 (two_to_minus 1024 ∷ []) [])
    -- "2 by 1: (2^-1024, 0)": "7"
    ∷ (factors (fresh 2 1 (two_to_minus 1024 ∷ n0 ∷ [])), overflow 2 1)
    -- "2 by 1: (2^-1023, 0)": "accepted, no swap"
    ∷ (factors (fresh 2 1 (two_to_minus 1023 ∷ n0 ∷ [])), packed 2 1 (two_to_minus 1023 ∷ n0 ∷ []) [])
    -- "2 by 1: (2, -2)": "no swap, multiplier -1"
    ∷ (factors (fresh 2 1 (n2 ∷ -n2 ∷ [])), packed 2 1 (n2 ∷ -n1 ∷ []) [])
    -- "2 by 1: 1.75·2^1023 twice": "multiplier 1 + 2^-51"
    ∷ (factors (fresh 2 1 (huge ∷ huge ∷ [])), packed 2 1 (huge ∷ one_and_a_little ∷ []) [])
    -- "columns (0,0),(-1,-0.0), fresh or added": "last entry stays -0.0"
    ∷ (factors (fresh 2 2 (n0 ∷ n0 ∷ -n1 ∷ -n0 ∷ [])), packed_with 2 2 2 (n0 ∷ n0 ∷ -n1 ∷ -n0 ∷ []) [])
    ∷ (added_to 2 (n0 ∷ n0 ∷ []) (-n1 ∷ -n0 ∷ []), packed_with 2 2 2 (n0 ∷ n0 ∷ -n1 ∷ -n0 ∷ []) [])
    -- "2 by 2 zeros": "factors accepted; solve gives 6"
    ∷ (factors (fresh 2 2 (zeros 4)), packed_with 2 2 2 (zeros 4) [])
    ∷ (solved_for 2 (zeros 4) (n5 ∷ n8 ∷ []), numbers (leaving (ones 2) 6))
    -- "diagonal 2^-600 twice": "determinant 0; invertible"
    ∷ (determinant_for 2 (two_to_minus 600 ∷ n0 ∷ n0 ∷ two_to_minus 600 ∷ []), determinant (done n0))
    ∷ (invertible_for 2 (two_to_minus 600 ∷ n0 ∷ n0 ∷ two_to_minus 600 ∷ []), invertible (done true))
    -- "1 by 1 factor 2^-1000, reading 2^100": "7, load +0.0"
    ∷ (solved_for 1 (two_to_minus 1000 ∷ []) (two_to 100 ∷ []), numbers (leaving (zeros 1) 7))
    -- "transposed lower, rows (2,0),(1,4), b (4,8)": "1, 2"
    ∷ (solved_by TransposedLower (n2 ∷ n1 ∷ n0 ∷ n4 ∷ []) (n4 ∷ n8 ∷ []), numbers (leaves (n1 ∷ n2 ∷ [])))
    -- "given diagonal 2, entry below 1, b (4,6)": "4, 4"; and corrected 2, 2
    ∷ (solved_by (GivenDiagonal n2) (n0 ∷ n1 ∷ n0 ∷ n0 ∷ []) (n4 ∷ n6 ∷ []), numbers (leaves (n4 ∷ n4 ∷ [])))
    ∷ (solved_by (CorrectedDiagonal n2) (n0 ∷ n1 ∷ n0 ∷ n0 ∷ []) (n4 ∷ n6 ∷ []), numbers (leaves (n2 ∷ n2 ∷ [])))
    -- "loads 1, -3, 3": "pads 2, 3, 1"
    ∷ (ranked (n1 ∷ -n3 ∷ n3 ∷ []), ranks (record { answer = done 3; left = 2 ∷ 3 ∷ 1 ∷ [] }))
    ∷ []
