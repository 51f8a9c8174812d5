-- Document 01, "Solving": the unit lower and the upper solve of one column, row by row. The rows that come before a row in the solve's order are
-- solved when it has its turn, and it takes their products one after another, each by the rule of step 5, as the solves column by column give them.
use Rattle.std.specs.Prelude.{Bool, true, false, cond, ℕ, ◌+◌, ◌-◌, length, set, take, drop, Float}
use Rattle.std.specs.Float.{binary64}
use Rattle.std.specs.Float.Ieee.{neg, div}
use Rattle.numbers.specs.Each.{turns_from, list_of}
use Rattle.numbers.specs.Numbers.{one64, plus_product}
use Rattle.numbers.specs.Column.{Column, entry}
use Rattle.store.specs.Columns.{columns}
use Rattle.store.specs.Steps.{Matrix, column}
use Rattle.one_step.specs.OneStep.{step_column}
use Rattle.triangular_passes.specs.declared.Pass.{Pass}
use Rattle.triangular_passes.specs.declared.Pass.TheVariants.{Upper, CorrectedDiagonal}
use Rattle.triangular_passes.specs.Triangular.{turn, solved_in_place}

-- the solve that is meant: upward by the upper triangle, or downward by the lower one, corrected, with ones for its diagonal (document 02, request 4)
abbrev pub pass_of : Bool → Pass
pass_of true = Upper
pass_of false = CorrectedDiagonal one64

-- both passes over one right-hand column b, by the n by n matrix that the slice t holds: the unit lower, then the upper one
abbrev pub both_passes : Column → ℕ → Column → Column
both_passes t n b = solved_in_place (pass_of true) t n (solved_in_place (pass_of false) t n b 1) 1

-- the row of turn k of n
unfoldable pub row_of : Bool → ℕ → ℕ → ℕ
row_of upward n k = cond upward (n - 1 - k) k

-- the number v of row r with the product of turn k: minus the solved number of that turn, times what the matrix has for it in row r
unfoldable pub with_turn : Bool → ℕ → Matrix → Column → ℕ → ℕ → Float → Float
with_turn upward n cs b r k v = let c = row_of upward n k in plus_product (neg (entry b c)) (entry (column cs c) r) v

-- row r with the products of that many turns, from the first on
unfoldable pub row_sum : Bool → ℕ → Matrix → Column → ℕ → ℕ → Float
row_sum upward n cs b r turns = turns_from (with_turn upward n cs b r) 0 turns (entry b r)

-- upward, row i is divided by the diagonal
unfoldable pub finished : Bool → Matrix → ℕ → Float → Float
finished upward cs i v = cond upward (div binary64 v (entry (column cs i) i)) v

-- turn k: its row, with the products of all turns before it
unfoldable pub row_done : Bool → ℕ → Matrix → ℕ → Column → Column
row_done upward n cs k b = let i = row_of upward n k in set b i (finished upward cs i (row_sum upward n cs b i k))

-- all turns, and those from turn k on, by the matrix that the slice t holds
abbrev pub all_rows : Bool → ℕ → Column → Column → Column
all_rows upward n t b = turns_from (row_done upward n (columns n n t)) 0 n b

abbrev pub rows_from : Bool → ℕ → Column → ℕ → Column → Column
rows_from upward n t k b = turns_from (row_done upward n (columns n n t)) k (n - k) b

-- ---- a block: the w rows from row r on

-- each of them with the products of that many turns
unfoldable pub row_sums : Bool → ℕ → Matrix → Column → ℕ → ℕ → ℕ → Column
row_sums upward n cs b r turns w = list_of w (λ q. row_sum upward n cs b (r + q) turns)

-- what the matrix has where the block's rows meet their own columns
unfoldable pub block_of : Matrix → ℕ → ℕ → Matrix
block_of cs r w = list_of w (λ p. take w (drop r (column cs (r + p))))

-- turn k of n column by column: upward as `solve` has it, or downward with ones on the diagonal
abbrev pub column_turn : Bool → ℕ → Matrix → ℕ → Column → Column
column_turn true n cs = turn Upper n cs
column_turn false n cs = λ k v. step_column k (column cs k) v

-- the block's numbers v solved by each other
unfoldable pub solved_within : Bool → Matrix → ℕ → Column → Column
solved_within upward cs r v = let w = length v in turns_from (column_turn upward w (block_of cs r w)) 0 w v
