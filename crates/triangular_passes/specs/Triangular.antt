-- Document 01, "Solving": the five triangular solves, row by row and column by column, beside the given diagonal the corrected one (document
-- 02, request 4), and beside transposed lower the one whose diagonal counts as one (request 5). Each right-hand column is solved by itself.
use Rattle.std.specs.Prelude.{cond, ◌&&◌, ◌++◌, ℕ, ◌+◌, ◌-◌, ltb, eqb, length, set, take, drop, Float}
use Rattle.std.specs.Float.{binary64}
use Rattle.std.specs.Float.Ieee.{neg, sub, div}
use Rattle.numbers.specs.Each.{each_from, turns_from}
use Rattle.numbers.specs.Column.{Column, entry}
use Rattle.blas.specs.Blas.{axpy_from}
use Rattle.blas.specs.Dot.{dot_of}
use Rattle.store.specs.Columns.{columns, is_matrix, on_columns}
use Rattle.store.specs.Steps.{Matrix, column}
use Rattle.triangular_passes.specs.declared.Pass.{Pass}
use Rattle.triangular_passes.specs.declared.Pass.TheVariants.{Lower, Upper, GivenDiagonal, CorrectedDiagonal}
use Rattle.triangular_passes.specs.declared.Pass.TheVariants.{TransposedLower, TransposedUpper, TransposedUnitLower}

-- what f makes of the given diagonal; `own` where none is given
abbrev pub given : {A : Type 0} → Pass → (Float → A) → A → A
given Lower f own = own
given Upper f own = own
given (GivenDiagonal d) f own = f d
given TransposedLower f own = own
given TransposedUpper f own = own
given (CorrectedDiagonal d) f own = f d
given TransposedUnitLower f own = own

-- the number that row i is divided by, l being column i of the matrix
abbrev pub divisor : Pass → Column → ℕ → Float
divisor pass l i = given pass (λ d. d) (entry l i)

-- ---- one row

-- "lower runs downward, upper upward; each divides, then updates the rest by the rule of step 5"
unfoldable pub lower_row : Float → Column → ℕ → Column → Column
lower_row d l i b = let x = div binary64 (entry b i) d in axpy_from (i + 1) (neg x) l (set b i x)

unfoldable pub upper_row : Float → Column → ℕ → Column → Column
upper_row d l i b =
    let x = div binary64 (entry b i) d in
    let c = set b i x in
    axpy_from 0 (neg x) (take i l) (take i c) ++ drop i c

-- "the entry divided by d drives the updates below; the entries themselves are not divided"
unfoldable pub kept_row : Float → Column → ℕ → Column → Column
kept_row d l i b = axpy_from (i + 1) (neg (div binary64 (entry b i) d)) l b

-- b minus the dot product, for row i: of the rows below it
abbrev pub less_below : Column → ℕ → Column → Float
less_below l i b = sub binary64 (entry b i) (dot_of (drop (i + 1) l) (drop (i + 1) b))

-- "each unknown is (b minus the dot product) divided by the diagonal": of the rows below it, or of those above
unfoldable pub transposed_lower_row : Float → Column → ℕ → Column → Column
transposed_lower_row d l i b = set b i (div binary64 (less_below l i b) d)

unfoldable pub transposed_upper_row : Float → Column → ℕ → Column → Column
transposed_upper_row d l i b = set b i (div binary64 (sub binary64 (entry b i) (dot_of (take i l) (take i b))) d)

-- transposed lower where the diagonal counts as one (document 02, request 5): nothing is divided
unfoldable pub transposed_unit_lower_row : Column → ℕ → Column → Column
transposed_unit_lower_row l i b = set b i (less_below l i b)

-- What each solve does in row i, d being the number to divide by. The corrected given diagonal (document 02, request 4) is a diagonal like
-- the matrix's own: "each entry is divided by d, stored, and drives the updates".
abbrev pub row_by : Pass → Float → Column → ℕ → Column → Column
row_by Lower d l i b = lower_row d l i b
row_by Upper d l i b = upper_row d l i b
row_by (GivenDiagonal _) d l i b = kept_row d l i b
row_by TransposedLower d l i b = transposed_lower_row d l i b
row_by TransposedUpper d l i b = transposed_upper_row d l i b
row_by (CorrectedDiagonal _) d l i b = lower_row d l i b
row_by TransposedUnitLower d l i b = transposed_unit_lower_row l i b

-- row i of a solve, l being column i of the matrix
unfoldable pub solved_row : Pass → Column → ℕ → Column → Column
solved_row pass l i b = row_by pass (divisor pass l i) l i b

-- ---- one column

-- the row of turn k of n: lower and transposed upper run downward, upper and transposed lower upward
abbrev pub row_at : Pass → ℕ → ℕ → ℕ
row_at Lower n k = k
row_at Upper n k = n - 1 - k
row_at (GivenDiagonal d) n k = k
row_at TransposedLower n k = n - 1 - k
row_at TransposedUpper n k = k
row_at (CorrectedDiagonal d) n k = k
row_at TransposedUnitLower n k = n - 1 - k

-- every row has its turn; where a given diagonal leaves the entries undivided, all but the last, whose quotient is never formed
abbrev pub turns_of : Pass → ℕ → ℕ
turns_of Lower n = n
turns_of Upper n = n
turns_of (GivenDiagonal d) n = n - 1
turns_of TransposedLower n = n
turns_of TransposedUpper n = n
turns_of (CorrectedDiagonal d) n = n
turns_of TransposedUnitLower n = n

-- turn k on a right-hand column, cs being the columns of the matrix
unfoldable pub turn : Pass → ℕ → Matrix → ℕ → Column → Column
turn pass n cs k b = let i = row_at pass n k in solved_row pass (column cs i) i b

-- the same by itself, t holding the n by n matrix; without such a matrix, a column of n entries or a turn k the column stays as it was
unfoldable pub turned_by : Pass → Column → ℕ → Column → ℕ → Column
turned_by pass t n b k = cond (is_matrix t n n && eqb (length b) n && ltb k (turns_of pass n)) (turn pass n (columns n n t) k b) b

-- a right-hand column, solved
unfoldable pub solved_column : Pass → ℕ → Matrix → Column → Column
solved_column pass n cs b = turns_from (turn pass n cs) 0 (turns_of pass n) b

-- ---- all columns

-- the right-hand columns from column j on, each solved by itself
unfoldable pub solved_from : Pass → ℕ → Matrix → ℕ → Matrix → Matrix
solved_from pass n cs j bs = each_from (λ _ b. solved_column pass n cs b) j bs

abbrev pub solved_columns : Pass → ℕ → Matrix → Matrix → Matrix
solved_columns pass n cs bs = solved_from pass n cs 0 bs

-- A pass without the tests: the k right-hand columns of n rows that b holds, solved by the n by n matrix that t holds. Where a slice holds
-- no such matrix, b stays as it was.
unfoldable pub solved_in_place : Pass → Column → ℕ → Column → ℕ → Column
solved_in_place pass t n b k = cond (is_matrix t n n) (on_columns n k (solved_columns pass n (columns n n t)) b) b
