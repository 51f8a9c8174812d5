-- Four steps of the elimination on columns right of theirs: document 01, "Elimination", step 5, four times. And the same row by row, as the code goes.
use Rattle.std.specs.Prelude.{◌≡◌, cond, ℕ, ◌+◌, ◌*◌, ◌≤◌, ◌<◌, min, leb, set, Float}
use Rattle.std.specs.Float.Ieee.{neg}
use Rattle.numbers.specs.Each.{each_from}
use Rattle.numbers.specs.Numbers.{plus_product}
use Rattle.numbers.specs.Column.{Column, entry}
use Rattle.store.specs.Steps.{Matrix, column}
use Rattle.one_step.specs.OneStep.{step_column}
use Rattle.four_steps.specs.declared.Four.{Four}

-- step 5 of step k, the multipliers being those of column k
unfoldable pub step_by : Matrix → ℕ → Column → Column
step_by cs k c = step_column k (column cs k) c

-- the steps i to i + 3 in turn
unfoldable pub four_steps : ℕ → Matrix → Column → Column
four_steps i cs c = step_by cs (i + 3) (step_by cs (i + 2) (step_by cs (i + 1) (step_by cs i c)))

-- that on column j
abbrev pub four_steps_in : ℕ → ℕ → Matrix → Matrix
four_steps_in i j cs = set cs j (four_steps i cs (column cs j))

-- that for each column from column `from` on of a matrix with m rows, where these lie right of those four and row i + 3 is there
unfoldable pub four_stepped : ℕ → ℕ → ℕ → Matrix → Matrix
four_stepped m i from cs = cond (leb (i + 4) (min m from)) (each_from (λ j c. four_steps i cs c) from cs) cs

-- that for column j alone
unfoldable pub four_stepped_on : ℕ → ℕ → ℕ → Matrix → Matrix
four_stepped_on m i j cs = cond (leb (i + 4) (min m j)) (four_steps_in i j cs) cs

-- ---- row by row

-- the multiplier in row r of column k
abbrev pub multiplier : Matrix → ℕ → ℕ → Float
multiplier cs k r = entry (column cs k) r

-- the columns of m rows that these are read from and written to end within a store that is so long
pub record Reaches (m i j long : ℕ) : Type 0 where
  pub first : i * m + m ≤ long
  pub second : (i + 1) * m + m ≤ long
  pub third : (i + 2) * m + m ≤ long
  pub own : j * m + m ≤ long

-- the column with its rows i + 1 to i + 3 done
unfoldable pub head_of : ℕ → Matrix → Column → Column
head_of i cs c =
    let f0 = neg (entry c i) in
    let u1 = plus_product f0 (multiplier cs i (i + 1)) (entry c (i + 1)) in
    let f1 = neg u1 in
    let u2 = plus_product f1 (multiplier cs (i + 1) (i + 2)) (plus_product f0 (multiplier cs i (i + 2)) (entry c (i + 2))) in
    let u3 = plus_product (neg u2) (multiplier cs (i + 2) (i + 3))
    (plus_product f1 (multiplier cs (i + 1) (i + 3)) (plus_product f0 (multiplier cs i (i + 3)) (entry c (i + 3)))) in
    set (set (set c (i + 1) u1) (i + 2) u2) (i + 3) u3

abbrev pub head_in : ℕ → ℕ → Matrix → Matrix
head_in i j cs = set cs j (head_of i cs (column cs j))

-- minus the numbers of the rows i to i + 3: what the four steps multiply by
unfoldable pub minus_of : ℕ → Column → Four
minus_of i c = record { first = neg (entry c i); second = neg (entry c (i + 1)); third = neg (entry c (i + 2)); fourth = neg (entry c (i + 3)) }

-- the number v of row r after four steps, by those numbers
unfoldable pub add_four : ℕ → Matrix → Four → ℕ → Float → Float
add_four i cs f r v =
    plus_product f.fourth (multiplier cs (i + 3) r)
    (plus_product f.third (multiplier cs (i + 2) r) (plus_product f.second (multiplier cs (i + 1) r) (plus_product f.first (multiplier cs i r) v)))

-- the numbers of the rows k to k + 3 after four steps
unfoldable pub four_rows : ℕ → Matrix → Four → ℕ → Column → Four
four_rows i cs f k c =
    let after : ℕ → Float = λ r. add_four i cs f r (entry c r) in
    record { first = after k; second = after (k + 1); third = after (k + 2); fourth = after (k + 3) }

-- the column with four numbers written from row k on
unfoldable pub written_four : ℕ → Four → Column → Column
written_four k x c = set (set (set (set c k x.first) (k + 1) x.second) (k + 2) x.third) (k + 3) x.fourth

-- the column with its rows from row k on done, those above being done
unfoldable pub tail_of : ℕ → ℕ → Matrix → Column → Column
tail_of i k cs c = each_from (add_four i cs (minus_of i c)) k c

-- ---- while column j, or the columns j and j + 1, are worked on: the matrix with what is left of them, from row k on, done
unfoldable pub tail_left : ℕ → ℕ → ℕ → Matrix → Matrix
tail_left i j k cs = set cs j (tail_of i k cs (column cs j))

-- f of the columns j and j + 1
unfoldable pub set_two : ℕ → (Column → Column) → Matrix → Matrix
set_two j f cs = set (set cs j (f (column cs j))) (j + 1) (f (column cs (j + 1)))

unfoldable pub tails_left : ℕ → ℕ → ℕ → Matrix → Matrix
tails_left i j k cs = set_two j (tail_of i k cs) cs

-- from column j to column r the four steps were made: the columns of the steps are as they were, and the columns from r on, when done, give the whole
pub record Onward (i j : ℕ) (cs : Matrix) (r : ℕ) (cs' : Matrix) : Type 0 where
  pub kept : (k : ℕ) → k < i + 4 → column cs' k ≡ column cs k
  pub whole : each_from (λ k c. four_steps i cs c) r cs' ≡ each_from (λ k c. four_steps i cs c) j cs
