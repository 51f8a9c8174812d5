-- The dot product in the crate's order (`dotx` of base/blas.rs; document 01, "Solving"): eight running sums over blocks of eight,
-- these two and two in turn, then what is left in order.
use Rattle.std.specs.Prelude.{cond, ℕ, ◌+◌, ◌*◌, ◌/◌, ◌%◌, eqb, length, take, drop, Float}
use Rattle.std.specs.Float.{nan, binary64}
use Rattle.std.specs.Float.Ieee.{add, mul}
use Rattle.numbers.specs.Each.{each_from, turns_from}
use Rattle.numbers.specs.Numbers.{zero64}
use Rattle.numbers.specs.Column.{Column, entry, zeros}

-- a sum with the product in row k added to it, both rounded
unfoldable pub add_product : Column → Column → ℕ → Float → Float
add_product x y k s = add binary64 s (mul binary64 (entry x k) (entry y k))

-- block j of eight
abbrev pub block : ℕ → Column → Column
block j x = take 8 (drop (j * 8) x)

-- each running sum with the product at its own place of block j added
unfoldable pub add_block : Column → Column → ℕ → Column → Column
add_block x y j sums = each_from (add_product (block j x) (block j y)) 0 sums

-- the eight running sums once all whole blocks are through
unfoldable pub eight_sums : Column → Column → Column
eight_sums x y = turns_from (add_block x y) 0 (length x / 8) (zeros 8)

-- sums 0 and 4, 1 and 5, 2 and 6, 3 and 7, each pair's sum added in turn to +0.0
unfoldable pub pair_sums : Column → Float
pair_sums s =
    let pair : ℕ → Float = λ r. add binary64 (entry s r) (entry s (r + 4)) in
    add binary64 (add binary64 (add binary64 (add binary64 zero64 (pair 0)) (pair 1)) (pair 2)) (pair 3)

-- the rows past the last whole block follow in order; columns of different lengths have no dot product, and the answer is `nan`
unfoldable pub dot_of : Column → Column → Float
dot_of x y =
    cond (eqb (length x) (length y)) (turns_from (add_product x y) (length x / 8 * 8) (length x % 8) (pair_sums (eight_sums x y))) nan
