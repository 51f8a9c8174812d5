-- The parts of `dot_of`, as the code of `dot` meets them: a block lent as a part, and the rows past the last whole block. Assumes nothing.
use mathlib.Core.Path.{◌≡◌, ap, ◌∙◌}
use Prim.Native.Nat.{ℕ, ◌+◌, ◌-◌, ◌*◌, ◌/◌, ◌%◌}
use native.Mathlib.Nat.{add-sub_cancel_left}
use native.Mathlib.Omega.{arith}
use borrow.Author.Tests.{eq-eqb}
use lib.ListN.{length, take, drop}
use lib.Ieee.{Float}
use Rattle.numbers.specs.Each.{each_from, turns_from}
use Rattle.numbers.specs.Column.{Column}
use Rattle.blas.specs.Dot.{add_product, add_block, eight_sums, pair_sums, dot_of}

-- block j, lent as the part from j * 8 to j * 8 + 8
pub block_added : (x y sums new : Column) (j : ℕ)
    → new ≡ each_from (add_product (take (j * 8 + 8 - j * 8) (drop (j * 8) x)) (take (j * 8 + 8 - j * 8) (drop (j * 8) y))) 0 sums
    → new ≡ add_block x y j sums
unfolding add_block
block_added x y sums new j e =
    e ∙ ap (λ (k : ℕ). each_from (add_product (take k (drop (j * 8) x)) (take k (drop (j * 8) y))) 0 sums) (add-sub_cancel_left (j * 8) 8)

-- the eight sums are there, and the rest follows
pub dot_done : (x y acc : Column) (r : Float) → length x ≡ length y → acc ≡ eight_sums x y
    → r ≡ turns_from (add_product x y) (length x / 8 * 8) (length x - length x / 8 * 8) (pair_sums acc) → r ≡ dot_of x y
unfolding dot_of
dot_done x y acc r len sums e =
    let left : length x - length x / 8 * 8 ≡ length x % 8 = omega arith in
    e
    ∙ (λ i. turns_from (add_product x y) (length x / 8 * 8) (left i) (pair_sums (sums i)))
    ∙ rw (eq-eqb (length x) (length y) len)
