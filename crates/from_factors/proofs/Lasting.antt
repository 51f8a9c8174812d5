-- The determinant's running product never becomes finite again (document 01, "Refusal numbers"). Assumes nothing.
use mathlib.Core.Path.{◌≡◌}
use mathlib.Core.Bool.{true}
use Prim.Native.Nat.{ℕ, ◌≤◌}
use lib.Ieee.{Float}
use lib.Ieee.Scale.{finite}
use Rattle.numbers.specs.Each.{turns_from}
use Rattle.numbers.specs.Numbers.{one64}
use Rattle.numbers.proofs.Lasting.{product_finite}
use Rattle.numbers.proofs.First.{passed_then}
use Rattle.store.specs.Steps.{Matrix}
use Rattle.from_factors.specs.Determinant.{times_diagonal, diagonal_product, determinant_of}

times_finite : (cs : Matrix) (i : ℕ) (d : Float) → finite (times_diagonal cs i d) ≡ true → finite d ≡ true
unfolding times_diagonal
times_finite cs i d h = (product_finite d _ h).0

-- THEOREM. Where the determinant is finite, so is the product of the first k diagonals.
pub products_finite : (n k : ℕ) (cs : Matrix) (pairs : ℕ) → k ≤ n → finite (determinant_of n cs pairs) ≡ true
    → finite (turns_from (times_diagonal cs) 0 k one64) ≡ true
unfolding determinant_of diagonal_product
products_finite n k cs pairs l h =
    passed_then finite (times_diagonal cs) (times_finite cs) 0 k n one64 l (product_finite (turns_from (times_diagonal cs) 0 n one64) _ h).0
