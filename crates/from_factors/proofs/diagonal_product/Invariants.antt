-- The factors that are left from row i on give the whole product. Assumes nothing.
use Prim.Native.Nat.{◌-◌, ◌*◌}
use mathlib.Core.Path.{◌≡◌}
use lib.ListN.{length}
use Rattle.numbers.specs.Each.{turns_from}
use Rattle.store.specs.Columns.{columns}
use Rattle.from_factors.specs.Determinant.{times_diagonal, diagonal_product}
use Rattle.from_factors.proofs.diagonal_product.Given as goal

abbrev pub invariant-loop-i : goal.invariant-loop-i
invariant-loop-i l =
    (length l.factors ≡ l.n * l.n)
    × (turns_from (times_diagonal (columns l.n l.n l.factors)) l.i (l.n - l.i) l.res ≡ diagonal_product l.n (columns l.n l.n l.factors))
