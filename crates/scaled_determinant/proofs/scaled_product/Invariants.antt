-- The turns that are left from diagonal i on give the whole product; what is made so far keeps its range, so the next turn has room. Assumes nothing.
use mathlib.Core.Path.{◌≡◌}
use Prim.Native.Nat.{◌-◌, ◌*◌}
use lib.ListN.{length}
use Rattle.numbers.specs.Each.{turns_from}
use Rattle.store.specs.Columns.{columns}
use Rattle.scaled_determinant.specs.Determinant.{scaled_turn, scaled_product}
use Rattle.scaled_determinant.proofs.Range.{Bounded}
use Rattle.scaled_determinant.proofs.scaled_product.Given as goal

abbrev pub invariant-loop-i : goal.invariant-loop-i
invariant-loop-i l =
    (length l.factors ≡ l.n * l.n)
    × (turns_from (scaled_turn (columns l.n l.n l.factors)) l.i (l.n - l.i) l.r ≡ scaled_product l.n (columns l.n l.n l.factors)) × Bounded l.i l.r
