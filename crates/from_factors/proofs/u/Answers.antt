-- Past the tests the factors are a matrix, and the slice has room for U. Assumes nothing.
use mathlib.Core.Path.{◌≡◌, sym}
use native.Mathlib.Omega.{arith}
use Prim.Native.Nat.{min}
use Rattle.factors.specs.Held.{held_refusal}
use Rattle.from_factors.specs.Triangles.{read_asks}
use Rattle.factors.proofs.Held.{passed}
use Rattle.from_factors.proofs.u.Goals.{In_ok-test_held}
use Rattle.from_factors.proofs.u.Goals as goal

-- past the tests
none : (c : In_ok-test_held) → let g = c.args in
    0 ≡ held_refusal g.factors.now g.swaps.now g.told (read_asks g.out.now (min g.told.rows g.told.columns) g.told.columns)
none c = rw (c.is_matrix-lengths.ensures, c.min-k.ensures) at c.in_ok-test_held.ensures

pub upper_columns-requires : goal.upper_columns-requires
upper_columns-requires c =
    let p = passed _ _ _ _ (sym (none (goal.at.upper_columns-requires c).In_ok-test_held)) in
    let e = c.min-k.ensures in
    (p.matrix, rw e p.lengths, omega arith)
