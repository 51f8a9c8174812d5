-- The sums of the block's rows, solved by each other and copied back (`block_made`). Assumes nothing.
use Prim.Native.Nat.{◌+◌, ◌-◌}
use mathlib.Core.Path.{◌≡◌}
use mathlib.Core.Bool.{not}
use native.Mathlib.Omega.{arith}
use borrow.Author.Rules.{rules}
use lib.Dec.{eqb}
use lib.ListN.{length}
use Rattle.store.specs.Columns.{columns}
use Rattle.store.proofs.Columns.{sized}
use Rattle.solve_by_rows.specs.Rows.{solved_within}
use Rattle.solve_by_rows.proofs.Blocks.{first_row, full, block_made}
use Rattle.solve_by_rows.proofs.block.Goals.{then-this-ne0, else-this-ne0, then-this-ne0-2, else-this-ne0-2}
use Rattle.solve_by_rows.proofs.block.Goals as goal

pub returns : goal.returns
returns g c =
    let a = c.args in
    let p = c.requires in
    let w = length a.v.now in
    let up = not (eqb g.row.UP 0) in
    let first : c.if-this-ne0.r ≡ first_row up a.n a.k w =
    elim c.if-this-ne0.branch [ then-this-ne0 w ↦ search rules | else-this-ne0 w ↦ search rules ] in
    let within : c.if-this-ne0-2.v ≡ solved_within up (columns a.n a.n a.t.now) c.if-this-ne0.r c.row_sums.new.v =
    elim c.if-this-ne0-2.branch [ then-this-ne0-2 w ↦ search rules | else-this-ne0-2 w ↦ search rules ] in
    let wide : c.if-this-ne0.r + w - c.if-this-ne0.r ≡ w = omega arith in
    block_made up a.n (columns a.n a.n a.t.now) (full a.n a.t.now (sized _ _ _ p.0).size) a.b.now p.1 a.k w _ p.2 first _ _ _ _ wide
    c.row_sums.ensures within c.copy.ensures
