-- What is left after the single rows, and then after the four, gives all turns, and these give the solved column (`rows_solve`), since the slice holds
-- doubles. Assumes nothing.
use Prim.Native.Nat.{◌%◌}
use mathlib.Core.Path.{◌≡◌, sym, ap₂, ◌∙◌}
use native.Mathlib.Omega.{arith}
use Rattle.numbers.specs.Column.{Column}
use Rattle.numbers.proofs.Each.{turns_done}
use Rattle.store.specs.Columns.{columns}
use Rattle.store.proofs.Columns.{sized}
use Rattle.solve_by_rows.specs.Rows.{rows_from}
use Rattle.solve_by_rows.proofs.Rows.{turns_by, rows_all}
use Rattle.solve_by_rows.proofs.Same.{rows_solve}
use Rattle.solve_by_rows.proofs.Blocks.{full}
use Rattle.solve_by_rows.proofs.solve_column.Goals.{then-after_singles-after_fours, else-after_singles-after_fours}
use Rattle.solve_by_rows.proofs.solve_column.Goals as goal

pub returns : goal.returns
returns c =
    let a = c.args in
    let n = a.n in
    let four : rows_from a.upward n a.t.now (n % 8) c.if-after_singles-after_fours.b ≡ rows_from a.upward n a.t.now (n % 4) c.rows_by.new.b =
    elim c.if-after_singles-after_fours.branch [
      | then-after_singles-after_fours w ↦
          let h = w.if-after_singles-after_fours.true in
          rw w.b-is (turns_by _ 4 _ _ _ _ _ _ (omega (arith, h)) (omega (arith, h)) w.rows_at_once.ensures)
      | else-after_singles-after_fours w ↦
          let none : n % 8 ≡ n % 4 = omega (arith, w.if-after_singles-after_fours.false) in
          ap₂ (λ (k : _) (b : Column). rows_from a.upward n a.t.now k b) none w.b-is
    ] in
    sym (turns_done _ _ _ _ (omega arith))
    ∙ c.rows_by-2.ensures
    ∙ four
    ∙ c.rows_by.ensures
    ∙ rows_all _ _ _ _
    ∙ rows_solve a.upward n (columns n n a.t.now) a.b.now (full n a.t.now (sized _ _ _ c.requires.0).size) c.requires.1 c.slice_known-1.given
