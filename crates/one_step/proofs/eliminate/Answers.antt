-- The columns that are left from column j on give the whole; column i, left of them, stays. Assumes nothing.
use Prim.Native.Nat.{◌<◌}
use mathlib.Core.Path.{◌≡◌, refl, sym, ◌∙◌}
use mathlib.Core.Bool.{true}
use native.Mathlib.Omega.{arith}
use Rattle.store.specs.Columns.{is_matrix}
use Rattle.one_step.specs.OneStep.{step_columns, eliminated}
use Rattle.store.proofs.Columns.{same_matrix, column_stop, on_none, on_done}
use Rattle.one_step.proofs.Shape.{eliminated_past}
use Rattle.one_step.proofs.Within.{stepped_column, stepped_turn}
use Rattle.one_step.proofs.eliminate.Goals.{Else-min-i}
use Rattle.one_step.proofs.eliminate.Goals as goal

-- past the tests the slice is a matrix that has row and column i
has : (c : Else-min-i) → let g = c.args in
    (is_matrix g.s.now g.m g.n ≡ true) × (g.i < g.m) × (g.i < g.n)
has c = (sym c.is_matrix.ensures ∙ c.if-not-is_matrix.false, omega arith, omega arith)

pub returns-then-not-is_matrix : goal.returns-then-not-is_matrix
returns-then-not-is_matrix c = on_none _ _ _ _ (sym c.is_matrix.ensures ∙ c.if-not-is_matrix.true)

pub returns-then-min-i : goal.returns-then-min-i
returns-then-min-i c =
    let fit = sym c.is_matrix.ensures ∙ c.if-not-is_matrix.false in
    on_done _ _ _ _ _ fit refl (eliminated_past _ _ _ _ fit (rw (← c.min.ensures) c.if-min-i.true))

pub loop-j-init : goal.loop-j-init
unfolding eliminated
loop-j-init c = (refl, refl)

pub step_inner-requires : goal.step_inner-requires
step_inner-requires c =
    let h = has (goal.at.step_inner-requires c).Else-min-i in
    (same_matrix _ _ _ _ c.loop-j.auto.s ∙ h.0, h.1, h.2, c.loop-j-test.true)

pub loop-j-preserved : goal.loop-j-preserved
loop-j-preserved c =
    let hj = c.loop-j-test.true in
    let right : c.args.i < c.loop-j.j = omega arith in
    let made = c.step_inner.ensures in
    (stepped_column _ _ _ _ _ _ hj made right ∙ c.loop-j.invariant.0, stepped_turn _ _ _ _ _ _ hj made _ c.loop-j.invariant.0 ∙ c.loop-j.invariant.1)

pub returns : goal.returns
unfolding step_columns
returns c =
    on_done _ _ _ _ _ (has (goal.at.returns c).Else-min-i).0 c.loop-j.auto.s (sym (column_stop _ _ _ _ _ c.loop-j-test.false) ∙ c.loop-j.invariant.1)
