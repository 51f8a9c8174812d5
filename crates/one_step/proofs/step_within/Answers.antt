-- By the tests, and what the step gives past them. Assumes nothing.
use Prim.Native.Nat.{◌<◌}
use mathlib.Core.Path.{◌≡◌, refl, sym, ◌∙◌}
use mathlib.Core.Bool.{true}
use native.Mathlib.Omega.{arith}
use Rattle.store.specs.Columns.{is_matrix}
use Rattle.store.proofs.Columns.{on_none, on_done}
use Rattle.one_step.proofs.Within.{within_no_column, within_no_row}
use Rattle.one_step.proofs.step_within.Goals.{After-step_inner-arg-1}
use Rattle.one_step.proofs.step_within.Goals as goal

-- past the tests: the slice is a matrix that has row i and both columns
has : (c : After-step_inner-arg-1) → let g = c.args in
    (is_matrix g.s.now g.m g.n ≡ true) × (g.i < g.m) × (g.i < g.n) × (g.j < g.n)
has c = (sym c.is_matrix.ensures ∙ c.if-not-is_matrix.false, omega arith, omega arith, c.if-n-j.false)

pub returns-then-not-is_matrix : goal.returns-then-not-is_matrix
returns-then-not-is_matrix c = on_none _ _ _ _ (sym c.is_matrix.ensures ∙ c.if-not-is_matrix.true)

pub returns-then-n-j : goal.returns-then-n-j
returns-then-n-j c = on_done _ _ _ _ _ (sym c.is_matrix.ensures ∙ c.if-not-is_matrix.false) refl (within_no_column _ _ _ _ _ c.if-n-j.true)

pub returns-then-min-i : goal.returns-then-min-i
returns-then-min-i c =
    let fit = sym c.is_matrix.ensures ∙ c.if-not-is_matrix.false in
    on_done _ _ _ _ _ fit refl (within_no_row _ _ _ _ _ fit c.if-n-j.false (omega arith))

pub step_inner-requires : goal.step_inner-requires
step_inner-requires c = has c

pub returns : goal.returns
returns c = on_done _ _ _ _ _ (has (goal.at.returns c).After-step_inner-arg-1).0 c.step_inner.auto.s c.step_inner.ensures
