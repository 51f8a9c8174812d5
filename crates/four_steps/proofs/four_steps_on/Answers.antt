-- By the tests, and what the steps give past them. Assumes nothing.
use Prim.Native.Nat.{◌+◌, ◌≤◌, ◌<◌}
use mathlib.Core.Path.{◌≡◌, refl, sym, ◌∙◌}
use mathlib.Core.Bool.{true}
use native.Mathlib.Omega.{arith}
use Rattle.store.specs.Columns.{is_matrix}
use Rattle.store.proofs.Columns.{on_none, on_done}
use Rattle.four_steps.proofs.Within.{on_is, not_on, none_on}
use Rattle.four_steps.proofs.four_steps_on.Goals.{After-steps_on-arg-1}
use Rattle.four_steps.proofs.four_steps_on.Goals as goal

-- past the tests: the slice is a matrix, row i + 3 is there, and column j is there, right of the four columns
has : (c : After-steps_on-arg-1) → let g = c.args in
    (is_matrix g.s.now g.m g.n ≡ true) × (g.i + 4 ≤ g.m) × (g.i + 4 ≤ g.j) × (g.j < g.n)
has c = (sym c.is_matrix.ensures ∙ c.if-not-is_matrix.false, omega arith, omega arith, c.if-n-j.false)

pub returns-then-not-is_matrix : goal.returns-then-not-is_matrix
returns-then-not-is_matrix c = on_none _ _ _ _ (sym c.is_matrix.ensures ∙ c.if-not-is_matrix.true)

pub returns-then-n-j : goal.returns-then-n-j
returns-then-n-j c = on_done _ _ _ _ _ (sym c.is_matrix.ensures ∙ c.if-not-is_matrix.false) refl (none_on _ _ _ _ _ c.if-n-j.true)

pub returns-then-most-lt4 : goal.returns-then-most-lt4
returns-then-most-lt4 c = on_done _ _ _ _ _ (sym c.is_matrix.ensures ∙ c.if-not-is_matrix.false) refl (not_on _ _ _ _ _ (λ a. omega arith))

pub returns-then-most-i : goal.returns-then-most-i
returns-then-most-i c = on_done _ _ _ _ _ (sym c.is_matrix.ensures ∙ c.if-not-is_matrix.false) refl (not_on _ _ _ _ _ (λ a. omega arith))

pub steps_on-requires : goal.steps_on-requires
steps_on-requires c = has c

pub returns : goal.returns
returns c =
    let h = has (goal.at.returns c).After-steps_on-arg-1 in
    on_done _ _ _ _ _ h.0 c.steps_on.auto.s (c.steps_on.ensures ∙ sym (on_is _ _ _ _ _ h.1 h.2))
