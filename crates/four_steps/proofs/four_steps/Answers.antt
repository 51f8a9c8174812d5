-- The columns that are left from column j on give the whole (`onward_turn`); the four columns stay. Assumes nothing.
use Prim.Native.Nat.{◌+◌, ◌≤◌}
use mathlib.Core.Path.{◌≡◌, refl, sym, ◌∙◌}
use mathlib.Core.Bool.{true}
use native.Mathlib.Omega.{arith}
use Rattle.store.specs.Columns.{is_matrix}
use Rattle.store.proofs.Columns.{sized, same_matrix, column_stop, on_none, on_done}
use Rattle.four_steps.proofs.Within.{onward_turn, stepped_is, not_stepped}
use Rattle.four_steps.proofs.four_steps.Goals.{Else-most-i}
use Rattle.four_steps.proofs.four_steps.Goals as goal

-- past the tests: the slice is a matrix, row i + 3 is there, and the four columns lie left of column `from`
has : (c : Else-most-i) → let g = c.args in
    (is_matrix g.s.now g.m g.n ≡ true) × (g.i + 4 ≤ g.m) × (g.i + 4 ≤ g.from) × (g.n ≤ 64)
has c =
    let fits = sym c.is_matrix.ensures ∙ c.if-not-is_matrix.false in
    (fits, omega arith, omega arith, (sized _ _ _ fits).columns_most)

pub returns-then-not-is_matrix : goal.returns-then-not-is_matrix
returns-then-not-is_matrix c = on_none _ _ _ _ (sym c.is_matrix.ensures ∙ c.if-not-is_matrix.true)

pub returns-then-most-lt4 : goal.returns-then-most-lt4
returns-then-most-lt4 c =
    on_done _ _ _ _ _ (sym c.is_matrix.ensures ∙ c.if-not-is_matrix.false) refl
    (not_stepped _ _ _ _ _ (λ a. omega arith))

pub returns-then-most-i : goal.returns-then-most-i
returns-then-most-i c =
    on_done _ _ _ _ _ (sym c.is_matrix.ensures ∙ c.if-not-is_matrix.false) refl
    (not_stepped _ _ _ _ _ (λ a. omega arith))

pub loop-j-init : goal.loop-j-init
loop-j-init c = (refl, omega (arith, has c), λ k h. refl, refl)

pub steps_from-j-requires : goal.steps_from-j-requires
steps_from-j-requires c =
    let h = has (goal.at.steps_from-j-requires c).Else-most-i in
    (same_matrix _ _ _ _ c.loop-j.invariant.0 ∙ h.0, h.1, c.loop-j.invariant.1, c.loop-j-test.true)

pub loop-j-preserved : goal.loop-j-preserved
loop-j-preserved c =
    let on = c.steps_from-j.ensures.1 in (
      c.steps_from-j.auto.s ∙ c.loop-j.invariant.0,
      omega (arith, c.steps_from-j.ensures.0),
      λ q h. c.steps_from-j.ensures.1.kept q h
          ∙ c.loop-j.invariant.2 q h,
      onward_turn _ _ _ _ _ _ on c.loop-j.invariant.2 ∙ c.loop-j.invariant.3,
    )

pub returns : goal.returns
returns c =
    let h = has (goal.at.returns c).Else-most-i in
    on_done _ _ _ _ _ h.0 c.loop-j.invariant.0 (sym (column_stop _ _ _ _ _ c.loop-j-test.false) ∙ c.loop-j.invariant.3 ∙ sym (stepped_is _ _ _ _ _ h.1 h.2))

pub loop-j-smaller : goal.loop-j-smaller
loop-j-smaller c = omega (arith, c.steps_from-j.ensures.0)
