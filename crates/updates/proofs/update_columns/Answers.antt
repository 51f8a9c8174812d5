-- By the tests, and what the updates give past them. Assumes nothing.
use mathlib.Core.Path.{◌≡◌, refl, sym, ◌∙◌}
use mathlib.Core.Bool.{true}
use mathlib.Core.Logic.{inl, inr}
use Prim.Native.Nat.{◌≤◌, min}
use native.Mathlib.Omega.{arith}
use Rattle.store.specs.Columns.{is_matrix}
use Rattle.store.proofs.Columns.{on_none, on_done}
use Rattle.updates.proofs.Updates.{not_updated, none_updated, updated_is}
use Rattle.updates.proofs.update_columns.Goals.{Else-not-is_matrix}
use Rattle.updates.proofs.update_columns.Goals as goal

-- the slice is a matrix
fits : (c : Else-not-is_matrix) → let g = c.args in is_matrix g.s.now g.m g.n ≡ true
fits c = sym c.is_matrix.ensures ∙ c.if-not-is_matrix.false

pub returns-then-not-is_matrix : goal.returns-then-not-is_matrix
returns-then-not-is_matrix c = on_none _ _ _ _ (sym c.is_matrix.ensures ∙ c.if-not-is_matrix.true)

pub returns-then-min-to : goal.returns-then-min-to
returns-then-min-to c =
    on_done _ _ _ _ _ (fits (goal.at.returns-then-min-to c).Else-not-is_matrix) refl (not_updated _ _ _ _ _ _ (omega (arith, c.min.ensures, c.if-min-to.true)))

pub returns-then-to-i : goal.returns-then-to-i
returns-then-to-i c =
    let left : let g = c.args in g.to ≤ min g.m g.from = omega (arith, c.min.ensures, c.if-min-to.false) in
    on_done _ _ _ _ _ (fits (goal.at.returns-then-to-i c).Else-not-is_matrix) refl (none_updated _ _ _ _ _ _ left (inl c.if-to-i.true))

pub returns-then-n-from : goal.returns-then-n-from
returns-then-n-from c =
    let left : let g = c.args in g.to ≤ min g.m g.from = omega (arith, c.min.ensures, c.if-min-to.false) in
    on_done _ _ _ _ _ (fits (goal.at.returns-then-n-from c).Else-not-is_matrix) refl (none_updated _ _ _ _ _ _ left (inr c.if-n-from.true))

pub update_right-requires : goal.update_right-requires
update_right-requires c =
    let left : let g = c.args in g.to ≤ min g.m g.from = omega (arith, c.min.ensures, c.if-min-to.false) in
    let h = left in
    (fits (goal.at.update_right-requires c).Else-not-is_matrix, c.if-to-i.false, omega (arith, h), omega (arith, h), c.if-n-from.false)

pub returns : goal.returns
returns c =
    let left : let g = c.args in g.to ≤ min g.m g.from = omega (arith, c.min.ensures, c.if-min-to.false) in
    on_done _ _ _ _ _ (fits (goal.at.returns c).Else-not-is_matrix) c.update_right.auto.s
    (c.update_right.ensures ∙ sym (updated_is _ _ _ _ _ _ left))
