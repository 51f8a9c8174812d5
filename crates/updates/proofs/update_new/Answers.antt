-- By the tests whether it is four steps and all were made: one by one, at once (`four_done_on`), or as one of a panel's columns (`panel_last`). Assumes
-- nothing.
use Prim.Native.Nat.{◌+◌, ◌-◌}
use mathlib.Core.Path.{◌≡◌, sym, ap, ◌∙◌}
use native.Mathlib.Omega.{arith}
use Rattle.numbers.specs.Each.{turns_from}
use Rattle.store.specs.Columns.{columns}
use Rattle.store.proofs.Columns.{sized, length_columns}
use Rattle.updates.specs.Updates.{updated_at}
use Rattle.updates.proofs.Updates.{four_done_on, panel_last}
use Rattle.updates.proofs.update_new.Goals as goal

pub overflow_add-all : goal.overflow_add-all
overflow_add-all c = omega (arith, (sized _ _ _ c.requires.0).columns_most)

pub returns-then-are_live : goal.returns-then-are_live
returns-then-are_live c =
    let g = c.args in
    let four : g.to - g.i ≡ 4 = c.if-to-i-ne4.false in
    let pre = c.requires in
    four_done_on _ _ _ _ _ pre.0 (omega (arith, pre.2, four)) (omega (arith, pre.3, four)) (omega arith) _
    (sym c.are_live.ensures ∙ c.if-are_live.true) c.four_steps_on.ensures
    ∙ ap (λ k. turns_from (updated_at g.n) g.i k (columns g.m (g.n + 1) g.s.now)) (sym four)

pub returns : goal.returns
returns c =
    let g = c.args in
    let pre = c.requires in
    c.update_right.ensures
    ∙ panel_last _ (g.to - g.i) _ (columns g.m (g.n + 1) g.s.now) (length_columns _ _ _) (omega (arith, pre.1, pre.3))
