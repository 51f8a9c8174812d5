-- The columns that are left from column j on give the whole; those of the panel stay. Assumes nothing.
use Prim.Native.Nat.{◌+◌, ◌-◌, ◌≤◌}
use mathlib.Core.Path.{refl, sym, ◌∙◌}
use native.Mathlib.Omega.{arith}
use Rattle.store.specs.Columns.{columns}
use Rattle.store.proofs.Columns.{same_matrix, column_stop}
use Rattle.updates.specs.Updates.{after_panel}
use Rattle.updates.proofs.Updates.{panel_stays, panel_turn}
use Rattle.updates.proofs.update_columns_each.Goals as goal

pub loop-j-init : goal.loop-j-init
unfolding after_panel
loop-j-init c = (λ q h. refl, refl)

pub update_each-requires : goal.update_each-requires
update_each-requires c =
    (same_matrix _ _ _ _ c.loop-j.auto.s ∙ c.requires.0, c.requires.1, omega arith, c.loop-j-test.true, c.requires.2)

pub loop-j-preserved : goal.loop-j-preserved
loop-j-preserved c =
    let g = c.args in
    let hj = c.loop-j-test.true in
    let cs = columns g.m g.n g.s.now in
    let left : g.i + (g.to - g.i) ≤ c.loop-j.j = omega (arith, c.requires.1, c.requires.3) in (
      panel_stays _ _ _ _ _ _ _ cs left hj c.loop-j.invariant.0 c.update_each.ensures,
      panel_turn _ _ _ _ _ _ _ cs left hj c.loop-j.invariant.0 c.update_each.ensures ∙ c.loop-j.invariant.1,
    )

pub returns : goal.returns
returns c = sym (column_stop _ _ _ _ _ c.loop-j-test.false) ∙ c.loop-j.invariant.1
