-- The updates that are left from column i on give the whole. Assumes nothing.
use mathlib.Core.Path.{sym, ◌∙◌}
use native.Mathlib.Omega.{arith}
use Rattle.numbers.proofs.Each.{turns_next, turns_done}
use Rattle.store.proofs.Columns.{same_matrix}
use Rattle.updates.specs.Updates.{updated_at}
use Rattle.updates.proofs.update_each.Goals as goal

pub update_by-requires : goal.update_by-requires
update_by-requires c = (same_matrix _ _ _ _ c.loop-i.auto.s ∙ c.requires.0, omega arith, c.requires.3, omega arith)

pub loop-i-preserved : goal.loop-i-preserved
loop-i-preserved c = turns_next (updated_at c.args.j) _ _ _ _ c.loop-i-test.true c.update_by.ensures ∙ c.loop-i.invariant

pub returns : goal.returns
returns c = sym (turns_done (updated_at c.args.j) _ _ _ c.loop-i-test.false) ∙ c.loop-i.invariant
