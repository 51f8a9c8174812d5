-- The raw column is copied to the slot, permuted there as a matrix of one column, and updated. Assumes nothing.
use mathlib.Core.Path.{◌∙◌}
use native.Mathlib.Omega.{arith}
use Rattle.store.proofs.Columns.{same_matrix}
use Rattle.updates.proofs.Updates.{last_columns}
use Rattle.adding.specs.Inner.{with_reduced}
use Rattle.adding.proofs.Slot.{reduced_made}
use Rattle.adding.proofs.reduce_column.Goals as goal

pub returns : goal.returns
unfolding with_reduced
returns c =
    reduced_made _ _ _ _ _ _ c.requires.n_value.0 c.requires.n_value.1 c.requires.n_value.2 _ _ _ c.copy.auto.dst c.copy.ensures
    c.apply_to_rows.auto.s c.apply_to_rows.ensures
    (last_columns _ _ _ _ (same_matrix _ _ c.args.s.now _ (omega arith) ∙ c.requires.n_value.0) c.update_last.ensures)
