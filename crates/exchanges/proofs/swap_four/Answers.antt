-- The four exchanges one after the other. Assumes nothing.
use Rattle.exchanges.specs.Permute.{permuted_by}
use Rattle.exchanges.proofs.swap_four.Goals as goal

pub returns : goal.returns
unfolding permuted_by
returns c = cc
