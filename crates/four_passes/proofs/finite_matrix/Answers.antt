-- Eight products. Assumes nothing.
use Rattle.four_passes.proofs.Tests.{sixteen_tell}
use Rattle.four_passes.proofs.finite_matrix.Goals as goal

pub returns : goal.returns
returns c = sixteen_tell c.args.s
