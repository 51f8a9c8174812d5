-- The diagonal from the top. Assumes nothing.
use mathlib.Core.Path.{ap₂, ◌∙◌}
use mathlib.Core.Bool.{◌||◌}
use Rattle.four_passes.proofs.Tests.{dead_told}
use Rattle.four_passes.proofs.is_dead.Goals as goal

pub returns : goal.returns
returns c =
    ap₂ ◌||◌ c.is_zero.ensures (ap₂ ◌||◌ c.is_zero-2.ensures (ap₂ ◌||◌ c.is_zero-3.ensures c.is_zero-4.ensures))
    ∙ dead_told c.args.s
