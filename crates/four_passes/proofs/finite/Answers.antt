-- One by one. Assumes nothing.
use mathlib.Core.Path.{ap₂, ◌∙◌}
use mathlib.Core.Bool.{◌&&◌}
use Rattle.four_passes.proofs.Tests.{four_finite}
use Rattle.four_passes.proofs.finite.Goals as goal

pub returns : goal.returns
returns c =
    let a = c.args.c in
    ap₂ ◌&&◌ c.is_finite.ensures (ap₂ ◌&&◌ c.is_finite-2.ensures (ap₂ ◌&&◌ c.is_finite-3.ensures c.is_finite-4.ensures))
    ∙ four_finite a.0 a.1 a.2 a.3
