-- Each count at its place. Assumes nothing.
use Rattle.std.proofs.Common.{refl}
use Rattle.numbers.specs.Each.{list_of}
use Rattle.season.specs.Season.{counts_of}
use Rattle.season.proofs.Season.counts.Goals as goal

pub returns : goal.returns
unfolding counts_of list_of
returns c = refl
