-- Each count at its place. Assumes nothing.
use Rattle.std.proofs.Common.{refl}
use Rattle.numbers.specs.Each.{list_of}
use Rattle.season.specs.Season.{season_from}
use Rattle.season.proofs.Season.from_counts.Goals as goal

pub returns : goal.returns
unfolding season_from list_of
returns c = refl
