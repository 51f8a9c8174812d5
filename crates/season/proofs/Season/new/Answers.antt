-- No file, no count. Assumes nothing.
use Rattle.std.proofs.Common.{refl}
use Rattle.numbers.specs.Each.{list_of}
use Rattle.season.specs.Season.{how_many, total, season_of}
use Rattle.season.proofs.Season.new.Goals as goal

pub returns : goal.returns
unfolding season_of how_many total list_of
returns c = refl
