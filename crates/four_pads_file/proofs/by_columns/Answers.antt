-- The entries by name, four and four. Assumes nothing.
use borrow.Kind.Array.{e_float, good_length}
use lib.Ieee.{nan, binary64}
use Rattle.numbers.specs.Each.{list_of}
use Rattle.store.specs.Columns.{flat}
use Rattle.four_by_four.proofs.Cases.{named}
use Rattle.four_pads_file.proofs.by_columns.Goals as goal

pub returns : goal.returns
unfolding flat list_of
returns c = named nan 16 c.args.a (good_length (e_float binary64) 16 c.args.a _ c.well_formed.0)
