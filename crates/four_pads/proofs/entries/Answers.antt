-- A list of four, entry by entry. Assumes nothing.
use borrow.Kind.Array.{e_float, good_length}
use lib.Ieee.{nan, binary64}
use Rattle.numbers.specs.Each.{list_of}
use Rattle.four_by_four.proofs.Cases.{named}
use Rattle.four_pads.proofs.entries.Goals as goal

pub returns : goal.returns
unfolding list_of
returns c = named nan 4 c.args.c (good_length (e_float binary64) 4 c.args.c _ c.well_formed.0)
