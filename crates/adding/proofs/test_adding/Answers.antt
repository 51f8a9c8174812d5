-- The tests of held factors, made in place: with room for the new column the older ones are a matrix, and without it they are not looked at. Assumes nothing.
use mathlib.Core.Path.{sym}
use lib.Seq.{length-take-le}
use Rattle.refusals.specs.Outcome.{first_holding}
use Rattle.adding.proofs.Adds.{refusal_found}
use Rattle.adding.proofs.test_adding.Goals as goal

pub older-a-requires : goal.older-a-requires
older-a-requires c = c.has_room-room.ensures

pub slice_bounds-front-end : goal.slice_bounds-front-end
slice_bounds-front-end c = sym (length-take-le _ _ c.older-a.ensures.1)

pub returns : goal.returns
unfolding first_holding
returns c =
    refusal_found _ _ _ _ _ _ _ c.has_room-room.ensures c.older-a.ensures.0
    (rw (
      c.dead_of-dead.ensures,
      c.all_finite.ensures,
      c.all_finite_long.ensures,
      c.is_good_list-list.ensures,
      c.min.ensures,
      c.outside.ensures,
    ) at c.first_of.ensures)
