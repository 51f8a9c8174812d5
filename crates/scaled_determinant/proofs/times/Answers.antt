-- The product of the significands, and the sum of the exponents, which an i32 holds (`times_made`). Assumes nothing.
use mathlib.Core.Path.{◌∙◌}
use denote.Floats.{passes}
use lib.Dec.{T}
use lib.Ieee.{binary64, fits}
use Rattle.scaled_determinant.proofs.OneWay.{Fine}
use Rattle.scaled_determinant.proofs.Parts.{parted_fine}
use Rattle.scaled_determinant.proofs.Steps.{sum_held, sum_room, times_made}
use Rattle.scaled_determinant.proofs.times.Goals.{Start}
use Rattle.scaled_determinant.proofs.times.Goals as goal

-- x is a double, finite and not zero
double : (c : Start) → T (fits binary64 c.args.x)
double c = passes _ c.well_formed.1.0.1

fine : (c : Start) → Fine c.args.x
fine c = parted_fine c.args.x c.requires.0

pub overflow_add-r : goal.overflow_add-r
overflow_add-r c =
    sum_held c.args.r c.args.x (double (goal.at.overflow_add-r c).Start) (fine (goal.at.overflow_add-r c).Start) c.requires.1 c.parts_of-parts.result
    c.parts_of-parts.ensures

pub halved_at_two-requires : goal.halved_at_two-requires
halved_at_two-requires c =
    sum_room c.args.r c.args.x (double (goal.at.halved_at_two-requires c).Start) (fine (goal.at.halved_at_two-requires c).Start) c.requires.1
    c.parts_of-parts.result c.parts_of-parts.ensures

pub returns : goal.returns
returns c =
    c.halved_at_two.ensures ∙ times_made c.args.r c.args.x (double (goal.at.returns c).Start) (fine (goal.at.returns c).Start) c.requires.1
    c.parts_of-parts.result c.parts_of-parts.ensures
