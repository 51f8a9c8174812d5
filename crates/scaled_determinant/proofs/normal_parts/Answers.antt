-- The bits with another field, and the field less 1023, are the parts (`normal_read`). Assumes nothing.
use denote.Floats.{passes}
use lib.Dec.{T}
use lib.Ieee.{binary64, fits, to_bits}
use Rattle.scaled_determinant.proofs.OneWay.{Fine}
use Rattle.scaled_determinant.proofs.Parts.{parted_fine}
use Rattle.scaled_determinant.proofs.Pattern.{bits_lt, at_one_fits, at_one_number, fine_number}
use Rattle.scaled_determinant.proofs.Steps.{normal_held, normal_read}
use Rattle.scaled_determinant.proofs.normal_parts.Goals.{Start}
use Rattle.scaled_determinant.proofs.normal_parts.Goals as goal

-- x is a double, finite and not zero
double : (c : Start) → T (fits binary64 c.args.x)
double c = passes _ c.well_formed.0.1

fine : (c : Start) → Fine c.args.x
fine c = parted_fine c.args.x c.requires.0

pub float_to_bits-bits : goal.float_to_bits-bits
float_to_bits-bits c = fine_number c.args.x (fine c)

pub overflow_add-s : goal.overflow_add-s
overflow_add-s c = record { fits = at_one_fits (to_bits binary64 c.args.x) (bits_lt c.args.x (double c)) }

pub float_from_bits-s : goal.float_from_bits-s
float_from_bits-s c = at_one_number (to_bits binary64 c.args.x) (bits_lt c.args.x (double c))

pub overflow_sub-result : goal.overflow_sub-result
overflow_sub-result c = normal_held c.args.x (double c) (fine c) c.requires.1

pub returns : goal.returns
returns c = normal_read c.args.x (double c) (fine c) c.requires.1
