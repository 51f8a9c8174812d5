-- By the exponent's field (`bits_finite`). Assumes nothing.
use Rattle.panel_file.proofs.Bits.{bits_finite}
use Rattle.panel_file.proofs.is_finite_bits.Goals as goal

pub returns : goal.returns
returns c = bits_finite _
