-- A digit's value is less than 16, and any other byte's is 16 (`value_of`). Assumes nothing.
use Rattle.panel_write.proofs.Digits.{digit_most, value_of}
use Rattle.panel_write.proofs.value.Goals as goal

pub returns : goal.returns
returns c = rw c.unwrap_or.ensures (value_of _ _ c.digit.ensures (digit_most c.args.byte))
