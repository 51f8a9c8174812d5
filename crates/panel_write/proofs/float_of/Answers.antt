-- The bits that are a NaN's are those above an infinity's, without the sign. Assumes nothing.
use Rattle.panel_write.proofs.Floats.{nan_read, number_read}
use Rattle.panel_write.proofs.float_of.Goals as goal

pub returns-then-bits-gt9218868437227405312 : goal.returns-then-bits-gt9218868437227405312
returns-then-bits-gt9218868437227405312 c = nan_read _ c.if-bits-gt9218868437227405312.true

pub float_from_bits-result : goal.float_from_bits-result
float_from_bits-result c = number_read _ c.if-bits-gt9218868437227405312.false
