-- The refusal, or the profile of what was read, told. Assumes nothing.
use mathlib.Core.Path.{◌∙◌}
use Rattle.four_pads_file.proofs.General.{refused_end, loaded_end}
use Rattle.ffi.proofs.four.wejdarox_four_pads_of.Goals as goal

pub returns-then-read-ne0 : goal.returns-then-read-ne0
returns-then-read-ne0 c =
    c.tell_profile.ensures ∙ c.refused.ensures
    ∙ refused_end c.args.file.now c.numbers_of-read.result c.numbers_of-read.ensures c.if-read-ne0.true

pub returns : goal.returns
returns c =
    c.tell_crossing.ensures
    ∙ loaded_end c.args.file.now c.numbers_of-read.result c.numbers_of-read.ensures c.if-read-ne0.false _
    c.by_columns-matrix.ensures
