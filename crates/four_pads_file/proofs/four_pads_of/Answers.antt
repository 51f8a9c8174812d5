-- Read and worked out, or refused. Assumes nothing.
use mathlib.Core.Path.{◌∙◌}
use Rattle.four_pads_file.proofs.General.{refused_end, loaded_end}
use Rattle.four_pads_file.proofs.four_pads_of.Goals as goal

pub returns-then-read-ne0 : goal.returns-then-read-ne0
returns-then-read-ne0 c =
    c.refused.ensures
    ∙ refused_end c.args.file.now c.numbers_of-read.result c.numbers_of-read.ensures c.if-read-ne0.true

pub returns : goal.returns
returns c =
    c.four_pads.ensures
    ∙ loaded_end c.args.file.now c.numbers_of-read.result c.numbers_of-read.ensures c.if-read-ne0.false _
    c.by_columns.ensures
