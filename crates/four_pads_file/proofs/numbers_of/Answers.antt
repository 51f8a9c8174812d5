-- Both arms tell what the reader answered. Assumes nothing.
use mathlib.Core.Path.{refl}
use Rattle.four_pads_file.proofs.General.{read_numbers}
use Rattle.four_pads_file.proofs.numbers_of.Goals as goal

pub returns-in-Ok : goal.returns-in-Ok
returns-in-Ok c = read_numbers c.args.file.now _ _ _ c.in-Ok.ensures.result_value c.read_sized.ensures.readings_after _ refl

pub returns-in-Err : goal.returns-in-Err
returns-in-Err c = read_numbers c.args.file.now _ _ _ c.in-Err.ensures.result_value c.read_sized.ensures.readings_after _ c.from.ensures
