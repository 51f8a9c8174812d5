-- Eight bytes copied to their place are the bits there (`put_eight`). Assumes nothing.
use Rattle.std.proofs.Common.{◌∙◌}
use Rattle.panel_file_writer.proofs.Fields.{put_eight}
use Rattle.panel_file_writer.proofs.put_bits.Goals as goal

pub returns : goal.returns
returns c =
    put_eight c.args.at c.args.bits c.args.file.now _ (c.copy_from_slice.ensures.after ∙ c.to_le_bytes.ensures) c.ranges.bits.fits c.requires
