-- The eight bytes, and the number that they stand for (`field_eight`). Assumes nothing.
use Rattle.std.proofs.Common.{ℕ, get_or, refl, ap, ◌∙◌, arith}
use Rattle.panel_file.proofs.Bits.{field_eight}
use Rattle.panel_file.proofs.bits_at.Goals as goal

pub returns : goal.returns
returns c =
    let s = c.args.file.now in
    let at = c.args.at in
    c.from_le_bytes.ensures
    ∙ omega (arith, field_eight s at (get_or s at 0) _ _ _ _ _ _ _ c.requires (ap (λ (k : ℕ). get_or s k 0) (omega arith)) refl refl refl refl refl refl refl)
