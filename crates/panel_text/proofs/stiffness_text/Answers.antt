-- The answer, then its text. Assumes nothing.
use Rattle.panel_text.proofs.Writing.{prints}
use Rattle.panel_text.proofs.Printed.{text_scaled, text_not_scaled}
use Rattle.panel_text.proofs.stiffness_text.Goals as goal

pub returns-in-Ok : goal.returns-in-Ok
returns-in-Ok c =
    let is = text_scaled _ _ c.stiffness-check.ensures.determinant_value _ c.in-Ok.is in
    let p = prints _ _ _ _ _ is c.put_scaled.ensures.value c.put_scaled.ensures.out_after in
    record { prefix_len = p.0; value = p.1.0; out_after = p.1.1 }

pub returns-in-Err : goal.returns-in-Err
returns-in-Err c =
    let is = text_not_scaled _ _ c.stiffness-check.ensures.determinant_value _ c.in-Err.is in
    let p = prints _ _ _ _ _ is c.put_refusal.ensures.value c.put_refusal.ensures.out_after in
    record { prefix_len = p.0; value = p.1.0; out_after = p.1.1 }
