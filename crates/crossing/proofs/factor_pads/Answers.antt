-- What factoring in place ensures (`factored_call`). Assumes nothing.
use Rattle.crossing.proofs.Below.{factored_call}
use Rattle.crossing.proofs.factor_pads.Goals as goal

pub returns : goal.returns
returns c =
    let h = c.requires in
    let made = c.factor_mut.ensures in
    let whole = factored_call _ _ (record { least = h.0; most = h.1; size = h.2; finite = h.3 }) _ h.4 _ _ _
    (made.result_value, (made.s_after, made.swaps_after)) in
    record { result_value = whole.0; a_after = whole.1.0; swaps_after = whole.1.1 }
