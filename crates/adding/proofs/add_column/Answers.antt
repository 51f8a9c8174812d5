-- Refused by its tests: by the law of a refused call (`Adds`). Assumes nothing.
use Rattle.adding.proofs.Adds.{refused_by}
use Rattle.adding.proofs.add_column.Goals as goal

pub returns-in-Err : goal.returns-in-Err
returns-in-Err c =
    let p = refused_by _ _ _ _ _ (rw c.in-Err.is at c.test_adding.ensures) in
    record { result_value = p.answer; record_value = p.told; s_after = p.factors; swaps_after = p.pairs }
