-- Refused, the record stays (`told_refused`). Assumes nothing.
use mathlib.Core.Path.{◌≡◌, sym, ap}
use Rattle.factors.specs.declared.Record.{Record}
use Rattle.factors.specs.Factors.{record_of, record_after}
use Rattle.lu.proofs.Told.{told_refused}
use Rattle.adding.specs.Adding.{adding, adding_answer}
use Rattle.ffi.proofs.wejdarox_add_column.Goals.{In-Err}
use Rattle.ffi.proofs.wejdarox_add_column.Goals as goal

same : (c : In-Err) → let g = c.args in let r = record_of g.m g.n g.pairs.now g.dead.now in
    r ≡ record_after r (adding g.factors.now g.column.now g.swaps.now r).answer
unfolding adding_answer record_after
same c = sym (ap (record_after _) (told_refused _ _ _ c.in-Err.ensures.result_value))

pub returns-in-Err-clause-pairs_after : goal.returns-in-Err-clause-pairs_after
returns-in-Err-clause-pairs_after c = ap (λ (r : Record). r.pairs) (same (goal.at.returns-in-Err-clause-pairs_after c).In-Err)

pub returns-in-Err-clause-dead_after : goal.returns-in-Err-clause-dead_after
returns-in-Err-clause-dead_after c = ap (λ (r : Record). r.dead) (same (goal.at.returns-in-Err-clause-dead_after c).In-Err)
