-- The dead columns so far, and those from column j on, are all of them. Assumes nothing.
use mathlib.Core.Path.{sym, ◌∙◌}
use native.Mathlib.Omega.{arith}
use Rattle.dead_columns.specs.Dead.{dead_in, dead_of}
use Rattle.dead_columns.proofs.Dead.{walk_next, walk_end, held_dead}
use Rattle.dead_columns.proofs.dead_of.Goals as goal

pub returns-then-not-is_matrix : goal.returns-then-not-is_matrix
unfolding dead_of
returns-then-not-is_matrix c = rw (sym c.is_matrix.ensures ∙ c.if-not-is_matrix.true)

pub loop-j-init : goal.loop-j-init
unfolding dead_in
loop-j-init c = (omega arith, omega arith)

pub loop-j-preserved : goal.loop-j-preserved
loop-j-preserved c =
    let g = c.args in
    let next = walk_next g.m g.n g.s.now c.loop-j.j (omega arith) in
    (omega arith, omega (arith, next, c.zero_count-dead.ensures.0))

pub returns : goal.returns
returns c =
    let g = c.args in
    let end = walk_end g.m g.n g.s.now c.loop-j.j (omega arith) in
    omega (arith, end, held_dead g.m g.n g.s.now (sym c.is_matrix.ensures ∙ c.if-not-is_matrix.false))
