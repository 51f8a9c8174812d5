-- No pair, or the first number of the last one. Assumes nothing.
use mathlib.Core.Path.{sym}
use native.Mathlib.Omega.{arith}
use Rattle.removing.proofs.Undone.{undoes_empty, undoes_at}
use Rattle.removing.proofs.undoes_swap.Goals as goal

pub returns-then-pairs-eq0 : goal.returns-then-pairs-eq0
returns-then-pairs-eq0 c = sym (undoes_empty _ _ _ c.if-pairs-eq0.true)

pub returns : goal.returns
returns c = sym (undoes_at _ _ (omega arith) _)
