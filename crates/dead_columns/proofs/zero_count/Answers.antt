-- By the test and its number. Assumes nothing.
use Rattle.std.proofs.Common.{◌≡◌, ◌≤◌, Bool, true, false, cond, refl, arith}
use Rattle.std.specs.Int.{from_bool}
use Rattle.dead_columns.specs.Dead.{zero_count}
use Rattle.dead_columns.proofs.zero_count.Goals as goal

as_number : (b : Bool) → (from_bool b ≡ cond b 1 0) × (from_bool b ≤ 1)
as_number true = (refl, omega arith)
as_number false = (refl, omega arith)

pub returns : goal.returns
unfolding zero_count
returns c = rw (c.from.ensures, c.is_zero.ensures) (as_number _)
