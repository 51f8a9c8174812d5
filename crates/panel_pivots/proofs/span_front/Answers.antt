-- The factors and their diagonal lie in front of their stores. Assumes nothing.
use native.Mathlib.Omega.{arith}
use Rattle.panel_file.proofs.Reading.{square}
use Rattle.panel_pivots.proofs.span_front.Goals as goal

pub overflow_mul-entries : goal.overflow_mul-entries
overflow_mul-entries c = omega (arith, square c.args.n 64 c.requires)
