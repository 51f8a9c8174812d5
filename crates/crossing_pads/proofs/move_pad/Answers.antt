-- The unit column in front of a store of zeros. Assumes nothing.
use Prim.Native.Nat.{◌-◌}
use native.Mathlib.Omega.{arith}
use Rattle.crossing_pads.proofs.Ordering.{told_done, told_refused}
use Rattle.crossing_pads.proofs.Moving.{unit_front}
use Rattle.crossing_pads.proofs.move_pad.Goals as goal

pub returns-in_err-solve_front : goal.returns-in_err-solve_front
returns-in_err-solve_front c =
    let g = c.args in
    let front = unit_front g.told.rows (g.pad - 1) c.requires.2 (omega arith) in
    record {
      result_value = told_refused _ _ _ _ _ (rw front at c.in_err-solve_front.ensures.result_value) c.from_residual.ensures.1;
      out_after = rw (← front) c.solve_front.ensures.x_after;
    }

pub returns : goal.returns
returns c =
    let g = c.args in
    let front = unit_front g.told.rows (g.pad - 1) c.requires.2 (omega arith) in
    record {
      result_value = told_done _ _ _ (rw front at c.in_ok-solve_front.ensures.result_value);
      out_after = rw (← front) c.solve_front.ensures.x_after;
    }
