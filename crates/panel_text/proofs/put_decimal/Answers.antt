-- One digit, or two. Assumes nothing.
use native.Mathlib.Omega.{arith}
use lib.ListN.{length-set}
use Rattle.panel_text.proofs.Writing.{decimal_one, decimal_two}
use Rattle.panel_text.proofs.put_decimal.Goals as goal

pub returns-then-n-lt10 : goal.returns-then-n-lt10
returns-then-n-lt10 c = let whole = decimal_one _ _ _ c.if-n-lt10.true (omega arith) in record { value = whole.0; out_after = whole.1 }

pub bounds-out-at-3 : goal.bounds-out-at-3
bounds-out-at-3 c = simp length-set (omega arith)

pub returns : goal.returns
returns c = let whole = decimal_two _ _ _ c.if-n-lt10.false c.requires.1 in record { value = whole.0; out_after = whole.1 }
