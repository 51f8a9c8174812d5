-- Each arm by the limits that led there. Assumes nothing.
use native.Mathlib.Omega.{arith}
use Rattle.panel_write.proofs.Digits.{digit_before, digit_figure, digit_between, digit_letter, digit_behind}
use Rattle.panel_write.proofs.digit.Goals as goal

pub returns-in-48-to-57 : goal.returns-in-48-to-57
returns-in-48-to-57 c = let e = digit_figure c.args.byte (omega arith) (omega arith) in (omega (arith, e), e)

pub returns-in-97-to-102 : goal.returns-in-97-to-102
returns-in-97-to-102 c = let e = digit_letter c.args.byte (omega arith) (omega arith) in (omega (arith, e), e)

pub returns-in_default : goal.returns-in_default
returns-in_default c = λ h. omega (arith, digit_before c.args.byte (omega arith))

pub returns-in_default-2 : goal.returns-in_default-2
returns-in_default-2 c = λ h. omega (arith, digit_between c.args.byte (omega arith) (omega arith))

pub returns-in_default-3 : goal.returns-in_default-3
returns-in_default-3 c = λ h. omega (arith, digit_behind c.args.byte (omega arith))
