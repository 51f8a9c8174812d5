-- Each answer by the tests that led there. Assumes nothing.
use Rattle.std.proofs.Common.{refl, arith}
use Rattle.panel_write.proofs.FirstLine.{head_short, head_one, head_two, head_none, two_good, two_no_ones, two_no_tens}
use Rattle.panel_write.proofs.head_of.Goals as goal

pub returns-then-text-lt3 : goal.returns-then-text-lt3
returns-then-text-lt3 c = rw (head_short _ c.if-text-lt3.true) refl

pub returns-in_err-pads : goal.returns-in_err-pads
returns-in_err-pads c =
    rw (c.from_residual.ensures, head_one _ c.if-text-lt3.false c.if-text-eq10.true) (two_no_ones 0 _ c.in_err-pads.ensures)

pub returns-then-text-eq10 : goal.returns-then-text-eq10
returns-then-text-eq10 c =
    let e = c.in_ok-pads.ensures in
    rw (head_one _ c.if-text-lt3.false c.if-text-eq10.true) (omega (arith, e.1, two_good 0 _ (omega arith) e.0), refl, omega arith)

pub returns-in_err-decimal : goal.returns-in_err-decimal
returns-in_err-decimal c =
    rw (c.from_residual-in_err-decimal.ensures, head_two _ c.if-text-lt3.false c.if-text-eq10.false c.if-text-eq10-2.true)
    (two_no_tens _ _ c.in_err-decimal.ensures)

pub returns-in_err-pads-2 : goal.returns-in_err-pads-2
returns-in_err-pads-2 c =
    rw (c.from_residual-in_err-pads-2.ensures, head_two _ c.if-text-lt3.false c.if-text-eq10.false c.if-text-eq10-2.true)
    (two_no_ones _ _ c.in_err-pads-2.ensures)

pub returns-then-text-eq10-2 : goal.returns-then-text-eq10-2
returns-then-text-eq10-2 c =
    let t = c.in_ok-decimal.ensures in
    let o = c.in_ok-pads-2.ensures in
    rw (head_two _ c.if-text-lt3.false c.if-text-eq10.false c.if-text-eq10-2.true, two_good _ _ t.0 o.0) (omega (arith, t.1, o.1), refl, omega arith)

pub returns : goal.returns
returns c = rw (head_none _ c.if-text-lt3.false c.if-text-eq10.false c.if-text-eq10-2.false) refl
