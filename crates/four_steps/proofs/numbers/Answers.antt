-- Row by row, by its number. Assumes nothing.
use native.Mathlib.Omega.{arith}
use Rattle.four_steps.proofs.Places.{four_read}
use Rattle.four_steps.proofs.numbers.Goals as goal

pub returns : goal.returns
returns c =
    four_read _ _ _ _ _ _ _ _ _ c.number-first.ensures c.number-second.ensures c.number-third.ensures c.number-fourth.ensures

pub number-first-requires : goal.number-first-requires
number-first-requires c = let h = c.requires in (h.0, h.1, h.2, omega (arith, h.3))

pub number-second-requires : goal.number-second-requires
number-second-requires c = let h = c.requires in (h.0, h.1, h.2, omega (arith, h.3))

pub number-third-requires : goal.number-third-requires
number-third-requires c = let h = c.requires in (h.0, h.1, h.2, omega (arith, h.3))

pub number-fourth-requires : goal.number-fourth-requires
number-fourth-requires c = let h = c.requires in (h.0, h.1, h.2, omega (arith, h.3))
