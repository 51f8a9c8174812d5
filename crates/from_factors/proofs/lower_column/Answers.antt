-- A copy, zeros above row j, and a one in it. Assumes nothing.
use native.Mathlib.Omega.{arith}
use lib.ListN.{length-take, length-drop, length-append, length-set}
use Rattle.from_factors.proofs.Written.{lower_written}
use Rattle.from_factors.proofs.lower_column.Goals as goal

pub slice_bounds-fill_zero-end-2 : goal.slice_bounds-fill_zero-end-2
slice_bounds-fill_zero-end-2 c = simp length-take (omega (arith, c.copy.auto.dst))

pub bounds-dst-j : goal.bounds-dst-j
bounds-dst-j c = simp (length-append, length-drop) (omega (arith, c.copy.auto.dst, simp length-take at c.fill_zero.auto.s))

pub shape_of-dst : goal.shape_of-dst
shape_of-dst c = simp (length-append, length-drop, length-set) (omega (arith, c.copy.auto.dst, simp length-take at c.fill_zero.auto.s))

pub returns : goal.returns
returns c = lower_written _ _ _ _ _ c.requires.0 c.requires.1 c.copy.ensures c.fill_zero.ensures
