-- The three tests in turn; a product of two numbers up to 64 does not wrap. Assumes nothing.
use native.Mathlib.Nat.{mul-le-mul}
use native.Mathlib.Omega.{arith}
use borrow.Author.Tests.{le-leb, lt-leb}
use Rattle.store.specs.Columns.{is_matrix}
use Rattle.store.proofs.is_matrix.Goals as goal

pub returns-then-m-gt64 : goal.returns-then-m-gt64
unfolding is_matrix
returns-then-m-gt64 c = rw (lt-leb _ _ c.if-m-gt64.true)

pub returns-then-n-gt64 : goal.returns-then-n-gt64
unfolding is_matrix
returns-then-n-gt64 c = rw (le-leb _ _ c.if-m-gt64.false, lt-leb _ _ c.if-n-gt64.true)

pub overflow_mul-result : goal.overflow_mul-result
overflow_mul-result c = record { fits = omega (arith, mul-le-mul c.if-n-gt64.false c.if-m-gt64.false) }

pub returns : goal.returns
unfolding is_matrix
returns c = rw (le-leb _ _ c.if-m-gt64.false, le-leb _ _ c.if-n-gt64.false)
