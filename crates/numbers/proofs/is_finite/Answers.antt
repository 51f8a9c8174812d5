-- A number less itself is a number, and an infinity or a NaN less itself is none (`finite_test`). Assumes nothing.
use Rattle.numbers.proofs.FiniteTest.{finite_test}
use Rattle.numbers.proofs.is_finite.Goals as goal

pub returns : goal.returns
returns c = finite_test _
