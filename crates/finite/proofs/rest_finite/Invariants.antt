-- What is left to test from row k on gives the whole answer. Assumes nothing.
use mathlib.Core.Path.{◌≡◌}
use lib.ListN.{drop}
use Rattle.finite.specs.Finite.{all_finite}
use Rattle.finite.proofs.rest_finite.Given as goal

abbrev pub invariant-loop-k : goal.invariant-loop-k
invariant-loop-k l = all_finite (drop l.k l.s) ≡ all_finite (drop l.from l.s)
