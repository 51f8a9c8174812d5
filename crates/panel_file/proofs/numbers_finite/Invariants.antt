-- What is left to test from number k on gives the whole answer. Assumes nothing.
use mathlib.Core.Path.{◌≡◌}
use lib.ListN.{drop}
use Rattle.numbers.specs.Each.{list_of}
use Rattle.finite.specs.Finite.{all_finite}
use Rattle.panel_file.specs.File.{number_at}
use Rattle.panel_file.proofs.numbers_finite.Given as goal

abbrev pub invariant-loop-k : goal.invariant-loop-k
invariant-loop-k l = all_finite (drop l.k (list_of l.count (number_at l.file))) ≡ all_finite (list_of l.count (number_at l.file))
