-- What is left to write from row k on is `each_from` from k on, with the entries of src. Assumes nothing.
use mathlib.Core.Path.{◌≡◌}
use Rattle.numbers.specs.Each.{each_from}
use Rattle.numbers.specs.Column.{entry}
use Rattle.blas.proofs.copy.Given as goal

abbrev pub invariant-loop-k : goal.invariant-loop-k
invariant-loop-k l = each_from (λ i v. entry l.src i) l.k l.dst ≡ l.src
