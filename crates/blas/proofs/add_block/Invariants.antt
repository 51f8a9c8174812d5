-- Each running sum takes the product at its own place: what is left to do from place k on is `each_from` from k on. Assumes nothing.
use mathlib.Core.Path.{◌≡◌}
use Rattle.numbers.specs.Each.{each_from}
use Rattle.blas.specs.Dot.{add_product}
use Rattle.blas.proofs.add_block.Given as goal

abbrev pub invariant-loop-k : goal.invariant-loop-k
invariant-loop-k l = each_from (add_product l.x l.y) l.k l.sums ≡ each_from (add_product l.x l.y) 0 l.initial.sums
