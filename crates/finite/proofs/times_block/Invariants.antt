-- Each product takes the factor at its own place: what is left to do from place k on is `each_from` from k on. Assumes nothing.
use mathlib.Core.Path.{◌≡◌}
use Rattle.numbers.specs.Each.{each_from}
use Rattle.finite.proofs.Product.{by_entry}
use Rattle.finite.proofs.times_block.Given as goal

abbrev pub invariant-loop-k : goal.invariant-loop-k
invariant-loop-k l = each_from (by_entry l.x) l.k l.products ≡ each_from (by_entry l.x) 0 l.initial.products
