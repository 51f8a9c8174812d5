-- What is left to add from row k on are the turns from k on. Assumes nothing.
use Prim.Native.Nat.{◌-◌}
use mathlib.Core.Path.{◌≡◌}
use lib.ListN.{length}
use Rattle.numbers.specs.Each.{turns_from}
use Rattle.blas.specs.Dot.{add_product}
use Rattle.blas.proofs.add_rest.Given as goal

abbrev pub invariant-loop-k : goal.invariant-loop-k
invariant-loop-k l = turns_from (add_product l.x l.y) l.k (length l.x - l.k) l.res ≡ turns_from (add_product l.x l.y) l.from (length l.x - l.from) l.t
