-- What is left to copy from number i on is `each_from` from i on. Assumes nothing.
use Prim.Native.Nat.{◌+◌, ◌*◌}
use mathlib.Core.Path.{◌≡◌}
use lib.ListN.{length}
use Rattle.numbers.specs.Each.{each_from, list_of}
use Rattle.numbers.specs.Column.{entry}
use Rattle.panel_pivots.proofs.fill_diagonal.Given as goal

abbrev pub invariant-loop-i : goal.invariant-loop-i
invariant-loop-i l =
    each_from (λ k v. entry l.t (k * l.n + k)) l.i l.pivots ≡ list_of (length l.initial.pivots) (λ k. entry l.t (k * l.n + k))
