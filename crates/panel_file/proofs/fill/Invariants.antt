-- What is left to write from number k on is `each_from` from k on. Assumes nothing.
use Prim.Native.Nat.{◌+◌}
use mathlib.Core.Path.{◌≡◌}
use lib.ListN.{length}
use Rattle.numbers.specs.Each.{each_from, list_of}
use Rattle.panel_file.specs.File.{number_at}
use Rattle.panel_file.proofs.fill.Given as goal

abbrev pub invariant-loop-k : goal.invariant-loop-k
invariant-loop-k l =
    each_from (λ i v. number_at l.file (l.from + i)) l.k l.dst ≡ list_of (length l.initial.dst) (λ i. number_at l.file (l.from + i))
