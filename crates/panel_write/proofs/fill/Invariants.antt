-- What is left to write from line k on is `each_from` from k on, and the lines before it are lines. Assumes nothing.
use Prim.Native.Nat.{◌+◌}
use mathlib.Core.Path.{◌≡◌}
use lib.ListN.{length}
use Rattle.numbers.specs.Each.{each_from}
use Rattle.panel_write.specs.Text.{AreLines, number_in, numbers_in}
use Rattle.panel_write.proofs.fill.Given as goal

abbrev pub invariant-loop-k : goal.invariant-loop-k
invariant-loop-k l =
    (each_from (λ i v. number_in l.lines (l.from + i)) l.k l.numbers ≡ numbers_in l.lines l.from (length l.initial.numbers))
    × AreLines l.lines l.from l.k
