-- What is left to do from row k on is the same change of each entry from k on. Assumes nothing.
use Prim.Native.Nat.{ℕ}
use mathlib.Core.Path.{◌≡◌}
use lib.Ieee.{Float, add, mul, binary64}
use Rattle.numbers.specs.Each.{each_from}
use Rattle.numbers.specs.Column.{Column, entry}
use Rattle.blas.proofs.axpy.Given as goal

-- what becomes of entry k
abbrev pub changed : Float → Column → ℕ → Float → Float
changed a x k v = add binary64 (mul binary64 a (entry x k)) v

abbrev pub invariant-loop-k : goal.invariant-loop-k
invariant-loop-k l = each_from (changed l.a l.x) l.k l.y ≡ each_from (changed l.a l.x) l.from l.initial.y
