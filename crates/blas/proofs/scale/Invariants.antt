-- What is left to scale from row k on is `scale_from` from k on. Assumes nothing.
use mathlib.Core.Path.{◌≡◌}
use Rattle.blas.specs.Blas.{scale_from}
use Rattle.blas.proofs.scale.Given as goal

abbrev pub invariant-loop-k : goal.invariant-loop-k
invariant-loop-k l = scale_from l.k l.r l.col ≡ scale_from l.from l.r l.initial.col
