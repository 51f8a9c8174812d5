-- One test more taken off the front of those left: it holds and is answered, or the rest decide. Assumes nothing.
use mathlib.Core.Path.{◌≡◌, sym, ap, ◌∙◌}
use mathlib.Core.Bool.{Bool, true, false}
use mathlib.Core.List.{List}
use Prim.Native.Nat.{ℕ, ◌+◌, ◌<◌}
use lib.ListN.{length, get_or, drop, drop_of_length-le}
use Rattle.numbers.proofs.Walk.{drop_next}
use Rattle.refusals.specs.declared.Refusal.{Refusal}
use Rattle.refusals.specs.declared.Refusal.TheVariants.{Size}
use Rattle.refusals.specs.Outcome.{number, first_holding, numbered}
use Rattle.refusals.proofs.first_of.Goals as goal

-- a place to read at that is no test
abbrev none : Refusal × Bool
none = (Size, false)

module _ (tests : List (Refusal × Bool)) (k : ℕ) (within : k < length tests) where
  holding : (get_or tests k none).1 ≡ true → first_holding (numbered (drop k tests)) ≡ number (get_or tests k none).0
  unfolding first_holding
  holding e = rw (drop_next tests k none within, e)

  passed : (get_or tests k none).1 ≡ false → first_holding (numbered (drop (k + 1) tests)) ≡ first_holding (numbered (drop k tests))
  unfolding first_holding
  passed e = rw (drop_next tests k none within, e)

pub returns-then-holds : goal.returns-then-holds
returns-then-holds c = sym (holding _ _ c.loop-refusal-test.true c.if-holds.true) ∙ c.loop-refusal.invariant

pub loop-refusal-preserved : goal.loop-refusal-preserved
loop-refusal-preserved c = passed _ _ c.loop-refusal-test.true c.if-holds.false ∙ c.loop-refusal.invariant

pub returns : goal.returns
unfolding first_holding
returns c = sym (ap (λ ts. first_holding (numbered ts)) (drop_of_length-le _ c.loop-refusal-test.false)) ∙ c.loop-refusal.invariant
