-- Wrong programs for the two calls of four pads, as for the other exports: one that leaves the number of pairs as it was where it is refused, and for a file
-- all that always give the same; for a matrix figures/proofs/WrongFourPads has those, of the same meaning. At a number that is not finite, at no file and at a
-- head of one pad. Assumes nothing.
use mathlib.Core.Path.{ap}
use mathlib.Core.Bool.{cond}
use mathlib.Core.List.{List, [], ◌∷◌}
use Prim.Native.Nat.{ℕ}
use native.Mathlib.Omega.{arith}
use lib.Dec.{eqb}
use lib.ListN.{replicate}
use lib.Ieee.{nan}
use Rattle.numbers.specs.Column.{Column, zeros}
use Rattle.finite.specs.Finite.{all_finite}
use Rattle.store.specs.Columns.{flat}
use Rattle.store.specs.Steps.{Matrix}
use Rattle.refusals.specs.Outcome.{first_holding, tested}
use Rattle.refusals.proofs.Strength.{OneOutcome, one_outcome, ShutsOut, shut_out, TwoShutOut, two}
use Rattle.panel_file.specs.File.{little_endian, field_at, headed}
use Rattle.four_pads.specs.declared.FourPads.{FourPads}
use Rattle.four_pads.specs.Profile.{profile_of, four_of, four_pads}
use Rattle.four_pads_file.specs.FileProfile.{four_pads_in}
use Rattle.ffi.specs.Profiles.{profile}

-- a name for all that has to unfold for a call to be refused
Refuses : Type 0
unfolding all_finite flat first_holding tested little_endian field_at headed profile_of four_of four_pads_in
Refuses = Unit {0}

-- the number of pairs as it was, where the call is refused
abbrev pairs_kept : FourPads → ℕ → FourPads
pairs_kept r was = profile r.number r.factors (cond (eqb r.number 0) r.pairs was) r.swaps r.loads

-- a matrix and readings, and the pairs before
abbrev tells : Matrix × (Column × ℕ) → FourPads
tells x = four_pads x.0 x.1.0

pub wejdarox_four_pads : OneOutcome tells × ShutsOut tells (λ x. pairs_kept (tells x) x.1.1)
unfolding Refuses
wejdarox_four_pads = (
  one_outcome tells,
  shut_out tells (λ x. pairs_kept (tells x) x.1.1) (replicate 4 (nan ∷ zeros 3), (zeros 4, 1)) (λ d. omega (arith, ap (λ (p : FourPads). p.pairs) d)),
)

-- a file, and the pairs before
abbrev tells_of : List ℕ × ℕ → FourPads
tells_of x = four_pads_in x.0

abbrev one_pad : List ℕ
one_pad = 76 ∷ 88 ∷ 80 ∷ 1 ∷ 0 ∷ 1 ∷ []

pub wejdarox_four_pads_of : TwoShutOut tells_of (λ x. pairs_kept (tells_of x) x.1)
unfolding Refuses
wejdarox_four_pads_of =
    two tells_of (λ x. pairs_kept (tells_of x) x.1) ([], 1) ([], 1) (one_pad, 1) (λ d. omega (arith, ap (λ (p : FourPads). p.pairs) d))
    (λ d. omega (arith, ap (λ (p : FourPads). p.number) d))
