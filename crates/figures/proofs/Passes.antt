-- A match on the kind of solve that names the given diagonals alone: in its other arm no diagonal is given, and the matrix's own stands. By cases on the
-- kind of solve. Assumes nothing.
use mathlib.Core.Path.{◌≡◌, refl}
use Prim.Native.Nat.{ℕ}
use lib.Ieee.{Float}
use Rattle.triangular_passes.specs.declared.Pass.{Pass}
use Rattle.triangular_passes.specs.declared.Pass.TheVariants.{Lower, Upper, GivenDiagonal, CorrectedDiagonal}
use Rattle.triangular_passes.specs.declared.Pass.TheVariants.{TransposedLower, TransposedUpper, TransposedUnitLower}
use Rattle.triangular_passes.specs.Triangular.{given, turns_of}

pub own_stands : {A : Type 0} (pass : Pass) (f : Float → A) (own : A) →
    ((d : Float) → pass ≡ GivenDiagonal d → ⊥) → ((d : Float) → pass ≡ CorrectedDiagonal d → ⊥) → own ≡ given pass f own
own_stands Lower f own h k = refl
own_stands Upper f own h k = refl
own_stands (GivenDiagonal d) f own h k = absurd (h d refl)
own_stands TransposedLower f own h k = refl
own_stands TransposedUpper f own h k = refl
own_stands (CorrectedDiagonal d) f own h k = absurd (k d refl)
own_stands TransposedUnitLower f own h k = refl

-- and a match that names the undivided one alone: in its other arm every row has its turn
pub all_turns : (pass : Pass) (n : ℕ) → ((d : Float) → pass ≡ GivenDiagonal d → ⊥) → n ≡ turns_of pass n
all_turns Lower n h = refl
all_turns Upper n h = refl
all_turns (GivenDiagonal d) n h = absurd (h d refl)
all_turns TransposedLower n h = refl
all_turns TransposedUpper n h = refl
all_turns (CorrectedDiagonal d) n h = refl
all_turns TransposedUnitLower n h = refl
