-- Document 02, request 11: the four-pad profile. "On every input it gives the refusal number that the program's order gives, or else the factors, swaps and
-- loads of the general path; any refusal returns zeros."
use Rattle.std.specs.Prelude.{Bool, not, ◌&&◌, List, [], ◌∷◌, ℕ, take, replicate}
use Rattle.numbers.specs.Column.{Column, zeros}
use Rattle.finite.specs.Finite.{all_finite}
use Rattle.store.specs.Columns.{flat}
use Rattle.store.specs.Steps.{Matrix}
use Rattle.refusals.specs.Outcome.{Outcome, done, refused, first_holding, tested, and_then}
use Rattle.factors.specs.declared.Record.{Record}
use Rattle.lu.specs.Factoring.{factoring}
use Rattle.from_factors.specs.Solving.{solving}
use Rattle.four_pads.specs.declared.FourPads.{FourPads}

-- what the general path gives: the factors with their record and their swap store, and the loads
pub record Solution : Type 0 where
  pub told : Record
  pub factors : Column
  pub store : List ℕ
  pub loads : Column

-- the general path, on a matrix by its columns in a row: factoring, then the solve for the readings
unfoldable pub general_path : Column → Column → Outcome Solution
general_path a readings =
    let f = factoring a 4 4 (zeros 16) (replicate 128 0) in
    and_then f.answer (λ told.
    let x = solving f.left.factors f.left.store told readings 1 (zeros 4) in
    and_then x.answer (λ _. done (record { told = told; factors = f.left.factors; store = f.left.store; loads = x.left })))

-- a refusal's number, and zeros
abbrev pub refused_with : ℕ → FourPads
refused_with number = record { number = number; factors = zeros 16; pairs = 0; swaps = replicate 8 0; loads = zeros 4 }

-- how the profile holds it: of the swap store the front, which has room for four pairs
unfoldable pub profile_of : Outcome Solution → FourPads
profile_of (done s) = record { number = 0; factors = s.factors; pairs = s.told.pairs; swaps = take 8 s.store; loads = s.loads }
profile_of (refused number) = refused_with number

-- "5 for matrix and readings", which the program's reader tests before anything is factored
abbrev pub four_tests : Column → Column → List (ℕ × Bool)
four_tests a readings = (5, not (all_finite a && all_finite readings)) ∷ []

unfoldable pub four_of : Column → Column → FourPads
four_of a readings = profile_of (tested (first_holding (four_tests a readings)) refused (general_path a readings))

-- the call
abbrev pub four_pads : Matrix → Column → FourPads
four_pads matrix readings = four_of (flat matrix) readings
