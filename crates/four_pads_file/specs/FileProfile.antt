-- Document 02, request 11, for a panel file: "A panel file of another size is refused in this profile. Refusals: 8, 1 (also for another size), 3, 5,
-- factoring's 7, then 6, 7." Past the size it is the general path of any file.
use Rattle.std.specs.Prelude.{Bool, false, not, List, [], ◌∷◌, ℕ, eqb}
use Rattle.numbers.specs.Column.{Column, zeros}
use Rattle.refusals.specs.Outcome.{Outcome, done, refused, number_of, first_holding, tested, and_then}
use Rattle.panel_file.specs.File.{headed, pads_of, readings_of}
use Rattle.panel_file.specs.Reading.{stores, reading_sized}
use Rattle.crossing.specs.Below.{Packed, solution_by}
use Rattle.crossing.specs.Factors.{factors_in}
use Rattle.four_pads.specs.declared.FourPads.{FourPads}
use Rattle.four_pads.specs.Profile.{Solution, profile_of}
use Rattle.four_pads_file.specs.declared.FourNumbers.{FourNumbers}

-- what is read of a file of four pads; refused, the numbers are zeros, as the stores were
unfoldable pub numbers_in : List ℕ → FourNumbers
numbers_in bytes =
    let o = reading_sized bytes 4 (stores (zeros 16) (zeros 4)) in
    record { number = number_of o.answer; matrix = o.left.matrix; readings = o.left.readings }

-- factors and loads together
abbrev pub with_loads : Packed → Outcome Column → Outcome Solution
with_loads f x = and_then x (λ loads. done (record { told = f.told; factors = f.factors; store = f.swaps; loads = loads }))

-- the general path of a file: refused by the file's tests or by factoring, else by the solve for its readings
unfoldable pub general_path_in : List ℕ → Outcome Solution
general_path_in bytes = and_then (factors_in bytes) (λ f. with_loads f (solution_by false f (readings_of (pads_of bytes) bytes)))

-- the head, and the size of this profile
abbrev pub size_tests : List ℕ → List (ℕ × Bool)
size_tests bytes = (8, not (headed bytes)) ∷ (1, not (eqb (pads_of bytes) 4)) ∷ []

-- the call
unfoldable pub four_pads_in : List ℕ → FourPads
four_pads_in bytes = profile_of (tested (first_holding (size_tests bytes)) refused (general_path_in bytes))
