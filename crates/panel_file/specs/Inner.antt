-- Reading into stores of any length, for the contract of the function that fills them.
use Rattle.std.specs.Prelude.{Bool, List, ℕ, ◌*◌, ◌≤◌, length}
use Rattle.refusals.specs.Outcome.{done, first_holding, tested, Call, leaving}
use Rattle.panel_file.specs.File.{pads_of}
use Rattle.panel_file.specs.Reading.{file_tests, Stores, filled}

-- the stores have room for the numbers of n pads
abbrev pub Holds : ℕ → Stores → Type 0
Holds n s = (n * n ≤ length s.matrix) × (n ≤ length s.readings)

-- reading into the front of stores that fit or not
unfoldable pub reading_beside : Bool → List ℕ → Stores → Call ℕ Stores
reading_beside fit bytes s = tested (first_holding (file_tests fit bytes)) (leaving s) (record { answer = done (pads_of bytes); left = filled bytes s })
