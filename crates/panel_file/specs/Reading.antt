-- What reading a file answers and leaves, on every input. "Order: 8, then 1, then 3, then 5 for matrix and readings, all four by the reader."
use Rattle.std.specs.Prelude.{Bool, true, not, ◌&&◌, List, [], ◌∷◌, ◌++◌, ℕ, ◌*◌, eqb, length, drop}
use Rattle.numbers.specs.Column.{Column}
use Rattle.finite.specs.Finite.{all_finite}
use Rattle.refusals.specs.Outcome.{done, first_holding, tested, Call, leaving}
use Rattle.refusals.specs.Refusals.{outside}
use Rattle.panel_file.specs.File.{headed, pads_of, file_length, numbers_of, matrix_of, readings_of}

-- The tests of a file in their order. Refusal 3: the file has another length than its size asks for; where stores are lent besides, also that they do not fit.
unfoldable pub file_tests : Bool → List ℕ → List (ℕ × Bool)
file_tests fit bytes =
    (8, not (headed bytes))
    ∷ (1, outside 1 (pads_of bytes))
    ∷ (3, not (fit && eqb (length bytes) (file_length (pads_of bytes))))
    ∷ (5, not (all_finite (numbers_of (pads_of bytes) bytes)))
    ∷ []

-- the refusal of a file by its bytes alone, 0 for none
unfoldable pub file_refusal : List ℕ → ℕ
file_refusal bytes = first_holding (file_tests true bytes)

-- two stores, for the matrix and for the readings
pub record Stores : Type 0 where
  pub matrix : Column
  pub readings : Column

abbrev pub stores : Column → Column → Stores
stores matrix readings = record { matrix = matrix; readings = readings }

-- "Every lent slice has exactly the length its sizes ask for": 64 by 64 numbers, and 64
abbrev pub stores_fit : Stores → Bool
stores_fit s = eqb (length s.matrix) 4096 && eqb (length s.readings) 64

-- the refusal of a file that is read into two stores, 0 for none
unfoldable pub reading_refusal : List ℕ → Stores → ℕ
reading_refusal bytes s = first_holding (file_tests (stores_fit s) bytes)

-- the file's numbers in front of the stores; what lies past them stays as it was
abbrev pub filled : List ℕ → Stores → Stores
filled bytes s =
    let n = pads_of bytes in
    record { matrix = matrix_of n bytes ++ drop (n * n) s.matrix; readings = readings_of n bytes ++ drop n s.readings }

-- the call: the number of pads, and the stores filled; "refused: all as it was"
unfoldable pub reading : List ℕ → Stores → Call ℕ Stores
reading bytes s = tested (reading_refusal bytes s) (leaving s) (record { answer = done (pads_of bytes); left = filled bytes s })

-- ---- a file of n pads and of no other size, into stores that are as long as its matrix and its readings

-- Document 02, request 11: "A panel file of another size is refused". 8 by the head, then 1 for another size than n, then the tests of any file.
abbrev pub sized_tests : List ℕ → ℕ → Stores → List (ℕ × Bool)
sized_tests bytes n s =
    (8, not (headed bytes)) ∷ (1, not (eqb (pads_of bytes) n)) ∷ file_tests (eqb (length s.matrix) (n * n) && eqb (length s.readings) n) bytes

unfoldable pub sized_refusal : List ℕ → ℕ → Stores → ℕ
sized_refusal bytes n s = first_holding (sized_tests bytes n s)

unfoldable pub reading_sized : List ℕ → ℕ → Stores → Call ℕ Stores
reading_sized bytes n s = tested (sized_refusal bytes n s) (leaving s) (record { answer = done (pads_of bytes); left = filled bytes s })
