-- Document 02, request 8: results that are stored one after another, each with its place, and the first of them that is not finite.
use Rattle.std.specs.Prelude.{cond, List, [], ◌∷◌, ◌++◌, ℕ, suc, Float}
use Rattle.std.proofs.Math.Option.{Option, none, some}
use Rattle.std.specs.Float.Ieee.Scale.{finite}
use Rattle.numbers.specs.Column.{Column}

-- a number that was stored, and where
pub record Result (Place : Type 0) : Type 0 where
  pub place : Place
  pub value : Float

-- the place of "the first stored result that isn't finite"
unfoldable pub first_overflow : {Place : Type 0} → List (Result Place) → Option Place
first_overflow [] = none
first_overflow (x ∷ l) = cond (finite x.value) (first_overflow l) (some x.place)

-- the numbers of a column, the first of them in row r, each with its place by its row
unfoldable pub rows_from : {Place : Type 0} → (ℕ → Place) → ℕ → Column → List (Result Place)
rows_from at r [] = []
rows_from at r (v ∷ c) = record { place = at r; value = v } ∷ rows_from at (suc r) c

-- what the entries of a list store, entry number k the first, one after another
unfoldable pub in_turn : {A B : Type 0} → (ℕ → A → List B) → ℕ → List A → List B
in_turn f k [] = []
in_turn f k (x ∷ l) = f k x ++ in_turn f (suc k) l
