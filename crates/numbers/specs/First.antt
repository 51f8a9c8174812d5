-- The first entry, or the first turn, that fails a test.
use Rattle.std.specs.Prelude.{Bool, cond, List, [], ◌∷◌, ℕ, zero, suc, ◌+◌}
use Rattle.std.proofs.Math.Option.{Option, none, or_else}

-- the place of the first entry that fails the test; the length where none does
unfoldable pub first_failing : {A : Type 0} → (A → Bool) → List A → ℕ
first_failing test [] = 0
first_failing test (x ∷ l) = cond (test x) (suc (first_failing test l)) 0

-- What `told` says of the first of c turns, from turn i on, after which the state fails the test, and of that state; `else` where no turn does.
unfoldable pub first_turn : {S R : Type 0} → (S → Bool) → (ℕ → S → R) → R → (ℕ → S → S) → ℕ → ℕ → S → R
first_turn test told else f i zero s = else
first_turn test told else f i (suc c) s = let t = f i s in cond (test t) (first_turn test told else f (i + 1) c t) (told i t)

-- the first answer that f gives to a place and its entry, the list standing from place k on; `none` where it gives none
unfoldable pub first_some : {A R : Type 0} → (ℕ → A → Option R) → ℕ → List A → Option R
first_some f k [] = none
first_some f k (x ∷ l) = or_else (f k x) (first_some f (suc k) l)
