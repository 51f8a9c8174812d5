-- A column-major slice as the list of its columns (document 01, "Taken from the crate" and "Sizes").
-- Generic in the element type.
use Rattle.std.specs.Prelude.{◌≡◌, Bool, cond, ◌&&◌, List, [], ◌∷◌, ◌++◌, ℕ, zero, suc, ◌*◌, ◌<◌, leb, eqb, length, get_or, take, drop}

-- the first n columns of m entries each
unfoldable pub columns : {A : Type 0} → ℕ → ℕ → List A → List (List A)
columns m zero s = []
columns m (suc n) s = take m s ∷ columns m n (drop m s)

-- the columns one after the other
unfoldable pub flat : {A : Type 0} → List (List A) → List A
flat [] = []
flat (c ∷ cs) = c ++ flat cs

-- every column has m entries
abbrev pub HasRows : {A : Type 0} → ℕ → List (List A) → Type 0
HasRows m cs = (j : ℕ) → j < length cs → length (get_or cs j []) ≡ m

-- the slice holds n columns of m entries each, and neither number passes 64
unfoldable pub is_matrix : {A : Type 0} → List A → ℕ → ℕ → Bool
is_matrix s m n = leb m 64 && leb n 64 && eqb (length s) (n * m)

-- what f makes of the columns of an m by n matrix; a slice that is none stays as it was
unfoldable pub on_columns : {A : Type 0} → ℕ → ℕ → (List (List A) → List (List A)) → List A → List A
on_columns m n f s = cond (is_matrix s m n) (flat (f (columns m n s))) s
