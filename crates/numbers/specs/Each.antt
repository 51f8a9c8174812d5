-- Ways to say what a loop does: each entry of a list from a place on is changed by itself, a state goes through numbered turns, or a list is
-- made entry by entry.
use Rattle.std.specs.Prelude.{List, [], ◌∷◌, ℕ, zero, suc, ◌+◌}

-- entry i of the list becomes f i of it, for each i from k on
unfoldable pub each_from : {A : Type 0} → (ℕ → A → A) → ℕ → List A → List A
each_from f k [] = []
each_from f zero (y ∷ ys) = f zero y ∷ each_from (λ i. f (suc i)) zero ys
each_from f (suc k) (y ∷ ys) = y ∷ each_from (λ i. f (suc i)) k ys

-- f i, then f (i + 1), and so on: c turns from turn i on
unfoldable pub turns_from : {S : Type 0} → (ℕ → S → S) → ℕ → ℕ → S → S
turns_from f i zero s = s
turns_from f i (suc c) s = turns_from f (i + 1) c (f i s)

-- the list of f 0, f 1, and so on, n of them
unfoldable pub list_of : {A : Type 0} → ℕ → (ℕ → A) → List A
list_of zero f = []
list_of (suc n) f = f zero ∷ list_of n (λ i. f (suc i))
