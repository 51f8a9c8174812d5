-- What is left of a list at a loop's turn. Assumes nothing.
use mathlib.Core.Path.{◌≡◌}
use mathlib.Core.List.{List, ◌∷◌}
use Prim.Native.Nat.{ℕ, ◌+◌, ◌<◌}
use native.Mathlib.Numerals.{add-one}
use lib.ListN.{length, get_or, drop}
use lib.Seq.{drop-cons}

-- what is left at k is the entry k, and what is left at k + 1
pub drop_next : {A : Type 0} (s : List A) (k : ℕ) (d : A) → k < length s → drop k s ≡ get_or s k d ∷ drop (k + 1) s
drop_next s k d h = rw (add-one, drop-cons s k d)
