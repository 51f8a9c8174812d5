-- The searches for the pivot row and for the next greater row, as a loop at row k meets them: one turn, and the end. By what is left at row k.
-- Assumes nothing.
use mathlib.Core.Path.{◌≡◌, sym, ap, ◌∙◌}
use mathlib.Core.Bool.{Bool, true, false, cond}
use mathlib.Core.List.{[], ◌∷◌}
use Prim.Native.Nat.{ℕ, suc, ◌+◌, ◌≤◌, ◌<◌}
use native.Mathlib.Numerals.{add-one}
use native.Mathlib.Omega.{arith}
use lib.ListN.{length, drop, drop_of_length-le}
use lib.Ieee.{Float, nan, lt}
use Rattle.numbers.specs.Numbers.{magnitude}
use Rattle.numbers.specs.Column.{Column, entry}
use Rattle.numbers.proofs.Choice.{cond_cases}
use Rattle.numbers.proofs.Walk.{drop_next}
use Rattle.min_max.specs.Pivot.{search_from}
use Rattle.min_max.specs.TossUp.{above_from}

module _ (s : Column) (k : ℕ) (h : k < length s) where
  -- one turn of the search for the pivot, by the outcome of its test
  pub search_next : (t : Float) (b : ℕ) (g : Bool) → lt t (magnitude (entry s k)) ≡ g
      → search_from t b k (drop k s) ≡ search_from (cond g (magnitude (entry s k)) t) (cond g k b) (k + 1) (drop (k + 1) s)
  unfolding search_from
  search_next t b g e =
      ap (search_from t b k) (drop_next s k nan h)
      ∙ (λ i. search_from (cond (e i) (magnitude (entry s k)) t) (cond (e i) k b) (sym (add-one k) i) (drop (k + 1) s))

  -- one turn of the search for a row that is above t
  pub above_here : (t : Float) → lt t (magnitude (entry s k)) ≡ true → k ≡ above_from t k (drop k s)
  unfolding above_from
  above_here t e = rw (drop_next s k nan h, e)

  pub above_next : (t : Float) → lt t (magnitude (entry s k)) ≡ false → above_from t (k + 1) (drop (k + 1) s) ≡ above_from t k (drop k s)
  unfolding above_from
  above_next t e = rw (drop_next s k nan h, e, add-one k)

pub above_from_lem : (t : Float) (k : ℕ) (xs : Column) → k ≤ above_from t k xs
unfolding above_from
above_from_lem t k [] = omega arith
above_from_lem t k (x ∷ xs) =
    cond_cases (λ (r : ℕ). k ≤ r) (lt t (magnitude x)) (λ z. omega arith) (λ z. omega (arith, above_from_lem t (suc k) xs))

pub above_end : (s : Column) (k : ℕ) (t : Float) → length s ≤ k → k ≡ above_from t k (drop k s)
unfolding above_from
above_end s k t h = rw (drop_of_length-le s h)

pub search_end : (s : Column) (k : ℕ) (t : Float) (b : ℕ) → length s ≤ k → search_from t b k (drop k s) ≡ b
unfolding search_from
search_end s k t b h = ap (search_from t b k) (drop_of_length-le s h)
