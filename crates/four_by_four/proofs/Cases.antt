-- A number that is known: what holds of its value holds of it. Each number below three. A list by its entries. Assumes nothing.
use mathlib.Core.Path.{◌≡◌, refl, sym, ap, ap₂, ◌∙◌}
use mathlib.Core.List.{List}
use Prim.Native.Nat.{ℕ, zero, suc, ◌<◌}
use native.Mathlib.Omega.{arith}
use lib.ListN.{length, get_or}
use Rattle.numbers.specs.Each.{list_of}
use Rattle.numbers.proofs.Each.{each_list, each_over}

pub at : {A : Type 0} (f : ℕ → A) (i k : ℕ) → i ≡ k → f k ≡ f i
at f i k h = ap f (sym h)

pub at_two : {A : Type 0} (f : ℕ → ℕ → A) (i p k l : ℕ) → i ≡ k → p ≡ l → f k l ≡ f i p
at_two f i p k l h g = ap₂ f (sym h) (sym g)

pub by_three : (P : ℕ → Type 0) → P 0 → P 1 → P 2 → (i : ℕ) → i < 3 → P i
by_three P a b c zero h = a
by_three P a b c (suc zero) h = b
by_three P a b c (suc (suc zero)) h = c
by_three P a b c (suc (suc (suc i))) h = absurd (omega arith)

pub named : {A : Type 0} (d : A) (n : ℕ) (l : List A) → length l ≡ n → list_of n (λ k. get_or l k d) ≡ l
named d n l e = ap (λ (k : ℕ). list_of k (λ i. get_or l i d)) (sym e) ∙ sym (each_list (λ k. get_or l k d) l) ∙ each_over l l d refl
