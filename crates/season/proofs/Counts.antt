-- Laws of counts over a list, for any test and any number: the same for any order of the list, and at most one (or so many) for each entry. By induction on the
-- list, or on the permutation. Assumes nothing.
use Rattle.std.proofs.Common.{◌≡◌, ℕ, suc, ◌+◌, ◌*◌, ◌≤◌, Bool, true, false, List, [], ◌∷◌, length, sym, refl, ap, ◌∙◌, ap₂, mul-suc, arith}
use mathlib.Core.List.{Permᴰ}
use Rattle.season.specs.Season.{how_many, total}
use Rattle.season.proofs.Rows.{one}

one_most : (t : Bool) → one t ≤ 1
one_most true = omega arith
one_most false = omega arith

module _ {F : Type 0} where
  -- a count is a sum of ones
  counted_ones : (test : F → Bool) (fs : List F) → how_many test fs ≡ total (λ f. one (test f)) fs
  unfolding how_many total
  counted_ones test [] = refl
  counted_ones test (f ∷ fs) = ap (λ (k : ℕ). one (test f) + k) (counted_ones test fs)

  -- THEOREM. A sum over a list is the same for any order of it, and so is a count; the list is as long.
  pub total_order : (number : F → ℕ) {fs gs : List F} → Permᴰ fs gs → total number fs ≡ total number gs
  unfolding total
  total_order number Permᴰ.nil = refl
  total_order number (Permᴰ.cons e p) = ap₂ (λ (a b : ℕ). a + b) (ap number e) (total_order number p)
  total_order number (Permᴰ.swap d e) = let x = ap number d in let y = ap number e in omega arith
  total_order number (Permᴰ.trans p q) = total_order number p ∙ total_order number q

  pub count_order : (test : F → Bool) {fs gs : List F} → Permᴰ fs gs → how_many test fs ≡ how_many test gs
  count_order test {fs} {gs} p = counted_ones test fs ∙ total_order (λ f. one (test f)) p ∙ sym (counted_ones test gs)

  pub length_order : {fs gs : List F} → Permᴰ fs gs → length fs ≡ length gs
  length_order Permᴰ.nil = refl
  length_order (Permᴰ.cons e p) = ap suc (length_order p)
  length_order (Permᴰ.swap d e) = refl
  length_order (Permᴰ.trans p q) = length_order p ∙ length_order q

  -- how large a sum and a count can be
  pub total_most : (number : F → ℕ) (m : ℕ) (fs : List F) → ((f : F) → number f ≤ m) → total number fs ≤ m * length fs
  unfolding total
  total_most number m [] h = omega arith
  total_most number m (f ∷ fs) h = let a = h f in let b = total_most number m fs h in omega (arith, mul-suc m (length fs))

  pub count_most : (test : F → Bool) (fs : List F) → how_many test fs ≤ length fs
  count_most test fs = omega (arith, total_most (λ f. one (test f)) 1 fs (λ f. one_most (test f)), counted_ones test fs)
