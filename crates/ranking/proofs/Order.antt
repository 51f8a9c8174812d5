-- The order of pads, of finite loads: no pad is ahead of one that is ahead of it, of two different pads one is ahead, and what is ahead of a pad is
-- ahead of all that this one is ahead of. By the order of magnitudes. Assumes nothing.
use mathlib.Core.Path.{◌≡◌, refl, sym, ◌∙◌}
use mathlib.Core.Bool.{Bool, true, false, not, ◌&&◌, ◌||◌, false≢true, true≢false}
use Prim.Native.Nat.{ℕ, ◌≤◌, ◌<◌}
use native.Mathlib.Omega.{arith}
use borrow.Author.Tests.{ltb-true, ltb-false, lt-ltb}
use lib.Dec.{ltb}
use lib.ListN.{length}
use lib.Ieee.Scale.{finite}
use Rattle.numbers.specs.Column.{Column}
use Rattle.finite.specs.Finite.{all_finite}
use Rattle.numbers.proofs.Choice.{test_cases}
use Rattle.finite.proofs.Finite.{finite_entry}
use Rattle.numbers.proofs.Smaller.{smaller, smaller_trans, smaller_asym}
use Rattle.ranking.specs.Ranking.{IsPad, load_of, ahead}

-- ---- the test taken apart: greater, or not smaller and of the lower number
apart : {Q : Type 0} (g l t : Bool) → (g || not l && t) ≡ true → (g ≡ true → Q) → (l ≡ false → t ≡ true → Q) → Q
apart true l t e f h = f refl
apart false true t e f h = absurd (false≢true e)
apart false false t e f h = h refl e

apart_not : {Q : Type 0} (g l t : Bool) → (g || not l && t) ≡ false → (g ≡ false → l ≡ true → Q) → (g ≡ false → l ≡ false → t ≡ false → Q) → Q
apart_not true l t e f h = absurd (true≢false e)
apart_not false true t e f h = f refl refl
apart_not false false t e f h = h refl refl e

module _ (loads : Column) where
  -- the load of p is smaller than that of q
  abbrev below : ℕ → ℕ → Bool
  below p q = smaller (load_of loads p) (load_of loads q)

  ahead_cases : {Q : Type 0} (p q : ℕ) → ahead loads p q ≡ true → (below q p ≡ true → Q) → (below p q ≡ false → p < q → Q) → Q
  unfolding ahead
  ahead_cases p q e f h = apart (below q p) (below p q) (ltb p q) e f (λ l t. h l (ltb-true p q t))

  greater : (p q : ℕ) → below q p ≡ true → ahead loads p q ≡ true
  unfolding ahead
  greater p q e = rw e

  or_true : (g : Bool) → (g || true) ≡ true
  or_true true = refl
  or_true false = refl

  lower : (p q : ℕ) → below p q ≡ false → p < q → ahead loads p q ≡ true
  unfolding ahead
  lower p q e h = rw (e, lt-ltb p q h) (or_true (below q p))

  pub ahead_asym : (p q : ℕ) → ahead loads p q ≡ true → ahead loads q p ≡ true → ⊥
  ahead_asym p q a b =
      ahead_cases p q a
      (λ g. ahead_cases q p b (λ g'. true≢false (sym g' ∙ smaller_asym (load_of loads q) (load_of loads p) g)) (λ l' h'. true≢false (sym g ∙ l')))
      (λ l h. ahead_cases q p b (λ g'. true≢false (sym g' ∙ l)) (λ l' h'. omega arith))

  pub ahead_total : (p q : ℕ) → (p ≡ q → ⊥) → ahead loads p q ≡ false → ahead loads q p ≡ true
  unfolding ahead
  ahead_total p q n e =
      apart_not (below q p) (below p q) (ltb p q) e (λ g l. greater q p l) (λ g l t. lower q p g (let h : q ≤ p = ltb-false p q t in omega arith))

  module _ (all : all_finite loads ≡ true) where
    number : (p : ℕ) → IsPad (length loads) p → finite (load_of loads p) ≡ true
    number p h = finite_entry loads _ all (omega arith)

    pub ahead_trans : (p q r : ℕ) → IsPad (length loads) p → IsPad (length loads) q → IsPad (length loads) r
        → ahead loads p q ≡ true → ahead loads q r ≡ true → ahead loads p r ≡ true
    ahead_trans p q r hp hq hr a b =
        let x = load_of loads p in
        let y = load_of loads q in
        let z = load_of loads r in
        let fx = number p hp in
        let fy = number q hq in
        let fz = number r hr in
        ahead_cases p q a
        (λ g. ahead_cases q r b
        (λ g'. greater p r (smaller_trans z y x fz fy fx (smaller_asym z y g') g))
        (λ l' h'. greater p r (smaller_trans z y x fz fy fx l' g)))
        (λ l h. ahead_cases q r b
        (λ g'. greater p r (test_cases (below r p) (λ t. t) (λ t. absurd (true≢false (sym (smaller_trans x z y fx fz fy t g') ∙ l)))))
        (λ l' h'. lower p r (test_cases (below p r) (λ t. absurd (true≢false (sym (smaller_trans y x z fy fx fz l t) ∙ l'))) (λ t. t)) (omega arith)))
