-- The outermost magnitude so far, number by number, for the greatest and the least at once. By the transitivity of the comparison. Assumes nothing.
use mathlib.Core.Path.{◌≡◌, refl, sym, ◌∙◌}
use mathlib.Core.Bool.{Bool, true, false, not, true≢false, false≢true}
use mathlib.Core.Logic.{inl, inr, ⊎_elim}
use Prim.Native.Nat.{ℕ, ◌+◌, ◌<◌}
use native.Mathlib.Omega.{arith}
use borrow.Author.Tests.{eqb-true, eqb-false}
use lib.Dec.{T, eqb}
use lib.Ieee.{Float, nan, inf, fin, lt, is_nan, of_bits}
use Rattle.numbers.specs.Numbers.{zero64, magnitude}
use Rattle.numbers.specs.Column.{Column, entry}
use Rattle.numbers.proofs.Choice.{test_cases}
use Rattle.numbers.proofs.Smaller.{smaller_self}
use Rattle.numbers.proofs.Equal.{smaller_less}
use Rattle.panel_pivots.specs.Outermost.{Outermost, above, below, infinity64, Greatest, Least}

-- no NaN is less than anything, and nothing is less than one
pub less_number : (x y : Float) → lt x y ≡ true → T (not (is_nan x)) × T (not (is_nan y))
unfolding lt is_nan
less_number nan y e = absurd (false≢true e)
less_number (inf s) nan e = absurd (false≢true e)
less_number (inf s) (inf u) e = (tt, tt)
less_number (inf s) (fin u n f) e = (tt, tt)
less_number (fin s m e) nan d = absurd (false≢true d)
less_number (fin s m e) (inf u) d = (tt, tt)
less_number (fin s m e) (fin u n f) d = (tt, tt)

module _ (beyond : Float → Float → Bool) (start : Float) (c : Column) where
  pub outermost_begin : (r : Float) → r ≡ magnitude start → T (not (is_nan r)) → Outermost beyond start c 0 r
  outermost_begin r e d = record { of = start; is = e; found = inl refl; none_beyond = λ k h. absurd (omega arith); number = d }

  module _ (k : ℕ) (r : Float) (o : Outermost beyond start c k r) where
    below_next : (P : ℕ → Type 0) → ((j : ℕ) → j < k → P j) → P k → (j : ℕ) → j < k + 1 → P j
    below_next P g z j h = test_cases (eqb j k) (λ t. rw (eqb-true j k t) z) (λ f. g j (omega (arith, eqb-false j k f)))

    pub outermost_left : beyond o.of (entry c k) ≡ false → Outermost beyond start c (k + 1) r
    outermost_left t =
        record {
          of = o.of;
          is = o.is;
          found = ⊎_elim (λ e. inl e) (λ p. inr (p.0, omega (arith, p.1), p.2)) o.found;
          none_beyond = below_next (λ j. beyond o.of (entry c j) ≡ false) o.none_beyond t;
          number = o.number;
        }

    module _ (self : (x : Float) → beyond x x ≡ false)
        (trans : (x y z : Float) → beyond x y ≡ true → beyond y z ≡ true → beyond x z ≡ true) where
      pub outermost_taken : (x : Float) → x ≡ magnitude (entry c k) → beyond o.of (entry c k) ≡ true → T (not (is_nan x))
          → Outermost beyond start c (k + 1) x
      outermost_taken x e t d =
          record {
            of = entry c k;
            is = e;
            found = inr (k, omega arith, refl);
            none_beyond = below_next (λ j. beyond (entry c k) (entry c j) ≡ false)
                (λ j h. test_cases (beyond (entry c k) (entry c j))
                (λ s. absurd (true≢false (sym (trans o.of (entry c k) (entry c j) t s) ∙ o.none_beyond j h))) (λ s. s))
                (self (entry c k));
            number = d;
          }

-- ---- a turn of the two loops, x being the magnitude that it looks at

pub zero_outermost : (c : Column) → Greatest c 0 zero64
unfolding magnitude lt is_nan of_bits
zero_outermost c = outermost_begin above zero64 c zero64 refl tt

pub infinity_outermost : (c : Column) → Least c 0 infinity64
unfolding magnitude lt is_nan of_bits
infinity_outermost c = outermost_begin below infinity64 c infinity64 refl tt

module _ (c : Column) (k : ℕ) (r x : Float) (is : x ≡ magnitude (entry c k)) where
  pub greatest_taken : Greatest c k r → lt r x ≡ true → Greatest c (k + 1) x
  greatest_taken o t = outermost_taken above zero64 c k r o smaller_self smaller_less x is (rw (o.is, is) at t) (less_number r x t).1

  pub greatest_left : Greatest c k r → lt r x ≡ false → Greatest c (k + 1) r
  greatest_left o t = outermost_left above zero64 c k r o (rw (o.is, is) at t)

  pub least_taken : Least c k r → lt x r ≡ true → Least c (k + 1) x
  least_taken o t =
      outermost_taken below infinity64 c k r o smaller_self (λ y v w p q. smaller_less w v y q p) x is (rw (o.is, is) at t) (less_number x r t).0

  pub least_left : Least c k r → lt x r ≡ false → Least c (k + 1) r
  least_left o t = outermost_left below infinity64 c k r o (rw (o.is, is) at t)
