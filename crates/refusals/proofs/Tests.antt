-- What a call knows of its sizes where no test holds. Assumes nothing.
use mathlib.Core.Path.{◌≡◌, refl, sym}
use mathlib.Core.Bool.{Bool, true, false, ◌||◌, false≢true}
use Prim.Native.Nat.{ℕ, ◌≤◌}
use borrow.Author.Tests.{ltb-false, le-ltb}
use lib.Dec.{ltb}
use Rattle.refusals.specs.Refusals.{outside}

pub neither : (t u : Bool) → (t || u) ≡ false → (t ≡ false) × (u ≡ false)
neither true u e = absurd (false≢true (sym e))
neither false u e = (refl, e)

-- a size that is not outside its limits
pub record Inside (least size : ℕ) : Type 0 where
  pub at_least : least ≤ size
  pub at_most : size ≤ 64

pub inside : (least size : ℕ) → outside least size ≡ false → Inside least size
unfolding outside
inside least size e =
    let both = neither (ltb size least) (ltb 64 size) e in
    record { at_least = ltb-false size least both.0; at_most = ltb-false 64 size both.1 }

pub not_outside : (least size : ℕ) → least ≤ size → size ≤ 64 → outside least size ≡ false
unfolding outside
not_outside least size lo hi = rw (le-ltb size least lo, le-ltb 64 size hi)
