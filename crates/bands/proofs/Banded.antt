-- Each band by its limits, and that the five bands are all that there is up to 2046. By the tests in their order. Assumes nothing.
use mathlib.Core.Path.{◌≡◌}
use Prim.Native.Nat.{ℕ, ◌≤◌, ◌<◌}
use native.Mathlib.Omega.{arith}
use borrow.Author.Tests.{le-leb, lt-leb}
use lib.Dec.{leb}
use Rattle.numbers.proofs.Choice.{cond_cases}
use Rattle.bands.specs.Bands.{band_of}

module _ (e : ℕ) where
  pub band_0 : e ≤ 0 → 0 ≡ band_of e
  unfolding band_of
  band_0 h = rw (le-leb e 0 h)

  pub band_1 : 0 < e → e ≤ 511 → 1 ≡ band_of e
  unfolding band_of
  band_1 l h = rw (lt-leb e 0 l, le-leb e 511 h)

  pub band_2 : 511 < e → e ≤ 1022 → 2 ≡ band_of e
  unfolding band_of
  band_2 l h = rw (lt-leb e 0 (omega arith), lt-leb e 511 l, le-leb e 1022 h)

  pub band_3 : 1022 < e → e ≤ 1534 → 3 ≡ band_of e
  unfolding band_of
  band_3 l h = rw (lt-leb e 0 (omega arith), lt-leb e 511 (omega arith), lt-leb e 1022 l, le-leb e 1534 h)

  pub band_4 : 1534 < e → e ≤ 2046 → 4 ≡ band_of e
  unfolding band_of
  band_4 l h = rw (lt-leb e 0 (omega arith), lt-leb e 511 (omega arith), lt-leb e 1022 (omega arith), lt-leb e 1534 l, le-leb e 2046 h)

  pub band_none : 2046 < e → 5 ≡ band_of e
  unfolding band_of
  band_none l =
      rw (lt-leb e 0 (omega arith), lt-leb e 511 (omega arith), lt-leb e 1022 (omega arith), lt-leb e 1534 (omega arith), lt-leb e 2046 l)

  -- each exponent of a finite number is in one of the five
  pub banded : e ≤ 2046 → band_of e < 5
  unfolding band_of
  banded h =
      rw (le-leb e 2046 h)
      (cond_cases Below (leb e 0) (λ _. omega arith) (λ _. cond_cases Below (leb e 511) (λ _. omega arith) (λ _. cond_cases Below (leb e 1022)
      (λ _. omega arith) (λ _. cond_cases Below (leb e 1534) (λ _. omega arith) (λ _. omega arith)))))
    where
      Below : ℕ → Type 0
      Below b = b < 5
