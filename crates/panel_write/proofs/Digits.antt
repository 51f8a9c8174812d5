-- A hex digit's value by the limits that a byte lies between. By the tests in their order. Assumes nothing.
use mathlib.Core.Path.{◌≡◌}
use Prim.Native.Nat.{ℕ, ◌+◌, ◌-◌, ◌%◌, ◌≤◌, ◌<◌}
use native.Mathlib.Omega.{arith}
use borrow.Author.Tests.{le-leb, lt-leb, leb-true, leb-false, ltb-true, ltb-false}
use lib.Dec.{leb, ltb}
use Rattle.std.proofs.Common.{refl, Option, None, Some, unwrap_or}
use Rattle.std.specs.Option.{SomeIff}
use Rattle.numbers.proofs.Choice.{test_cases}
use Rattle.panel_write.specs.Text.{digit_of}

module _ (b : ℕ) where
  pub digit_before : b ≤ 47 → 16 ≡ digit_of b
  unfolding digit_of
  digit_before h = rw (le-leb b 47 h)

  pub digit_figure : 47 < b → b ≤ 57 → b - 48 ≡ digit_of b
  unfolding digit_of
  digit_figure l h = rw (lt-leb b 47 l, le-leb b 57 h)

  pub digit_between : 57 < b → b ≤ 96 → 16 ≡ digit_of b
  unfolding digit_of
  digit_between l h = rw (lt-leb b 47 (omega arith), lt-leb b 57 l, le-leb b 96 h)

  pub digit_letter : 96 < b → b ≤ 102 → b - 97 + 10 ≡ digit_of b
  unfolding digit_of
  digit_letter l h = rw (lt-leb b 47 (omega arith), lt-leb b 57 (omega arith), lt-leb b 96 l, le-leb b 102 h)

  pub digit_behind : 102 < b → 16 ≡ digit_of b
  unfolding digit_of
  digit_behind l = rw (lt-leb b 47 (omega arith), lt-leb b 57 (omega arith), lt-leb b 96 (omega arith), lt-leb b 102 l)

  -- behind the figures no byte's value is a figure's
  pub digit_high : 57 < b → 9 < digit_of b
  digit_high l =
      test_cases (leb b 96) (λ t. let e = digit_between l (leb-true b 96 t) in omega (arith, e))
      (λ t. let h = leb-false b 96 t in
      test_cases (leb b 102) (λ u. let e = digit_letter h (leb-true b 102 u) in omega (arith, e))
      (λ u. let e = digit_behind (leb-false b 102 u) in omega (arith, e)))

  pub digit_most : digit_of b ≤ 16
  digit_most =
      test_cases (leb b 47) (λ t. let e = digit_before (leb-true b 47 t) in omega (arith, e))
      (λ t. test_cases (leb b 57) (λ u. let e = digit_figure (leb-false b 47 t) (leb-true b 57 u) in omega (arith, leb-true b 57 u, e))
      (λ u. test_cases (leb b 96) (λ v. let e = digit_between (leb-false b 57 u) (leb-true b 96 v) in omega (arith, e))
      (λ v. test_cases (leb b 102) (λ w. let e = digit_letter (leb-false b 96 v) (leb-true b 102 w) in omega (arith, leb-true b 102 w, e))
      (λ w. let e = digit_behind (leb-false b 102 w) in omega (arith, e)))))

-- a digit's value, with 0 for none, is the value of any byte modulo 16
pub value_of : (o : Option ℕ) (d : ℕ) → SomeIff o (d < 16) d → d ≤ 16 → (unwrap_or o 0 ≡ d % 16) × (unwrap_or o 0 < 16)
value_of None d h l =
    let none : d ≡ 16 = test_cases (ltb d 16) (λ t. absurd (h (ltb-true d 16 t))) (λ t. let g = ltb-false d 16 t in omega arith) in
    (rw none refl, omega arith)
value_of (Some x) d h l = let e = h.1 in let f = h.0 in (omega arith, omega arith)
