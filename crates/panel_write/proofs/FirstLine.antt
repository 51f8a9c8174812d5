-- The first line by its length and its newline. By the tests in their order. Assumes nothing.
use mathlib.Core.Path.{◌≡◌, refl}
use mathlib.Core.List.{List}
use Prim.Native.Nat.{ℕ, ◌+◌, ◌*◌, ◌≤◌, ◌<◌}
use borrow.Author.Tests.{lt-ltb, le-ltb, eq-eqb, ne_eqb, ltb-true, ltb-false}
use lib.Dec.{ltb}
use Rattle.numbers.proofs.Choice.{test_cases}
use lib.ListN.{length, get_or}
use Rattle.panel_write.specs.Text.{digit_of, two_digits, head_in}

module _ (text : List ℕ) where
  pub head_short : length text < 3 → head_in text ≡ (0, 0)
  unfolding head_in
  head_short h = rw (lt-ltb (length text) 3 h)

  module _ (h : 3 ≤ length text) where
    pub head_one : get_or text 1 0 ≡ 10 → head_in text ≡ (two_digits 0 (digit_of (get_or text 0 0)), 2)
    unfolding head_in
    head_one e = rw (le-ltb (length text) 3 h, eq-eqb (get_or text 1 0) 10 e)

    module _ (d : get_or text 1 0 ≡ 10 → ⊥) where
      pub head_two : get_or text 2 0 ≡ 10 → head_in text ≡ (two_digits (digit_of (get_or text 0 0)) (digit_of (get_or text 1 0)), 3)
      unfolding head_in
      head_two e = rw (le-ltb (length text) 3 h, ne_eqb (get_or text 1 0) 10 d, eq-eqb (get_or text 2 0) 10 e)

      pub head_none : (get_or text 2 0 ≡ 10 → ⊥) → head_in text ≡ (0, 0)
      unfolding head_in
      head_none e = rw (le-ltb (length text) 3 h, ne_eqb (get_or text 1 0) 10 d, ne_eqb (get_or text 2 0) 10 e)

-- two decimal digits, or one that is none
module _ (tens ones : ℕ) where
  pub two_good : tens ≤ 9 → ones ≤ 9 → two_digits tens ones ≡ 10 * tens + ones
  unfolding two_digits
  two_good t o = rw (le-ltb 9 tens t, le-ltb 9 ones o)

  pub two_no_ones : (ones ≤ 9 → ⊥) → two_digits tens ones ≡ 0
  unfolding two_digits
  two_no_ones o =
      test_cases (ltb 9 tens) (λ t. rw t refl)
      (λ t. rw (t, lt-ltb 9 ones (test_cases (ltb 9 ones) (ltb-true 9 ones) (λ u. absurd (o (ltb-false 9 ones u))))) refl)

  pub two_no_tens : (tens ≤ 9 → ⊥) → two_digits tens ones ≡ 0
  unfolding two_digits
  two_no_tens o = rw (lt-ltb 9 tens (test_cases (ltb 9 tens) (ltb-true 9 tens) (λ u. absurd (o (ltb-false 9 tens u))))) refl
