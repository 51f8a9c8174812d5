-- "A longer input meets the same order of tests": an input of at least 33,287 bytes, one more than the greatest file has, is refused with 8, 1 or 3 by its
-- first six bytes, and so with the number with which its first 33,287 bytes are. By the tests in their order. Assumes nothing.
use mathlib.Core.Path.{◌≡◌, sym, ap, ap₂, ◌∙◌}
use mathlib.Core.Bool.{Bool, not, cond}
use mathlib.Core.List.{List}
use Prim.Native.Nat.{ℕ, ◌≤◌, ◌<◌}
use native.Mathlib.Omega.{arith}
use borrow.Author.Tests.{leb-true, leb-false, le-leb, ne_eqb}
use lib.Dec.{leb}
use lib.ListN.{length, get_or, take}
use lib.Seq.{take_all, get_or-take, length-take-le}
use Rattle.numbers.proofs.Choice.{test_cases, cond_cases}
use Rattle.refusals.specs.Outcome.{first_holding}
use Rattle.refusals.specs.Refusals.{outside}
use Rattle.refusals.proofs.Tests.{inside}
use Rattle.panel_file.specs.File.{headed, pads_of, file_length}
use Rattle.panel_file.specs.Reading.{file_tests, file_refusal}
use Rattle.panel_file.proofs.Bits.{field_two}
use Rattle.panel_file.proofs.Reading.{square}

-- no head, no such size, no such length
abbrev refusal_by_head : Bool → ℕ → ℕ
refusal_by_head head n = cond (not head) 8 (cond (outside 1 n) 1 3)

some_refusal : (head : Bool) (n : ℕ) → refusal_by_head head n ≡ 0 → ⊥
some_refusal head n =
    cond_cases (λ (k : ℕ). k ≡ 0 → ⊥) (not head) (λ _ z. omega (arith, z))
    (λ _. cond_cases (λ (k : ℕ). k ≡ 0 → ⊥) (outside 1 n) (λ _ z. omega (arith, z)) (λ _ z. omega (arith, z)))

-- the tests in their order: 8, 1, and 3 in any case; the numbers, refusal 5, are never reached
by_head : (bytes : List ℕ) → 33287 ≤ length bytes → file_refusal bytes ≡ refusal_by_head (headed bytes) (pads_of bytes)
unfolding file_refusal file_tests first_holding
by_head bytes long =
    test_cases (outside 1 (pads_of bytes)) (λ t. rw t)
    (λ t.
    let most = (inside 1 (pads_of bytes) t).at_most in
    rw (t, ne_eqb (length bytes) (file_length (pads_of bytes)) (λ e. omega (arith, e, square (pads_of bytes) 64 most))))

-- the head is the first six bytes
same_head : (s t : List ℕ) → 6 ≤ length s → 6 ≤ length t → ((i : ℕ) → i < 6 → get_or s i 0 ≡ get_or t i 0) → headed s ≡ headed t
unfolding headed
same_head s t a b e =
    rw (
      le-leb 6 (length s) a,
      le-leb 6 (length t) b,
      field_two s a,
      field_two t b,
      e 0 (omega arith),
      e 1 (omega arith),
      e 2 (omega arith),
      e 3 (omega arith),
      e 4 (omega arith),
    )

module _ (bytes : List ℕ) (long : 33287 ≤ length bytes) where
  long_refused : file_refusal bytes ≡ 0 → ⊥
  long_refused z = some_refusal (headed bytes) (pads_of bytes) (sym (by_head bytes long) ∙ z)

  -- the first bytes are refused with the same number
  long_same : file_refusal (take 33287 bytes) ≡ file_refusal bytes
  long_same =
      let front = take 33287 bytes in
      let count = length-take-le 33287 bytes long in
      let much : 33287 ≤ length front = omega (arith, count) in
      by_head front much
      ∙ ap₂ refusal_by_head (same_head front bytes (omega (arith, count)) (omega arith) (λ i h. get_or-take 33287 bytes i 0 (omega arith)))
      (get_or-take 33287 bytes 5 0 (omega arith))
      ∙ sym (by_head bytes long)

-- THEOREM. Whatever the refusal settles of a file that is refused is of any file the same as of its first 33,287 bytes.
pub any_longer : {A : Type 0} (made : List ℕ → A) (refuse : ℕ → A) → ((s : List ℕ) → (file_refusal s ≡ 0 → ⊥) → made s ≡ refuse (file_refusal s))
    → (bytes : List ℕ) → made (take 33287 bytes) ≡ made bytes
any_longer made refuse settled bytes =
    test_cases (leb 33287 (length bytes))
    (λ t.
    let long = leb-true 33287 (length bytes) t in
    let same = long_same bytes long in
    let some = long_refused bytes long in
    settled (take 33287 bytes) (λ z. some (sym same ∙ z)) ∙ ap refuse same ∙ sym (settled bytes some))
    (λ t. let few = leb-false 33287 (length bytes) t in ap made (take_all 33287 bytes (omega arith)))
