-- The diagonal of factors that passed their tests and have no zero on it: each of its numbers has parts, and is the one that the code reads. So the number
-- made of any such factors is in range, or +0.0 with exponent 0. Assumes nothing.
use mathlib.Core.Path.{◌≡◌, refl, sym, ap, ◌∙◌}
use mathlib.Core.Logic.{inl, inr}
use mathlib.Core.Bool.{true, false}
use mathlib.Core.List.{[], ◌∷◌}
use Prim.Native.Nat.{ℕ, zero, suc, ◌+◌, ◌*◌, ◌<◌, suc-le-suc}
use native.Mathlib.Nat.{not-suc-le-zero, le_of_suc-le-suc, add-zero, zero-add, zero-lt-suc}
use native.Mathlib.Omega.{arith}
use borrow.Author.Tests.{eq-eqb, eqb-true, not-false}
use lib.Dec.{eqb}
use lib.ListN.{length, get_or}
use lib.Seq.{take_all}
use lib.Ieee.{Float, nan}
use Rattle.numbers.specs.Numbers.{is_zero}
use Rattle.numbers.specs.Column.{Column, entry}
use Rattle.numbers.proofs.Choice.{test_cases, cond_cases}
use Rattle.finite.specs.Finite.{all_finite}
use Rattle.finite.proofs.Finite.{finite_entry}
use Rattle.store.specs.Columns.{columns, is_matrix}
use Rattle.store.specs.Steps.{Matrix, column}
use Rattle.store.proofs.Columns.{sized, length_columns, column_end, entry_at}
use Rattle.dead_columns.specs.Dead.{zero_count, dead_from, dead_in, dead_of}
use Rattle.dead_columns.proofs.Dead.{held_dead}
use Rattle.solve.specs.Calls.{zero_on_diagonal}
use Rattle.solve.proofs.Corrected.{Doubles}
use Rattle.scaled_determinant.specs.declared.Scaled.{Scaled}
use Rattle.scaled_determinant.specs.Determinant.{scaled_product, signed_by, vanished, scaled_determinant}
use Rattle.scaled_determinant.specs.Range.{Ranged}
use Rattle.scaled_determinant.specs.Inner.{Parted}
use Rattle.scaled_determinant.proofs.Parts.{parted_fine, fine_nonzero}
use Rattle.scaled_determinant.proofs.Range.{Sound, in_range}
use Rattle.scaled_determinant.proofs.Exactly.{OfDoubles}

-- ---- no dead column is no zero on the diagonal, both ways
living : (x : Float) → zero_count x ≡ 0 → is_zero x ≡ false
unfolding zero_count
living x e = test_cases (is_zero x) (λ t. absurd (omega (arith, rw t at e))) (λ t. t)

none_zero : (k : ℕ) (cs : Matrix) → dead_from k cs ≡ 0 → (i : ℕ) → i < length cs → is_zero (entry (column cs i) (k + i)) ≡ false
unfolding dead_from
none_zero k [] e i h = absurd (not-suc-le-zero h)
none_zero k (c ∷ cs) e zero h = ap (λ (j : ℕ). is_zero (entry c j)) (add-zero k) ∙ living (entry c k) (omega (arith, e))
none_zero k (c ∷ cs) e (suc i) h =
    let same : k + suc i ≡ suc k + i = omega arith in
    ap (λ (j : ℕ). is_zero (entry (column cs i) j)) same ∙ none_zero (suc k) cs (omega (arith, e)) i (le_of_suc-le-suc h)

all_nonzero : (k : ℕ) (cs : Matrix) → ((i : ℕ) → i < length cs → is_zero (entry (column cs i) (k + i)) ≡ false) → dead_from k cs ≡ 0
unfolding dead_from zero_count
all_nonzero k [] h = refl
all_nonzero k (c ∷ cs) h =
    let first : is_zero (entry c k) ≡ false = ap (λ (j : ℕ). is_zero (entry c j)) (sym (add-zero k)) ∙ h 0 (zero-lt-suc (length cs)) in
    rw first (zero-add _ ∙ all_nonzero (suc k) cs (λ i l.
    let same : suc k + i ≡ k + suc i = omega arith in
    ap (λ (j : ℕ). is_zero (entry (column cs i) j)) same ∙ h (suc i) (suc-le-suc l)))

-- ---- the number, by whether a zero stands there
module _ (n : ℕ) (factors : Column) (pairs : ℕ) where
  pub number_vanished : zero_on_diagonal factors n ≡ true → scaled_determinant factors n pairs ≡ vanished
  unfolding scaled_determinant
  number_vanished e = rw e

  pub number_signed : zero_on_diagonal factors n ≡ false → scaled_determinant factors n pairs ≡ signed_by pairs (scaled_product n (columns n n factors))
  unfolding scaled_determinant
  number_signed e = rw e

module _ (n : ℕ) (factors : Column) (fits : is_matrix factors n n ≡ true) where
  pub within : (i : ℕ) → i < n → i * n + i < length factors
  within i h = omega (arith, column_end n n i h, (sized n n factors fits).size)

  pub diagonal_is : (i : ℕ) → i < n → get_or factors (i * n + i) nan ≡ entry (column (columns n n factors) i) i
  diagonal_is i h = entry_at n n i i factors nan h h

  pub diagonal_doubles : Doubles factors → OfDoubles n (columns n n factors)
  diagonal_doubles double i h = rw (← diagonal_is i h) (double (i * n + i))

  count_is : dead_of factors n n ≡ dead_from 0 (columns n n factors)
  unfolding dead_in
  count_is = held_dead n n factors fits ∙ ap (dead_from 0) (take_all n (columns n n factors) (omega (arith, length_columns n n factors)))

  pub sound_nonzero : Sound n (columns n n factors) → zero_on_diagonal factors n ≡ false
  unfolding zero_on_diagonal
  sound_nonzero s =
      let cs = columns n n factors in
      let none = all_nonzero 0 cs (λ i l.
      let h : i < n = rw (length_columns n n factors) at l in
      ap (λ (j : ℕ). is_zero (entry (column cs i) j)) (zero-add i) ∙ fine_nonzero _ (s i h).1) in
      rw (eq-eqb (dead_of factors n n) 0 (count_is ∙ none))

  module _ (all : all_finite factors ≡ true) (none : zero_on_diagonal factors n ≡ false) where
    no_zero : dead_from 0 (columns n n factors) ≡ 0
    unfolding zero_on_diagonal
    no_zero = sym count_is ∙ eqb-true (dead_of factors n n) 0 (not-false (eqb (dead_of factors n n) 0) none)

    pub diagonal_parted : (i : ℕ) → i < n → Parted (get_or factors (i * n + i) nan)
    diagonal_parted i h = (
      finite_entry factors (i * n + i) all (within i h),
      ap is_zero (diagonal_is i h)
          ∙ ap (λ (j : ℕ). is_zero (entry (column (columns n n factors) i) j)) (sym (zero-add i))
          ∙ none_zero 0 (columns n n factors) no_zero i (rw (length_columns n n factors) h),
    )

    pub diagonal_sound : Doubles factors → Sound n (columns n n factors)
    diagonal_sound double i h = rw (← diagonal_is i h) (double (i * n + i), parted_fine _ (diagonal_parted i h))

  -- ---- the number: +0.0, or of a diagonal without a zero
  module _ (all : all_finite factors ≡ true) (double : Doubles factors) (pairs : ℕ) where
    pub number_cases : (P : Scaled → Type 0) → (zero_on_diagonal factors n ≡ true → P vanished)
        → (zero_on_diagonal factors n ≡ false → Sound n (columns n n factors) → P (signed_by pairs (scaled_product n (columns n n factors))))
        → P (scaled_determinant factors n pairs)
    unfolding scaled_determinant
    number_cases P some none = cond_cases P (zero_on_diagonal factors n) some (λ e. none e (diagonal_sound all e double))

    pub number_ranged : Ranged (scaled_determinant factors n pairs)
    number_ranged = number_cases Ranged (λ _. inl refl) (λ _ s. inr (in_range n (columns n n factors) pairs (sized n n factors fits).rows_most s))
