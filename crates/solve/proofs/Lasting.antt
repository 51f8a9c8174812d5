-- No solve makes a right-hand column finite again: where the column is finite after a turn, it was before it, whatever the matrix and the diagonal hold. So a
-- solved column that is finite had only finite numbers from the start. Assumes nothing.
use mathlib.Core.Path.{◌≡◌, sym, ap, ◌∙◌}
use mathlib.Core.Bool.{true, false}
use Prim.Native.Nat.{ℕ, ◌≤◌}
use native.Mathlib.Omega.{arith}
use lib.ListN.{set, take, drop, take-append-drop}
use lib.Ieee.{Float, binary64, neg, div, sub}
use Rattle.numbers.specs.Each.{turns_from}
use Rattle.numbers.specs.Column.{Column, entry}
use Rattle.finite.specs.Finite.{all_finite}
use Rattle.blas.specs.Blas.{axpy_from}
use Rattle.blas.specs.Dot.{dot_of}
use Rattle.numbers.proofs.Choice.{and_first, and_second, and_both}
use Rattle.finite.proofs.Finite.{finite_append}
use Rattle.numbers.proofs.Lasting.{lasting, difference_finite, quotient_finite}
use Rattle.finite.proofs.Lasting.{axpy_finite, set_finite}
use Rattle.numbers.proofs.First.{passed_then}
use Rattle.store.specs.Steps.{Matrix, column}
use Rattle.triangular_passes.specs.declared.Pass.{Pass}
use Rattle.triangular_passes.specs.declared.Pass.TheVariants.{Lower, Upper, GivenDiagonal, CorrectedDiagonal}
use Rattle.triangular_passes.specs.declared.Pass.TheVariants.{TransposedLower, TransposedUpper, TransposedUnitLower}
use Rattle.triangular_passes.specs.Triangular.{lower_row, upper_row, kept_row, less_below, transposed_lower_row, transposed_upper_row}
use Rattle.triangular_passes.specs.Triangular.{transposed_unit_lower_row}
use Rattle.triangular_passes.specs.Triangular.{divisor, row_by, row_at, turns_of, solved_row, turn, solved_column}

-- ---- one row
module _ (d : Float) (l : Column) (i : ℕ) (b : Column) where
  divided : all_finite (set b i (div binary64 (entry b i) d)) ≡ true → all_finite b ≡ true
  divided = set_finite b i _ (quotient_finite (entry b i) d)

  lower_finite : all_finite (lower_row d l i b) ≡ true → all_finite b ≡ true
  unfolding lower_row
  lower_finite h = divided (axpy_finite _ _ l _ h)

  upper_finite : all_finite (upper_row d l i b) ≡ true → all_finite b ≡ true
  unfolding upper_row
  upper_finite h =
      let x = div binary64 (entry b i) d in
      let c = set b i x in
      let above = axpy_from 0 (neg x) (take i l) (take i c) in
      let both = sym (finite_append above (drop i c)) ∙ h in
      let front = axpy_finite 0 (neg x) (take i l) (take i c) (and_first (all_finite above) (all_finite (drop i c)) both) in
      let rest = and_second (all_finite above) (all_finite (drop i c)) both in
      divided (ap all_finite (sym (take-append-drop i c)) ∙ finite_append (take i c) (drop i c) ∙ and_both (all_finite (take i c))
      (all_finite (drop i c)) front rest)

  kept_finite : all_finite (kept_row d l i b) ≡ true → all_finite b ≡ true
  unfolding kept_row
  kept_finite h = axpy_finite _ _ l b h

  transposed_lower_finite : all_finite (transposed_lower_row d l i b) ≡ true → all_finite b ≡ true
  unfolding transposed_lower_row
  transposed_lower_finite = set_finite b i _ (λ h. (difference_finite (entry b i) _ (quotient_finite (less_below l i b) d h)).0)

  transposed_upper_finite : all_finite (transposed_upper_row d l i b) ≡ true → all_finite b ≡ true
  unfolding transposed_upper_row
  transposed_upper_finite =
      set_finite b i _ (λ h. (difference_finite (entry b i) _ (quotient_finite (sub binary64 (entry b i) (dot_of (take i l) (take i b))) d h)).0)

  transposed_unit_lower_finite : all_finite (transposed_unit_lower_row l i b) ≡ true → all_finite b ≡ true
  unfolding transposed_unit_lower_row
  transposed_unit_lower_finite = set_finite b i _ (λ h. (difference_finite (entry b i) _ h).0)

  pub row_finite : (pass : Pass) → all_finite (row_by pass d l i b) ≡ true → all_finite b ≡ true
  row_finite Lower = lower_finite
  row_finite Upper = upper_finite
  row_finite (GivenDiagonal _) = kept_finite
  row_finite TransposedLower = transposed_lower_finite
  row_finite TransposedUpper = transposed_upper_finite
  row_finite (CorrectedDiagonal _) = lower_finite
  row_finite TransposedUnitLower = transposed_unit_lower_finite

-- ---- the turns
module _ (pass : Pass) (n : ℕ) (cs : Matrix) where
  -- THEOREM. Where a right-hand column is finite after a turn, it was before it.
  pub turn_finite : (k : ℕ) (b : Column) → all_finite (turn pass n cs k b) ≡ true → all_finite b ≡ true
  unfolding turn solved_row
  turn_finite k b = let i = row_at pass n k in let l = column cs i in row_finite (divisor pass l i) l i b pass

  -- the same forwards: once a number of it is not finite, some number never is
  pub turn_lasting : (k : ℕ) (b : Column) → all_finite b ≡ false → all_finite (turn pass n cs k b) ≡ false
  turn_lasting k b = lasting (all_finite b) (all_finite (turn pass n cs k b)) (turn_finite k b)

  -- THEOREM. Where the solved column is finite, so is the column after any number of turns, and the one that was given.
  pub turns_finite : (k : ℕ) (b : Column) → k ≤ turns_of pass n → all_finite (solved_column pass n cs b) ≡ true
      → all_finite (turns_from (turn pass n cs) 0 k b) ≡ true
  unfolding solved_column
  turns_finite k b h = passed_then all_finite (turn pass n cs) turn_finite 0 k (turns_of pass n) b h

  pub solved_finite : (b : Column) → all_finite (solved_column pass n cs b) ≡ true → all_finite b ≡ true
  unfolding turns_from
  solved_finite b h = turns_finite 0 b (omega arith) h

  pub solved_lasting : (b : Column) → all_finite b ≡ false → all_finite (solved_column pass n cs b) ≡ false
  solved_lasting b = lasting (all_finite b) (all_finite (solved_column pass n cs b)) (solved_finite b)
