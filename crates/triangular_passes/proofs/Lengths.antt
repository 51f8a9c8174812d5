-- Solving keeps the number of rows: each row's work does, by the lengths of its parts, and so do all turns together. Assumes nothing.
use mathlib.Core.Path.{◌≡◌, refl, ◌∙◌}
use Prim.Native.Nat.{ℕ, zero, suc, ◌+◌}
use native.Mathlib.Omega.{arith}
use lib.ListN.{length, length-set, length-take, length-drop, length-append}
use lib.Ieee.{Float}
use Rattle.numbers.specs.Each.{turns_from}
use Rattle.numbers.specs.Column.{Column}
use Rattle.blas.proofs.Rows.{length_axpy}
use Rattle.store.specs.Columns.{HasRows}
use Rattle.store.specs.Steps.{Matrix}
use Rattle.store.proofs.Columns.{each_rows}
use Rattle.triangular_passes.specs.declared.Pass.{Pass}
use Rattle.triangular_passes.specs.declared.Pass.TheVariants.{Lower, Upper, GivenDiagonal, CorrectedDiagonal}
use Rattle.triangular_passes.specs.declared.Pass.TheVariants.{TransposedLower, TransposedUpper, TransposedUnitLower}
use Rattle.triangular_passes.specs.Triangular.{lower_row, upper_row, kept_row, transposed_lower_row, transposed_upper_row, transposed_unit_lower_row, row_by}
use Rattle.triangular_passes.specs.Triangular.{solved_row, turn, solved_column, solved_from}

pub length_row : (pass : Pass) (d : Float) (l : Column) (i : ℕ) (b : Column) → length (row_by pass d l i b) ≡ length b
unfolding lower_row upper_row kept_row transposed_lower_row transposed_upper_row transposed_unit_lower_row
length_row Lower d l i b = simp (length_axpy, length-set)
length_row Upper d l i b = simp (length-append, length_axpy, length-take, length-drop, length-set) (omega arith)
length_row (GivenDiagonal e) d l i b = simp length_axpy
length_row TransposedLower d l i b = simp length-set
length_row TransposedUpper d l i b = simp length-set
length_row (CorrectedDiagonal e) d l i b = simp (length_axpy, length-set)
length_row TransposedUnitLower d l i b = simp length-set

pub length_turns : (f : ℕ → Column → Column) → ((k : ℕ) (s : Column) → length (f k s) ≡ length s) → (k c : ℕ) (s : Column)
    → length (turns_from f k c s) ≡ length s
unfolding turns_from
length_turns f keeps k zero s = refl
length_turns f keeps k (suc c) s = length_turns f keeps (k + 1) c (f k s) ∙ keeps k s

pub length_solved : (pass : Pass) (n : ℕ) (cs : Matrix) (b : Column) → length (solved_column pass n cs b) ≡ length b
unfolding solved_column turn solved_row
length_solved pass n cs b = length_turns (turn pass n cs) (λ k s. length_row pass _ _ _ s) 0 _ b

pub solved_rows : (pass : Pass) (n m : ℕ) (cs : Matrix) (j : ℕ) (bs : Matrix) → HasRows m bs → HasRows m (solved_from pass n cs j bs)
unfolding solved_from
solved_rows pass n m cs j bs = each_rows m _ j bs (λ i b e. length_solved pass n cs b ∙ e)
