-- Document 02, request 8, for overflow in solving: "which pass, which right-hand column, which row, again the first in the crate's order". A pass takes the
-- right-hand columns one after the other, and each of them turn by turn. A turn first stores in its own row, where it stores there at all, then in others from
-- the top down.
use Rattle.std.specs.Prelude.{Bool, cond, [], ◌∷◌, ℕ, suc, leb, ltb, eqb}
use Rattle.std.proofs.Math.Option.{Option, none, some}
use Rattle.std.specs.Float.Ieee.Scale.{finite}
use Rattle.numbers.specs.First.{first_failing, first_turn, first_some}
use Rattle.numbers.specs.Numbers.{is_zero}
use Rattle.numbers.specs.Column.{Column, entry}
use Rattle.finite.specs.Finite.{all_finite}
use Rattle.store.specs.Steps.{Matrix}
use Rattle.triangular_passes.specs.declared.Pass.{Pass}
use Rattle.triangular_passes.specs.declared.Pass.TheVariants.{Lower, Upper, GivenDiagonal, CorrectedDiagonal}
use Rattle.triangular_passes.specs.declared.Pass.TheVariants.{TransposedLower, TransposedUpper, TransposedUnitLower}
use Rattle.triangular_passes.specs.Triangular.{row_at, turns_of, turn}

-- the pass and the turn that stored a number, its right-hand column and its row
pub record Stored : Type 0 where
  pub pass : Pass
  pub column : ℕ
  pub turn : ℕ
  pub row : ℕ

-- a turn whose own row is i stores in row r
abbrev pub stores : Pass → ℕ → ℕ → Bool
stores Lower i r = leb i r
stores Upper i r = leb r i
stores (GivenDiagonal d) i r = ltb i r
stores TransposedLower i r = eqb r i
stores TransposedUpper i r = eqb r i
stores (CorrectedDiagonal d) i r = leb i r
stores TransposedUnitLower i r = eqb r i

-- the first row that turn k of n stored a number in that is not finite, the column c being finite before it
unfoldable pub first_row : Pass → ℕ → ℕ → Column → ℕ
first_row pass n k c = cond (finite (entry c (row_at pass n k))) (first_failing finite c) (row_at pass n k)

-- the first stored result of right-hand column j, which is b, that is not finite, cs being the columns of the matrix
unfoldable pub first_in_column : Pass → ℕ → Matrix → ℕ → Column → Option Stored
first_in_column pass n cs j b =
    first_turn all_finite (λ k c. some (record { pass = pass; column = j; turn = k; row = first_row pass n k c })) none (turn pass n cs) 0 (turns_of pass n) b

-- the first of a pass over the right-hand columns bs
unfoldable pub first_in_pass : Pass → ℕ → Matrix → Matrix → Option Stored
first_in_pass pass n cs bs = first_some (first_in_column pass n cs) 0 bs

-- "for a singular solve it gives the lowest column with a zero diagonal": from row i on, cs being the columns from column i on
unfoldable pub lowest_zero : ℕ → Matrix → Option ℕ
lowest_zero i [] = none
lowest_zero i (c ∷ cs) = cond (is_zero (entry c i)) (some i) (lowest_zero (suc i) cs)
