-- The loops of a solve in the terms of its meaning: which row a turn works on, what a turn makes of a column, and that no turn changes how
-- many rows there are. By cases on the kind of solve. Assumes nothing.
use mathlib.Core.Path.{◌≡◌, ap, ◌∙◌}
use Prim.Native.Nat.{ℕ, ◌+◌, ◌-◌, ◌*◌, ◌≤◌, ◌<◌}
use native.Mathlib.Omega.{arith}
use borrow.Rule.Slice.PartMut.{mid_of}
use lib.ListN.{length, drop, length-drop}
use lib.Seq.{take_all}
use Rattle.numbers.specs.Column.{Column}
use Rattle.store.specs.Columns.{columns}
use Rattle.store.specs.Steps.{column}
use Rattle.numbers.proofs.Each.{turns_begin, turns_next, turns_done}
use Rattle.store.proofs.Columns.{part_column, sized, column_within, column_length}
use Rattle.triangular_passes.specs.declared.Pass.{Pass}
use Rattle.triangular_passes.specs.declared.Pass.TheVariants.{Lower, Upper, GivenDiagonal, CorrectedDiagonal}
use Rattle.triangular_passes.specs.declared.Pass.TheVariants.{TransposedLower, TransposedUpper, TransposedUnitLower}
use Rattle.triangular_passes.specs.Triangular.{solved_row, row_at, turns_of, turn}

-- no more turns than rows, and each turn's row is one
pub turns_most : (pass : Pass) (n : ℕ) → turns_of pass n ≤ n
turns_most Lower n = omega arith
turns_most Upper n = omega arith
turns_most (GivenDiagonal d) n = omega arith
turns_most TransposedLower n = omega arith
turns_most TransposedUpper n = omega arith
turns_most (CorrectedDiagonal d) n = omega arith
turns_most TransposedUnitLower n = omega arith

pub row_below : (pass : Pass) (n k : ℕ) → k < n → row_at pass n k < n
row_below Lower n k h = h
row_below Upper n k h = omega arith
row_below (GivenDiagonal d) n k h = h
row_below TransposedLower n k h = omega arith
row_below TransposedUpper n k h = h
row_below (CorrectedDiagonal d) n k h = h
row_below TransposedUnitLower n k h = omega arith

-- the row that a loop of `turns` turns works on
pub turn_row : (pass : Pass) (n k turns i : ℕ) → turns ≡ turns_of pass n → k < turns → i ≡ row_at pass n k → i < n
turn_row pass n k turns i all h row = rw row (row_below pass n k (omega (arith, turns_most pass n)))

-- the rows from a on, as the part of a slice that runs to its end
pub rest_part : (a : ℕ) (s : Column) → mid_of a (length s - a) s ≡ drop a s
rest_part a s =
    let len : length (drop a s) ≤ length s - a = omega (arith, length-drop a s) in
    take_all (length s - a) (drop a s) len

-- turn k, with the matrix's column as a part of its slice
pub turn_done : (pass : Pass) (n k i : ℕ) (t b c : Column) → i ≡ row_at pass n k → i < n → c ≡ solved_row pass (mid_of (i * n) (i * n + n - i * n) t) i b
    → c ≡ turn pass n (columns n n t) k b
unfolding turn
turn_done pass n k i t b c row h made =
    made ∙ ap (λ (l : Column). solved_row pass l i b) (part_column n n i t h) ∙ ap (λ (r : ℕ). solved_row pass (column (columns n n t) r) r b) row

-- what one turn needs, and what a loop over the turns does
pub ruleset turn_laws = (turns_most, turn_row, turn_done, column_within, column_length, sized)

pub ruleset loop_laws = (turns_begin, turns_next, turns_done)
