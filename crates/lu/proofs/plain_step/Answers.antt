-- No matrix, no such step, a skipped step, or the step: each by its law (`Slices`). Assumes nothing.
use mathlib.Core.Path.{◌≡◌, sym, ◌∙◌}
use Prim.Native.Nat.{ℕ, ◌+◌, ◌*◌, ◌≤◌, ◌<◌}
use native.Mathlib.Omega.{arith}
use mathlib.Core.Bool.{true}
use lib.ListN.{length}
use Rattle.store.specs.Columns.{is_matrix}
use Rattle.store.proofs.Columns.{sized, column_within}
use Rattle.min_max.proofs.TossUp.{found_row}
use Rattle.lu.proofs.Slices.{pivot_within, plain_none, plain_past, plain_skipped, plain_done}
use Rattle.lu.proofs.plain_step.Goals.{After-icamax-found, Else-min-i}
use Rattle.lu.proofs.plain_step.Goals as goal

-- past the two tests: the matrix, and its row and column i
record Past (m n i : ℕ) (fits : Type 0) : Type 0 where
  matrix : fits
  row : i < m
  column : i < n

past : (c : Else-min-i) → let g = c.args in Past g.m g.n g.i (is_matrix g.s.now g.m g.n ≡ true)
past c =
    record { matrix = sym c.is_matrix.ensures ∙ c.if-not-is_matrix.false; row = omega arith; column = omega arith }

-- column i ends within the store, and the pivot row lies in it
within : (c : Else-min-i) → let g = c.args in g.i * g.m + g.m ≤ length g.s.now
within c =
    let g = c.args in
    let p = past c in
    column_within g.m g.n g.i g.s.now p.column (sized g.m g.n g.s.now p.matrix).size

row : (c : After-icamax-found) → c.icamax-found.result.row < c.args.m
row c =
    let past : let g = c.args in Past g.m g.n g.i (is_matrix g.s.now g.m g.n ≡ true) = record {
      matrix = sym c.is_matrix.ensures ∙ c.if-not-is_matrix.false;
      row = omega arith;
      column = omega arith;
    } in
    let p = past in
    (pivot_within _ _ _ _ _ p.matrix p.row p.column (found_row _ _ _ c.icamax-found.ensures)).1

pub returns-then-not-is_matrix : goal.returns-then-not-is_matrix
returns-then-not-is_matrix c = plain_none _ _ _ _ (sym c.is_matrix.ensures ∙ c.if-not-is_matrix.true)

pub returns-then-min-i : goal.returns-then-min-i
returns-then-min-i c = plain_past _ _ _ _ (rw c.min.ensures at c.if-min-i.true)

pub returns-then-is_zero : goal.returns-then-is_zero
returns-then-is_zero c =
    let p = past (goal.at.returns-then-is_zero c).Else-min-i in
    plain_skipped _ _ _ _ p.matrix p.row p.column _ (found_row _ _ _ c.icamax-found.ensures) (sym c.is_zero.ensures ∙ c.if-is_zero.true)

pub gauss_step-requires : goal.gauss_step-requires
gauss_step-requires c =
    let p = past (goal.at.gauss_step-requires c).Else-min-i in
    (p.matrix, p.row, p.column)

pub returns : goal.returns
returns c =
    let p = past (goal.at.returns c).Else-min-i in
    plain_done _ _ _ _ p.matrix p.row p.column _ (found_row _ _ _ c.icamax-found.ensures) _
    (sym c.is_zero.ensures ∙ c.if-is_zero.false) c.gauss_step.auto.s c.gauss_step.ensures

pub overflow_mul-a : goal.overflow_mul-a
overflow_mul-a c = omega (arith, within c)

pub overflow_add-e : goal.overflow_add-e
overflow_add-e c = omega (arith, within c)

pub offset_bounds-s-a : goal.offset_bounds-s-a
offset_bounds-s-a c = omega (arith, within c)

pub slice_bounds-icamax-end : goal.slice_bounds-icamax-end
slice_bounds-icamax-end c = within c

pub overflow_add-q : goal.overflow_add-q
overflow_add-q c = omega (arith, within (goal.at.overflow_add-q c).Else-min-i, row c)

pub offset_bounds-s-q : goal.offset_bounds-s-q
offset_bounds-s-q c = omega (arith, within (goal.at.offset_bounds-s-q c).Else-min-i, row c)

pub bounds-s-q : goal.bounds-s-q
bounds-s-q c = omega (arith, within (goal.at.bounds-s-q c).Else-min-i, row (goal.at.bounds-s-q c).After-icamax-found)
