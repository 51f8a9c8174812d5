-- The columns that are left from column j on give the whole. Assumes nothing.
use Prim.Native.Nat.{◌*◌, ◌+◌, ◌≤◌, ◌<◌}
use mathlib.Core.Path.{◌≡◌, refl, sym, ◌∙◌}
use native.Mathlib.Omega.{arith}
use lib.ListN.{length}
use Rattle.store.proofs.Columns.{sized, column_within, on_none, on_done}
use Rattle.store.proofs.Steps.{rows_itself, range_turn, range_stop}
use Rattle.store.proofs.swap_rows.Goals.{In-loop-j}
use Rattle.store.proofs.swap_rows.Goals as goal

-- the store has its size all along, and in a turn column j ends within it
size : (c : In-loop-j) → let g = c.args in length c.loop-j.s ≡ g.n * g.m
size c = c.loop-j.auto.s ∙ (sized _ _ _ (sym c.is_matrix.ensures ∙ c.if-not-is_matrix.false)).size

within : (c : In-loop-j) → let g = c.args in c.loop-j.j * g.m + g.m ≤ length c.loop-j.s
within c =
    let h : c.loop-j.j < c.args.n = omega arith in
    column_within _ _ _ c.loop-j.s h (size c)

pub returns-then-not-is_matrix : goal.returns-then-not-is_matrix
returns-then-not-is_matrix c = on_none _ _ _ _ (sym c.is_matrix.ensures ∙ c.if-not-is_matrix.true)

pub overflow_mul-a : goal.overflow_mul-a
overflow_mul-a c = omega (arith, within c)

pub overflow_add-e : goal.overflow_add-e
overflow_add-e c = omega (arith, within c)

pub offset_bounds-s-a : goal.offset_bounds-s-a
offset_bounds-s-a c = omega (arith, within c)

pub loop-j-preserved : goal.loop-j-preserved
loop-j-preserved c =
    let here = rw c.min-end.ensures at c.loop-j-test.true in
    range_turn _ _ _ _ _ _ _ _ here (size (goal.at.loop-j-preserved c).In-loop-j) c.swap.auto.col c.swap.ensures ∙ c.loop-j.invariant

-- a row exchanged with itself
pub returns-then-i-p : goal.returns-then-i-p
returns-then-i-p c = on_done _ _ _ _ _ (sym c.is_matrix.ensures ∙ c.if-not-is_matrix.false) refl (rows_itself _ _ _ _ _ c.if-i-p.true)

pub returns : goal.returns
returns c =
    let past = rw c.min-end.ensures at c.loop-j-test.false in
    on_done _ _ _ _ _ (sym c.is_matrix.ensures ∙ c.if-not-is_matrix.false) c.loop-j.auto.s (sym (range_stop _ _ _ _ _ _ _ past) ∙ c.loop-j.invariant)

pub slice_bounds-swap-end : goal.slice_bounds-swap-end
slice_bounds-swap-end c = within c
