-- What is left of the update from row k on gives the whole; column j is lent as its part, an entry a turn. Assumes nothing.
use Prim.Native.Nat.{◌*◌, ◌+◌, ◌≤◌}
use mathlib.Core.Path.{◌≡◌, sym, ◌∙◌}
use native.Mathlib.Omega.{arith}
use lib.ListN.{length}
use Rattle.store.proofs.Columns.{sized, column_within}
use Rattle.one_step.proofs.Within.{within_start, within_turn, within_stop}
use Rattle.one_step.proofs.step_inner.Goals.{After-slice_known-1, At-loop-k}
use Rattle.one_step.proofs.step_inner.Goals as goal

size : (c : After-slice_known-1) → length c.args.s.now ≡ c.args.n * c.args.m
size c = (sized _ _ _ c.requires.0).size

-- both columns end within the store
within : (c : After-slice_known-1) → let g = c.args in (g.i * g.m + g.m ≤ length g.s.now) × (g.j * g.m + g.m ≤ length g.s.now)
within c =
    (column_within _ _ _ c.args.s.now c.requires.2 (size c), column_within _ _ _ c.args.s.now c.requires.3 (size c))

-- the store has its size all along
size_kept : (c : At-loop-k) → length c.loop-k.s ≡ c.args.n * c.args.m
size_kept c = c.loop-k.auto.s ∙ (sized _ _ _ c.requires.0).size

pub loop-k-init : goal.loop-k-init
loop-k-init c = within_start _ _ _ _ _ c.requires.2 c.requires.3 (size (goal.at.loop-k-init c).After-slice_known-1) c.requires.1

pub loop-k-preserved : goal.loop-k-preserved
loop-k-preserved c =
    let kept = size_kept (goal.at.loop-k-preserved c).At-loop-k in
    within_turn _ _ _ _ _ c.requires.2 c.requires.3 kept _ _ _ c.loop-k-test.true c.step_entry.auto.c c.step_entry.ensures ∙ c.loop-k.invariant

pub returns : goal.returns
returns c =
    let kept = size_kept (goal.at.returns c).At-loop-k in
    sym (within_stop _ _ _ _ _ c.requires.2 c.requires.3 kept _ _ c.loop-k-test.false) ∙ c.loop-k.invariant

pub overflow_mul-a : goal.overflow_mul-a
overflow_mul-a c = omega (arith, within c)

pub overflow_mul-b : goal.overflow_mul-b
overflow_mul-b c = omega (arith, within c)

pub overflow_add-e : goal.overflow_add-e
overflow_add-e c = omega (arith, within c)

pub overflow_add-u : goal.overflow_add-u
overflow_add-u c = omega (arith, within c)

pub offset_bounds-s-b : goal.offset_bounds-s-b
offset_bounds-s-b c = omega (arith, within c)

pub bounds-s-b : goal.bounds-s-b
bounds-s-b c = omega (arith, within (goal.at.bounds-s-b c).After-slice_known-1)

pub overflow_add-p : goal.overflow_add-p
overflow_add-p c = omega (arith, within (goal.at.overflow_add-p c).After-slice_known-1)

pub offset_bounds-s-a : goal.offset_bounds-s-a
offset_bounds-s-a c = omega (arith, within (goal.at.offset_bounds-s-a c).After-slice_known-1)

pub bounds-s-a : goal.bounds-s-a
bounds-s-a c = omega (arith, within (goal.at.bounds-s-a c).After-slice_known-1)

pub offset_bounds-s-b-in-loop-k : goal.offset_bounds-s-b-in-loop-k
offset_bounds-s-b-in-loop-k c = omega (arith, within (goal.at.offset_bounds-s-b-in-loop-k c).After-slice_known-1)

pub slice_bounds-step_entry-end : goal.slice_bounds-step_entry-end
slice_bounds-step_entry-end c = omega (arith, within (goal.at.slice_bounds-step_entry-end c).After-slice_known-1)
