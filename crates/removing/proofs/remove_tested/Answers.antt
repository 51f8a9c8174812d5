-- The slot zeroed; then no pair goes, or the last one is undone: each by its law (`Removes`). Assumes nothing.
use mathlib.Core.Path.{◌≡◌, sym, ap, ◌∙◌}
use Prim.Native.Nat.{ℕ, ◌+◌, ◌-◌, ◌<◌}
use native.Mathlib.Omega.{arith}
use Rattle.store.specs.Columns.{columns}
use Rattle.dead_columns.specs.Dead.{dead_in}
use Rattle.removing.proofs.Undone.{undoes_some}
use Rattle.removing.proofs.Removes.{dead_split, promise_kept, promise_undone}
use Rattle.removing.proofs.remove_tested.Goals.{After-struct_known-2-1, After-undo-arg-then-undoes_swap-1}
use Rattle.removing.proofs.remove_tested.Goals as goal

-- the number without the last column is that of the older ones
older_dead : (c : After-struct_known-2-1) → let told = c.args.told in
    told.dead ≡ dead_in told.rows (columns told.rows (told.columns - 1) c.args.s.now) + c.dead_at-own.result
older_dead c =
    let told = c.args.told in
    let older = dead_in told.rows (columns told.rows (told.columns - 1) c.args.s.now) in
    dead_split told _ _ c.requires ∙ ap (λ (k : ℕ). older + k) (sym c.dead_at-own.ensures.0)

-- the last pair goes, so there is one
some : (c : After-undo-arg-then-undoes_swap-1) → 0 < c.args.told.pairs
some c = undoes_some _ _ _ (sym c.undoes_swap.ensures ∙ c.if-undoes_swap.true)

pub overflow_sub-dead : goal.overflow_sub-dead
overflow_sub-dead c = omega (arith, older_dead c)

pub undo-requires : goal.undo-requires
undo-requires c =
    let go = c.requires in
    let few = go.few in
    let more = go.some in
    (omega arith, some c, go.few_pairs, go.room)

pub overflow_sub-result : goal.overflow_sub-result
overflow_sub-result c = some (goal.at.overflow_sub-result c).After-undo-arg-then-undoes_swap-1

pub returns-then-undoes_swap : goal.returns-then-undoes_swap
returns-then-undoes_swap c =
    promise_undone _ _ _ c.requires _ c.fill_zero.auto.s c.fill_zero.ensures _ _ _
    (omega (arith, older_dead (goal.at.returns-then-undoes_swap c).After-struct_known-2-1))
    (some (goal.at.returns-then-undoes_swap c).After-undo-arg-then-undoes_swap-1)
    (sym c.undoes_swap.ensures ∙ c.if-undoes_swap.true) c.undo.auto.s c.undo.ensures.s_after c.undo.ensures.swaps_after

pub returns : goal.returns
returns c =
    promise_kept _ _ _ c.requires _ c.fill_zero.auto.s c.fill_zero.ensures _ (omega (arith, older_dead (goal.at.returns c).After-struct_known-2-1))
    (sym c.undoes_swap.ensures ∙ c.if-undoes_swap.false)
