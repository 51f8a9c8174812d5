-- After k columns the slices hold the outcome of factoring the first k (`Build`). Assumes nothing.
use Prim.Native.Nat.{ℕ, ◌*◌, ◌+◌, ◌<◌}
use mathlib.Core.Path.{◌≡◌, refl, sym, ap, ◌∙◌}
use mathlib.Core.List.{◌++◌}
use native.Mathlib.Omega.{arith}
use lib.ListN.{length, take, drop, length-drop}
use lib.Seq.{length-take-le, length_front}
use Rattle.numbers.specs.Column.{Column}
use Rattle.store.proofs.Columns.{column_within}
use Rattle.lu.proofs.Shape.{ok}
use Rattle.building_up.proofs.Build.{building_none, Grown, went_on, gave_up, all_added, not_added}
use Rattle.building_up.proofs.add_all.Goals.{In-Ok}
use Rattle.building_up.proofs.add_all.Goals as goal

-- the slot behind the k columns
slot_long : (m n k : ℕ) (out : Column) → k < n → length out ≡ n * m → length (take m (drop (k * m) out)) ≡ m
slot_long m n k out h long =
    length-take-le m (drop (k * m) out) (omega (arith, column_within m n k out h long, length-drop (k * m) out))

-- a record was answered: one column more
grown : (c : In-Ok) → let g = c.args in
    Grown g.m c.loop-k.k g.a.now c.in-Ok.added.told c.in-Ok.added.toss_ups
    (c.add_column.new.s ++ drop (c.loop-k.k * g.m + g.m) c.loop-k.out)
    c.add_column.new.swaps
grown c =
    let t = c.loop-k-test.true in
    let long = c.loop-k.invariant.long in
    went_on _ _ _ _ _ c.requires.swaps_value _ t _ (slot_long _ _ _ c.loop-k.out t long) _ c.loop-k.invariant.accepted _ _ _ _ _
    (column_within _ _ _ c.loop-k.out t long)
    c.loop-k.invariant.front_is c.loop-k.invariant.store_is refl c.add_column.ensures.result_value c.add_column.ensures.s_after
    c.add_column.ensures.swaps_after _ c.in-Ok.is

pub loop-k-init : goal.loop-k-init
loop-k-init c = building_none _ _ _ _ _ c.requires.swaps_value _ _ c.requires.swaps_value_2 refl

pub returns-in_default : goal.returns-in_default
returns-in_default c =
    let t = c.loop-k-test.true in
    let long = c.loop-k.invariant.long in
    not_added _ _ _ _ _ c.requires.swaps_value _ _
    (gave_up _ _ _ _ _ c.requires.swaps_value _ t _ (slot_long _ _ _ c.loop-k.out t long) _ c.loop-k.invariant.accepted _ _
    _ _ _ (column_within _ _ _ c.loop-k.out t long)
    c.loop-k.invariant.front_is c.loop-k.invariant.store_is refl c.add_column.ensures.result_value c.add_column.ensures.s_after
    c.add_column.ensures.swaps_after _ c.in_default.is)

pub overflow_add-tossed : goal.overflow_add-tossed
overflow_add-tossed c =
    let next = grown (goal.at.overflow_add-tossed c).In-Ok in
    omega (arith, c.loop-k.invariant.few, next.at_most_one, (ok _ _ _ _ _ c.requires.swaps_value).cols.at_most)

pub loop-k-preserved : goal.loop-k-preserved
loop-k-preserved c =
    let next = grown (goal.at.loop-k-preserved c).In-Ok in
    record {
      whole = c.loop-k.invariant.whole;
      long = length_front c.loop-k.out c.add_column.new.s (c.loop-k.k * c.args.m + c.args.m) c.add_column.auto.s ∙ c.loop-k.invariant.long;
      accepted = next.accepted;
      front_is = next.front_is;
      store_is = next.store_is;
      counted = ap (λ (t : ℕ). t + c.in-Ok.added.toss_ups) c.loop-k.invariant.counted ∙ sym next.counted;
      few = omega (arith, c.loop-k.invariant.few, next.at_most_one);
    }

pub returns : goal.returns
returns c =
    let g = c.args in
    let e : c.loop-k.k ≡ g.n = omega arith in
    all_added g.m g.n g.a.now _ _ c.requires.swaps_value c.loop-k.out c.loop-k.swaps c.loop-k.told c.loop-k.tossed (rw e at c.loop-k.invariant.counted)
    c.loop-k.invariant.long (rw e at c.loop-k.invariant.accepted) (rw e at c.loop-k.invariant.front_is) (rw e at c.loop-k.invariant.store_is)
