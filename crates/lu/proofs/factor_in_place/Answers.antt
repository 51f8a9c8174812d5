-- After each panel the slices hold the factors of its last step; the steps that are left give the elimination. Assumes nothing.
use Prim.Native.Nat.{◌+◌, ◌-◌, ◌≤◌, min}
use native.Mathlib.Nat.{zero-add, add_assoc}
use mathlib.Core.Bool.{true}
use mathlib.Core.Path.{◌≡◌, sym, ap, ◌∙◌}
use mathlib.Core.List.{[]}
use native.Mathlib.Omega.{arith}
use lib.ListN.{length}
use Rattle.numbers.specs.Each.{turns_from}
use Rattle.store.specs.Columns.{columns, is_matrix}
use Rattle.store.proofs.Columns.{sized, same_matrix}
use Rattle.elimination.specs.Elimination.{step, unfactored}
use Rattle.elimination.specs.TossUps.{toss_from}
use Rattle.lu.proofs.Slices.{held_unfactored, steps_begin}
use Rattle.elimination.proofs.Step.{turns_join}
use Rattle.factors.proofs.Swaps.{length_store}
use Rattle.elimination.proofs.Tossing.{toss_begin, toss_join}
use Rattle.lu.proofs.factor_in_place.Goals.{After-factor_panel-arg-in-loop-i-1, At-loop-i}
use Rattle.lu.proofs.factor_in_place.Goals as goal

-- more than eight steps are left
left : (c : After-factor_panel-arg-in-loop-i-1) → let g = c.args in
    (c.loop-i.i + 4 ≤ min g.m g.n) × (c.min-min_nrows_ncols.result ≡ min g.m g.n) × (g.m ≤ 64)
left c =
    let e = c.min-min_nrows_ncols.ensures in
    (omega (arith, e, c.loop-i-test.true), e, (sized _ _ _ c.requires.0).rows_most)

-- the sizes that both calls ask for
sizes : (c : At-loop-i) → let g = c.args in (is_matrix c.loop-i.s g.m g.n ≡ true) × (length c.loop-i.swaps ≡ 128)
sizes c = (same_matrix _ _ _ _ c.loop-i.auto.s ∙ c.requires.0, c.loop-i.auto.swaps ∙ ap length c.requires.1 ∙ length_store [] (omega arith))

pub loop-i-init : goal.loop-i-init
loop-i-init c =
    let g = c.args in
    let size = (sized g.m g.n g.s.now c.requires.0).size in (
      omega arith,
      (omega arith, omega arith),
      (
        unfactored (columns g.m g.n g.s.now),
        (
          held_unfactored g.m g.n g.s.now g.swaps.now size c.requires.1,
          steps_begin g.m g.n g.s.now,
          zero-add (toss_from 0 (min g.m g.n - 0) (unfactored (columns g.m g.n g.s.now))) ∙ toss_begin g.m g.n g.s.now,
        ),
      ),
    )

pub factor_panel-counts-requires-clause-n_value : goal.factor_panel-counts-requires-clause-n_value
factor_panel-counts-requires-clause-n_value c = sizes (goal.at.factor_panel-counts-requires-clause-n_value c).At-loop-i

pub loop-i-preserved : goal.loop-i-preserved
loop-i-preserved c =
    let g = c.args in
    let i = c.loop-i.i in
    let end = min g.m g.n in
    let here = (left (goal.at.loop-i-preserved c).After-factor_panel-arg-in-loop-i-1).0 in
    let f = c.loop-i.invariant.2.0 in
    let h = c.loop-i.invariant.2.1.0 in
    let four = i + 4 - i in
    let there : i + 4 ≡ i + four = omega arith in
    let whole : four + (end - (i + 4)) ≡ end - i = omega arith in
    let f' = turns_from step i four f in
    let steps : turns_from step (i + 4) (end - (i + 4)) f' ≡ turns_from step i (end - i) f =
    ap (λ j. turns_from step j (end - (i + 4)) f') there ∙ turns_join step i four (end - (i + 4)) f ∙ ap (λ j. turns_from step i j f) whole in
    let toss : toss_from i four f + toss_from (i + 4) (end - (i + 4)) f' ≡ toss_from i (end - i) f =
    ap (λ j. toss_from i four f + toss_from j (end - (i + 4)) f') there ∙ sym (toss_join four i (end - (i + 4)) f) ∙ ap (λ j. toss_from i j f) whole in (
      here,
      (c.factor_panel-counts.ensures.few.0, c.factor_panel-counts.ensures.few.1),
      (
        f',
        (
          c.factor_panel-counts.ensures.steps f h,
          steps ∙ c.loop-i.invariant.2.1.1,
          ap (λ t. t + toss_from (i + 4) (end - (i + 4)) f') (c.factor_panel-counts.ensures.toss f h)
              ∙ add_assoc c.loop-i.counts.tossed (toss_from i four f) (toss_from (i + 4) (end - (i + 4)) f')
              ∙ ap (λ t. c.loop-i.counts.tossed + t) toss
              ∙ c.loop-i.invariant.2.1.2,
        ),
      ),
    )

pub factor_steps-requires-clause-n_value : goal.factor_steps-requires-clause-n_value
factor_steps-requires-clause-n_value c = sizes (goal.at.factor_steps-requires-clause-n_value c).At-loop-i
