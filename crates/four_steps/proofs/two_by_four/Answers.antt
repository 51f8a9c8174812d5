-- What is left of the two columns, the rows from row k on, gives the whole (`fours_left`); what the steps multiply by stays. Assumes nothing.
use Prim.Native.Nat.{◌≤◌}
use mathlib.Core.Path.{refl, ◌∙◌}
use native.Mathlib.Omega.{arith}
use Rattle.store.proofs.Columns.{sized, same_matrix}
use Rattle.four_steps.proofs.Left.{fours_first, fours_second, fours_left}
use Rattle.four_steps.proofs.two_by_four.Goals.{At-loop-k}
use Rattle.four_steps.proofs.two_by_four.Goals as goal

-- the rows are few
few : (c : At-loop-k) → (c.loop-k.k ≤ c.args.m) × (c.args.m ≤ 64)
few c = (c.loop-k.invariant.2, (sized _ _ _ c.requires.0).rows_most)

pub loop-k-init : goal.loop-k-init
loop-k-init c = (refl, omega arith, c.requires.1, c.minus-f.ensures, c.minus-g.ensures, refl)

pub numbers-x-requires : goal.numbers-x-requires
numbers-x-requires c =
    let h = c.requires in
    (same_matrix _ _ _ _ c.loop-k.invariant.0 ∙ h.0, h.2, omega arith, c.loop-k-test.true)

pub numbers-y-requires : goal.numbers-y-requires
numbers-y-requires c =
    let h = c.requires in
    (same_matrix _ _ _ _ c.loop-k.invariant.0 ∙ h.0, omega arith, omega (arith, h.3), c.loop-k-test.true)

pub write_four-requires : goal.write_four-requires
write_four-requires c =
    let h = c.requires in
    (same_matrix _ _ _ _ c.loop-k.invariant.0 ∙ h.0, omega arith, c.loop-k-test.true)

pub write_four-requires-in-loop-k : goal.write_four-requires-in-loop-k
write_four-requires-in-loop-k c =
    let h = c.requires in
    (same_matrix _ _ _ _ (c.write_four.auto.s ∙ c.loop-k.invariant.0) ∙ h.0, h.3, c.loop-k-test.true)

pub loop-k-preserved : goal.loop-k-preserved
loop-k-preserved c =
    let h = c.requires in
    let len = c.loop-k.invariant.0 ∙ (sized _ _ _ h.0).size in
    let room = c.loop-k-test.true in (
      c.write_four-in-loop-k.auto.s ∙ c.write_four.auto.s ∙ c.loop-k.invariant.0,
      omega arith,
      room,
      fours_first _ _ _ _ _ _ _ _ _ _ _ _ len h.2 c.loop-k.invariant.1 h.3 room c.loop-k.invariant.3 c.loop-k.invariant.4 c.write_four.ensures
          c.write_four-in-loop-k.ensures,
      fours_second _ _ _ _ _ _ _ _ _ _ _ _ len h.2 c.loop-k.invariant.1 h.3 room c.loop-k.invariant.3 c.loop-k.invariant.4 c.write_four.ensures
          c.write_four-in-loop-k.ensures,
      fours_left _ _ _ _ _ _ _ _ _ _ _ _ len h.2 c.loop-k.invariant.1 h.3 room c.loop-k.invariant.3 c.loop-k.invariant.4 c.write_four.ensures
          c.write_four-in-loop-k.ensures
          c.numbers-x.ensures c.numbers-y.ensures ∙ c.loop-k.invariant.5,
    )

pub returns : goal.returns
returns c =
    record { lower_bound = (c.loop-k.invariant.1, c.loop-k.invariant.2, omega (arith, c.loop-k-test.false)); s_after = c.loop-k.invariant.5 }

pub overflow_add-k-in-loop-k-2 : goal.overflow_add-k-in-loop-k-2
overflow_add-k-in-loop-k-2 c = omega (arith, few (goal.at.overflow_add-k-in-loop-k-2 c).At-loop-k)

pub loop-k-smaller : goal.loop-k-smaller
loop-k-smaller c = omega (arith, c.loop-k-test.true)

pub minus-f-requires : goal.minus-f-requires
minus-f-requires c = let h = c.requires in (h.0, h.1, omega (arith, h.3))

pub minus-g-requires : goal.minus-g-requires
minus-g-requires c = let h = c.requires in (h.0, h.1, h.3)

pub overflow_add-k-in-loop-k : goal.overflow_add-k-in-loop-k
overflow_add-k-in-loop-k c = omega (arith, few c)
