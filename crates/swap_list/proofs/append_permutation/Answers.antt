-- By the refusal, and by the test for two different numbers, which have their place in the store where they are not refused. Assumes nothing.
use mathlib.Core.Path.{sym}
use native.Mathlib.Omega.{arith}
use lib.ListN.{length-set}
use Rattle.swap_list.specs.SwapList.{with_pair}
use Rattle.swap_list.proofs.Appending.{room, outcome_refused, outcome_same, outcome_pair}
use Rattle.swap_list.proofs.append_permutation.Goals as goal

pub returns-in-Err : goal.returns-in-Err
returns-in-Err c =
    let whole = outcome_refused _ _ _ _ _ _ (rw c.in-Err.is at c.test_appending.ensures) in
    record { result_value = whole.0; count_value = whole.1.0; swaps_after = whole.1.1 }

pub returns-then-i-i2 : goal.returns-then-i-i2
returns-then-i-i2 c =
    let whole = outcome_same _ _ _ _ _ (sym (rw c.in-Ok.is at c.test_appending.ensures)) c.if-i-i2.true in
    record { result_value = whole.0; count_value = whole.1.0; swaps_after = whole.1.1 }

pub bounds-swaps-pairs-2 : goal.bounds-swaps-pairs-2
bounds-swaps-pairs-2 c = simp length-set (omega (arith, room _ _ _ _ _ (sym (rw c.in-Ok.is at c.test_appending.ensures)) c.if-i-i2.false))

pub returns : goal.returns
unfolding with_pair
returns c =
    let whole = outcome_pair _ _ _ _ _ (sym (rw c.in-Ok.is at c.test_appending.ensures)) c.if-i-i2.false in
    record { result_value = whole.0; count_value = whole.1.0; swaps_after = whole.1.1 }
