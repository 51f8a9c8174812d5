-- By the test of the list: a good one has its pairs within the store. Assumes nothing.
use mathlib.Core.Path.{◌≡◌, sym, ap, ◌∙◌}
use mathlib.Core.Bool.{false≢true}
use Prim.Native.Nat.{ℕ, min}
use native.Mathlib.Omega.{arith}
use Rattle.swap_list.specs.SwapList.{pairs_of, good_list}
use Rattle.swap_list.proofs.SwapList.{Good, good}
use Rattle.removing.specs.Removing.{good_undoing}
use Rattle.removing.proofs.is_good_to_remove.Goals.{Then-is_good_list}
use Rattle.removing.proofs.is_good_to_remove.Goals as goal

its : (c : Then-is_good_list) → let g = c.args in
    Good g.told.rows (min g.told.rows g.told.columns) g.told.pairs g.swaps.now
its c =
    let listed : let r = c.args.told in c.is_good_list.result ≡ good_list c.args.swaps.now r.pairs r.rows (min r.rows r.columns) = let g = c.args in
    c.is_good_list.ensures ∙ ap (λ (k : ℕ). good_list g.swaps.now g.told.pairs g.told.rows k) c.min.ensures in
    good _ _ _ _ (sym listed ∙ c.if-is_good_list.true)

pub is_removable-requires : goal.is_removable-requires
is_removable-requires c =
    let list = its (goal.at.is_removable-requires c).Then-is_good_list in
    let few = list.few in
    (list.room, omega arith)

pub returns-then-is_good_list : goal.returns-then-is_good_list
returns-then-is_good_list c =
    let g = c.args in
    record {
      good = λ _. c.is_removable.ensures
          ∙ ap (λ (k : ℕ). good_undoing g.told.rows k (pairs_of g.told.pairs g.swaps.now)) c.saturating_sub.ensures;
    }

pub returns : goal.returns
returns c =
    let listed : let r = c.args.told in c.is_good_list.result ≡ good_list c.args.swaps.now r.pairs r.rows (min r.rows r.columns) = let g = c.args in
    c.is_good_list.ensures ∙ ap (λ (k : ℕ). good_list g.swaps.now g.told.pairs g.told.rows k) c.min.ensures in
    record { good = λ t. absurd (false≢true (sym (sym listed ∙ c.if-is_good_list.false) ∙ t)) }
