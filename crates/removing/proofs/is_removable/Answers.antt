-- The one test or the other by whether the last pair goes. Assumes nothing.
use mathlib.Core.Path.{sym, ap, ◌∙◌}
use Prim.Native.Nat.{ℕ, ◌<◌}
use native.Mathlib.Omega.{arith}
use lib.Dec.{leb}
use Rattle.removing.proofs.Undone.{undoes_some}
use Rattle.removing.proofs.Removes.{undoing_test, kept_test}
use Rattle.removing.proofs.is_removable.Goals.{Then-undoes_swap}
use Rattle.removing.proofs.is_removable.Goals as goal

-- where the last pair goes there is one
some : (c : Then-undoes_swap) → 0 < c.args.pairs
some c = undoes_some _ _ _ (sym c.undoes_swap.ensures ∙ c.if-undoes_swap.true)

pub returns-then-undoes_swap : goal.returns-then-undoes_swap
returns-then-undoes_swap c =
    undoing_test _ _ _ _ c.requires.1 (some (goal.at.returns-then-undoes_swap c).Then-undoes_swap) (sym c.undoes_swap.ensures ∙ c.if-undoes_swap.true)

pub returns : goal.returns
returns c =
    let g = c.args in
    ap (λ (k : ℕ). leb g.pairs k) c.min.ensures ∙ kept_test _ _ _ _ (sym c.undoes_swap.ensures ∙ c.if-undoes_swap.false)

pub overflow_sub-result : goal.overflow_sub-result
overflow_sub-result c = omega (arith, some c)

pub bounds-swaps-pairs : goal.bounds-swaps-pairs
bounds-swaps-pairs c = omega (arith, some (goal.at.bounds-swaps-pairs c).Then-undoes_swap)
