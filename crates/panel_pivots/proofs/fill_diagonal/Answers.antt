-- What is left to copy from number i on is `each_from` from i on. Assumes nothing.
use Prim.Native.Nat.{ℕ, ◌+◌, ◌*◌, ◌<◌, ◌≤◌}
use mathlib.Core.Path.{sym, ap, ◌∙◌}
use native.Mathlib.Omega.{arith}
use lib.ListN.{length}
use lib.Ieee.{Float, nan}
use Rattle.numbers.specs.Each.{list_of}
use Rattle.numbers.specs.Column.{entry}
use Rattle.numbers.proofs.Each.{each_step, each_stop, each_list}
use Rattle.store.proofs.Columns.{column_within}
use Rattle.panel_pivots.proofs.fill_diagonal.Goals.{In-loop-i}
use Rattle.panel_pivots.proofs.fill_diagonal.Goals as goal

-- in a turn, column i ends within the factors
within : (c : In-loop-i) → c.loop-i.i * c.args.n + c.args.n ≤ length c.args.t.now
within c = let h : c.loop-i.i < c.args.n = omega (arith, c.requires.2) in column_within _ _ _ c.args.t.now h c.requires.1

pub loop-i-preserved : goal.loop-i-preserved
loop-i-preserved c =
    let g = c.args in
    let F : ℕ → Float → Float = λ k v. entry g.t.now (k * g.n + k) in
    each_step F c.loop-i.i c.loop-i.pivots nan (omega arith) ∙ c.loop-i.invariant

pub returns : goal.returns
returns c =
    sym (each_stop _ _ _ (omega arith)) ∙ c.loop-i.invariant ∙ ap (λ (n : ℕ). list_of n (λ k. entry c.args.t.now (k * c.args.n + k))) c.requires.2

pub loop-i-init : goal.loop-i-init
loop-i-init c = each_list _ _

pub overflow_mul-pivot : goal.overflow_mul-pivot
overflow_mul-pivot c = omega (arith, within (goal.at.overflow_mul-pivot c).In-loop-i)

pub overflow_add-pivot : goal.overflow_add-pivot
overflow_add-pivot c = omega (arith, within (goal.at.overflow_add-pivot c).In-loop-i)

pub offset_bounds-t-i : goal.offset_bounds-t-i
offset_bounds-t-i c = omega (arith, within (goal.at.offset_bounds-t-i c).In-loop-i)

pub bounds-t-i : goal.bounds-t-i
bounds-t-i c = omega (arith, within (goal.at.bounds-t-i c).In-loop-i)
