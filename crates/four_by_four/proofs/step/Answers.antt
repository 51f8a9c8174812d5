-- By the law of a step. Assumes nothing.
use borrow.Author.Rules.{rules}
use mathlib.Core.Path.{◌≡◌, sym, ap, ap₂, ◌∙◌}
use Prim.Native.Nat.{◌+◌}
use lib.Ieee.{Float, binary64, div}
use Rattle.numbers.specs.Numbers.{one64, is_zero}
use Rattle.numbers.specs.Column.{Column, entry}
use Rattle.min_max.specs.Pivot.{pivot_row}
use Rattle.blas.specs.Blas.{scale_from}
use Rattle.store.specs.Steps.{column}
use Rattle.elimination.specs.Elimination.{multipliers}
use Rattle.four_by_four.specs.System.{matrix_of}
use Rattle.four_by_four.proofs.Steps.{within, skipped, stepped}
use Rattle.four_by_four.proofs.step.Goals.{After-entry-d, After-pivot-p}
use Rattle.four_by_four.proofs.step.Goals as goal

found : (c : After-pivot-p) → let a = c.args in c.pivot-p.result ≡ pivot_row a.i (column (matrix_of a.s) a.i)
found c = c.pivot-p.ensures ∙ ap (pivot_row c.args.i) c.column-c.ensures

-- the pivot where it stands after the exchange
there : (c : After-entry-d) → let i = c.args.i in
    c.entry-d.result ≡ entry (column (matrix_of c.swapped-t.result) i) i
there c = c.entry-d.ensures ∙ ap (λ (q : Column). entry q c.args.i) c.column-q.ensures

pub swapped-t-requires : goal.swapped-t-requires
swapped-t-requires c =
    let a = c.args in
    let h = within a.i c.pivot-p.result c.requires a.s (found c) in
    search rules

pub returns-then-is_zero : goal.returns-then-is_zero
returns-then-is_zero c =
    skipped c.args.i _ c.requires c.args.s (found (goal.at.returns-then-is_zero c).After-pivot-p) c.swapped-t.result c.swapped-t.ensures
    (ap is_zero (sym (there (goal.at.returns-then-is_zero c).After-entry-d)) ∙ sym c.is_zero.ensures ∙ c.if-is_zero.true)

pub returns : goal.returns
unfolding multipliers
returns c =
    let i = c.args.i in
    let l = c.scaled-l.ensures
    ∙ ap₂ (λ (x : Float) (q : Column). scale_from (i + 1) (div binary64 one64 x) q) (there (goal.at.returns c).After-entry-d) c.column-q.ensures in
    stepped i _ c.requires c.args.s (found (goal.at.returns c).After-pivot-p) c.swapped-t.result c.swapped-t.ensures
    (ap is_zero (sym (there (goal.at.returns c).After-entry-d)) ∙ sym c.is_zero.ensures ∙ c.if-is_zero.false) _ l _
    c.eliminated-system.ensures.0 c.eliminated-system.ensures.1
