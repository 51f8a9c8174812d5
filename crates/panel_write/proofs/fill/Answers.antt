-- What is left to write from line k on is `each_from` from k on, and the lines before it are lines. Assumes nothing.
use Prim.Native.Nat.{ℕ, ◌+◌, ◌*◌}
use mathlib.Core.Path.{sym, ap, ◌∙◌}
use native.Mathlib.Omega.{arith}
use borrow.Author.Count.{below_more}
use borrow.Author.Rules.{rules}
use lib.ListN.{set}
use lib.Ieee.{Float, nan, binary64, of_bits}
use Rattle.numbers.specs.Each.{each_from}
use Rattle.numbers.proofs.Each.{each_step, each_stop, each_list}
use Rattle.panel_write.specs.Text.{LineAt, number_in}
use Rattle.panel_write.proofs.fill.Goals as goal

pub loop-k-preserved : goal.loop-k-preserved
unfolding number_in
loop-k-preserved c =
    let g = c.args in
    let F : ℕ → Float → Float = λ i v. number_in g.lines.now (g.from + i) in
    let e = c.float_of.ensures ∙ ap (of_bits binary64) c.bits_at.ensures in (
      ap (λ (v : Float). each_from F (c.loop-k.k + 1) (set c.loop-k.numbers c.loop-k.k v)) e
          ∙ each_step F c.loop-k.k c.loop-k.numbers nan (search rules) ∙ c.loop-k.invariant.0,
      below_more (λ (j : ℕ). LineAt g.lines.now (17 * (g.from + j))) c.loop-k.k c.loop-k.invariant.1 (c.is_line.ensures.0 c.if-is_line.true),
    )

pub returns-else-is_line-clause-value : goal.returns-else-is_line-clause-value
returns-else-is_line-clause-value c = λ all. sym c.if-is_line.false ∙ c.is_line.ensures.1 (all c.loop-k.k (omega arith))

pub returns-clause-are_lines : goal.returns-clause-are_lines
returns-clause-are_lines c = λ _. (λ j h. c.loop-k.invariant.1 j (omega arith), sym (each_stop _ _ _ (omega arith)) ∙ c.loop-k.invariant.0)

pub loop-k-init : goal.loop-k-init
loop-k-init c = (each_list _ _, λ j h. absurd (omega arith))
