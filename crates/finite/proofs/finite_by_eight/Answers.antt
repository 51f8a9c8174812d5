-- Fewer than eight entries are all rest. Else eight products take a block a turn: what they tell and what is left behind the blocks so far give the
-- answer. Assumes nothing.
use Prim.Native.Nat.{ℕ, ◌-◌, ◌/◌}
use mathlib.Core.Path.{◌≡◌, refl, sym, ap, ap₂, ◌∙◌}
use mathlib.Core.Bool.{◌&&◌}
use native.Mathlib.Omega.{arith}
use lib.ListN.{length, take, drop, length-drop}
use lib.Seq.{take-length}
use lib.Ieee.{of_bits}
use Rattle.numbers.specs.Each.{each_from}
use Rattle.numbers.specs.Column.{Column}
use Rattle.finite.specs.Finite.{all_finite}
use Rattle.finite.proofs.Product.{naught, calm, every, eight, chunk_more, eight_tell}
use Rattle.finite.proofs.finite_by_eight.Goals as goal

pub loop-block-init : goal.loop-block-init
unfolding every calm naught of_bits
loop-block-init c = (refl, refl)

-- the part lent, from row `from` to the end
part : (s : Column) (from : ℕ) → take (length s - from) (drop from s) ≡ drop from s
part s from = ap (λ (k : ℕ). take k (drop from s)) (sym (length-drop from s)) ∙ take-length (drop from s)

pub loop-block-preserved : goal.loop-block-preserved
unfolding each_from
loop-block-preserved c =
    let more = chunk_more 8 _ c.loop-block.block-index _ _ _
    (eight c.loop-block.t0 c.loop-block.t1 c.loop-block.t2 c.loop-block.t3 c.loop-block.t4 c.loop-block.t5 c.loop-block.t6 c.loop-block.t7) _
    c.as_chunks.ensures.front (omega (arith, c.as_chunks.ensures.front_len)) (omega (arith, c.as_chunks.ensures.front_len)) refl
    c.loop-block.invariant.0 refl in
    (more.0, rw part at more.1 ∙ c.loop-block.invariant.1)

pub returns : goal.returns
returns c =
    let s = c.args.s.now in
    let end : length (take (length s - c.args.from) (drop c.args.from s)) / 8 ≡ c.loop-block.block-index = omega (arith, c.as_chunks.ensures.front_len) in
    ap₂ ◌&&◌
    (eight_tell c.loop-block.t0 c.loop-block.t1 c.loop-block.t2 c.loop-block.t3 c.loop-block.t4 c.loop-block.t5 c.loop-block.t6 c.loop-block.t7
    c.loop-block.invariant.0)
    (c.rest_finite-2.ensures ∙ ap all_finite (rw (end, part) at c.as_chunks.ensures.back)) ∙ c.loop-block.invariant.1
