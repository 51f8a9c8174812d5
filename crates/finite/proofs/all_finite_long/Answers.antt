-- Fewer than 128 entries go by eight. Else the products take a block a turn: what they tell, being finite themselves or not, and what is left behind the block
-- give the answer. Assumes nothing.
use Rattle.std.proofs.Common.{ap, sym, ℕ, ◌≡◌, ◌*◌, ◌/◌, refl, length, drop, arith, ap₂, ◌∙◌}
use mathlib.Core.Bool.{◌&&◌}
use lib.Ieee.{of_bits}
use Rattle.finite.specs.Finite.{all_finite}
use Rattle.finite.proofs.Product.{naught, calm, every, calm_all, chunk_more}
use Rattle.finite.proofs.all_finite_long.Goals as goal

pub loop-block-init : goal.loop-block-init
unfolding every calm naught of_bits
loop-block-init c = (refl, refl)

pub loop-block-preserved : goal.loop-block-preserved
loop-block-preserved c =
    let more = chunk_more 24 _ c.loop-block.block-index c.args.s.now _ _ _ _ c.as_chunks.ensures.front
    (omega (arith, c.as_chunks.ensures.front_len)) (omega (arith, c.as_chunks.ensures.front_len)) c.loop-block-test.array_long
    c.loop-block.invariant.0 c.times_block.ensures in
    (more.0, more.1 ∙ c.loop-block.invariant.1)

pub returns : goal.returns
returns c =
    let end : c.loop-block.block-index ≡ length c.args.s.now / 24 = omega (arith, c.as_chunks.ensures.front_len) in
    ap₂ ◌&&◌ (c.finite_by_eight-2.ensures ∙ calm_all c.loop-block.products c.loop-block.invariant.0)
    (c.finite_by_eight-3.ensures ∙ ap all_finite c.as_chunks.ensures.back ∙ ap (λ (k : ℕ). all_finite (drop (k * 24) c.args.s.now)) (sym end))
    ∙ c.loop-block.invariant.1
