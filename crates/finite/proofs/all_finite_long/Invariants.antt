-- Fewer than 128 entries go by eight. Else the products take a block a turn: what they tell, being finite themselves or not, and what is left behind the block
-- give the answer. Assumes nothing.
use Prim.Native.Nat.{◌*◌}
use mathlib.Core.Path.{◌≡◌}
use mathlib.Core.Bool.{true, ◌&&◌}
use lib.ListN.{drop}
use Rattle.finite.specs.Finite.{all_finite}
use Rattle.finite.proofs.Product.{naught, calm, every}
use Rattle.finite.proofs.all_finite_long.Given as goal

abbrev pub invariant-loop-block : goal.invariant-loop-block
invariant-loop-block l = (every calm l.products ≡ true) × ((every naught l.products && all_finite (drop (l.block-index * 24) l.s)) ≡ all_finite l.s)
