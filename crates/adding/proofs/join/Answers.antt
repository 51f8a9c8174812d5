-- What the two calls leave. Assumes nothing.
use mathlib.Core.Path.{ap}
use Prim.Native.Nat.{ℕ, ◌+◌}
use Rattle.factors.specs.Factors.{record_of}
use Rattle.adding.proofs.join.Goals as goal

pub returns : goal.returns
returns c =
    let g = c.args in
    record {
      told = ap (λ (k : ℕ). record_of g.told.rows (g.told.columns + 1) k g.dead) c.record_swap-pairs.ensures.value;
      rows = c.swap_rows.ensures;
      pairs = c.record_swap-pairs.ensures.swaps_after;
    }
