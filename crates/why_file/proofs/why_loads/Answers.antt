-- The front of each store. Assumes nothing.
use mathlib.Core.Path.{◌≡◌, ap, ◌∙◌}
use mathlib.Core.List.{List}
use Prim.Native.Nat.{ℕ, ◌≤◌}
use native.Mathlib.Omega.{arith}
use lib.ListN.{take}
use Rattle.numbers.specs.Column.{Column, zeros}
use Rattle.panel_file.proofs.Reading.{square}
use Rattle.crossing.proofs.Factors.{taken_count}
use Rattle.factors.specs.declared.Record.{Record}
use Rattle.why.specs.Why.{told_solve, explain_solving}
use Rattle.why_file.specs.Explaining.{in_solving, told_in, explain_loads, told_file}
use Rattle.why_file.proofs.Filed.{zeros_front}
use Rattle.why_file.proofs.why_loads.Goals as goal

pub overflow_mul-entries : goal.overflow_mul-entries
overflow_mul-entries c = omega (arith, square c.args.told.rows 64 c.requires)

pub slice_bounds-why_solve-end : goal.slice_bounds-why_solve-end
slice_bounds-why_solve-end c = taken_count _ c.args.matrix.now (omega (arith, square c.args.told.rows 64 c.requires))

-- the slice that the call was lent holds zeros
lent : (told : Record) (a b : Column) (swaps : List ℕ) → told.rows ≤ 64
    → explain_solving a swaps told b 1 (take told.rows (zeros 64)) ≡ explain_solving a swaps told b 1 (zeros told.rows)
lent told a b swaps most = ap (explain_solving a swaps told b 1) (zeros_front told.rows 64 most)

pub returns-in_err-reason : goal.returns-in_err-reason
unfolding told_file told_solve explain_loads
returns-in_err-reason c =
    rw c.from_residual.ensures (ap (told_in in_solving) (c.in_err-reason.ensures.result_value ∙ lent _ _ _ _ c.requires))

pub returns : goal.returns
unfolding explain_loads
returns c = c.of_solving.ensures ∙ ap (told_in in_solving) (c.in_ok-reason.ensures.result_value ∙ lent _ _ _ _ c.requires)
