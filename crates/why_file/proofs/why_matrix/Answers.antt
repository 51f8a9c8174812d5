-- The front of each store. Assumes nothing.
use mathlib.Core.Path.{◌≡◌, ap, ◌∙◌}
use Prim.Native.Nat.{ℕ, ◌*◌, ◌≤◌}
use native.Mathlib.Omega.{arith}
use lib.ListN.{take, replicate}
use Rattle.numbers.specs.Column.{Column, zeros}
use Rattle.panel_file.proofs.Reading.{square}
use Rattle.why.specs.Why.{told_factor, explain_factoring}
use Rattle.why_file.specs.Explaining.{in_factoring, told_in, told_file}
use Rattle.why_file.proofs.Filed.{zeros_front}
use Rattle.why_file.proofs.why_matrix.Goals as goal

pub overflow_mul-entries : goal.overflow_mul-entries
overflow_mul-entries c = omega (arith, square c.args.n 64 c.requires)

-- the slice that the call was lent holds zeros
lent : (n : ℕ) (a : Column) → n ≤ 64
    → explain_factoring a n n (take (n * n) (zeros 4096)) (replicate 128 0) ≡ explain_factoring a n n (zeros (n * n)) (replicate 128 0)
lent n a most = ap (λ (x : Column). explain_factoring a n n x (replicate 128 0)) (zeros_front (n * n) 4096 (square n 64 most))

pub returns-in_err-reason : goal.returns-in_err-reason
unfolding told_file told_factor
returns-in_err-reason c =
    rw c.from_residual.ensures (ap (told_in in_factoring) (c.in_err-reason.ensures.result_value ∙ lent _ _ c.requires))

pub returns : goal.returns
returns c = c.of_factoring.ensures ∙ ap (told_in in_factoring) (c.in_ok-reason.ensures.result_value ∙ lent _ _ c.requires)
