-- The promise of a solve, whose result was settled by refusal 7. Assumes nothing.
use mathlib.Core.Path.{◌≡◌, ap, ◌∙◌}
use mathlib.Core.List.{List}
use Prim.Native.Nat.{ℕ}
use Rattle.numbers.specs.Column.{Column}
use Rattle.store.specs.Steps.{Matrix}
use Rattle.std.proofs.Common.{Result}
use Rattle.refusals.specs.declared.Refusal.{Refusal}
use Rattle.refusals.specs.Outcome.{outcome, tested, leaving}
use Rattle.refusals.specs.Refusals.{seventh}
use Rattle.refusals.proofs.Outcomes.{Promise, promise_made}
use Rattle.factors.specs.declared.Record.{Record}
use Rattle.from_factors.specs.Solving.{Way, solved_by}

pub promise_solved : (way : Way) (r : Record) (factors : Column) (store : List ℕ) (bs cs : Matrix) (refusal : ℕ) (was work : Column)
    (a : Result (Unit {0}) Refusal) (s : Column) → 0 ≡ refusal → work ≡ solved_by way factors store r bs → bs ≡ cs → outcome a ≡ (seventh work).answer
    → s ≡ (seventh work).left → Promise (tested refusal (leaving was) (seventh (solved_by way factors store r cs))) a s
promise_solved way r factors store bs cs refusal was work a s none made same answer left =
    let is : work ≡ solved_by way factors store r cs = made ∙ ap (solved_by way factors store r) same in
    promise_made refusal was (seventh (solved_by way factors store r cs)) a s none (answer ∙ ap (λ (c : Column). (seventh c).answer) is)
    (left ∙ ap (λ (c : Column). (seventh c).left) is)
