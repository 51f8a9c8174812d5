-- Refusal 7 of a factoring, said of every step (document 01, "Refusal numbers": "A running infinity or NaN never becomes finite again in these steps, so 7 can
-- be read off the final result"). By what lasts from step to step. Assumes nothing.
use mathlib.Core.Path.{◌≡◌, sym, ap, ◌∙◌}
use mathlib.Core.Logic.{◌↔◌}
use mathlib.Core.Bool.{false}
use mathlib.Core.List.{List}
use Prim.Native.Nat.{ℕ, ◌≤◌, min}
use native.Mathlib.Omega.{arith}
use Rattle.numbers.specs.Column.{Column}
use Rattle.numbers.proofs.Choice.{test_cases}
use Rattle.store.specs.Columns.{columns}
use Rattle.store.proofs.Columns.{length_columns}
use Rattle.refusals.specs.Outcome.{refused, number_of}
use Rattle.factors.specs.Factors.{Factoring}
use Rattle.elimination.specs.Elimination.{unfactored, eliminate}
use Rattle.elimination.specs.Reason.{finite_in}
use Rattle.elimination.proofs.Step.{steps}
use Rattle.elimination.proofs.Lasting.{steps_lasting}
use Rattle.lu.specs.Factoring.{factoring_refusal, settled, factoring}
use Rattle.lu.proofs.Told.{worked}
use Rattle.lu.proofs.Shape.{factors_of, settled_number}

module _ (m n : ℕ) (a out : Column) (store : List ℕ) (none_before : factoring_refusal a m n out store ≡ 0) where
  by_factors : (factoring a m n out store).answer ≡ refused 7 → finite_in (factors_of m n a) ≡ false
  by_factors e =
      let number = sym (settled_number m n a out store none_before) ∙ ap number_of e in
      test_cases (finite_in (factors_of m n a)) (λ t. absurd (let z : ◌≡◌ {A = ℕ} 0 7 = (rw t at number) in omega arith)) (λ t. t)

  refused_by : finite_in (factors_of m n a) ≡ false → (factoring a m n out store).answer ≡ refused 7
  unfolding settled
  refused_by t = ap (λ (o : Factoring). o.answer) (worked m n a out store none_before) ∙ rw t

  -- THEOREM. A factoring that passes its tests is refused with 7 exactly when after some number of steps some number of the columns is not finite.
  -- (1 / infinity is 0, so an infinite pivot leaves finite multipliers below it; but it stays in its column itself.)
  pub factoring_seven : ((factoring a m n out store).answer ≡ refused 7)
      ↔ ((k : ℕ) × (k ≤ min m n) × (finite_in (steps k (unfactored (columns m n a))) ≡ false))
  unfolding eliminate
  factoring_seven = (
    λ e. (min m n, omega arith, rw (length_columns m n a) at (by_factors e)),
    λ s. refused_by (steps_lasting m s.0 (columns m n a) (rw (length_columns m n a) s.1) s.2),
  )
