-- Two wrong programs for each call of `ffi_reasons`, as in ffi/proofs/WrongExports: all that always give the same, and one that takes the sizes the wrong way
-- round, shown at refused inputs. Assumes nothing.
use mathlib.Core.Path.{ap}
use mathlib.Core.List.{List, []}
use Prim.Native.Nat.{ℕ}
use native.Mathlib.Omega.{arith}
use Rattle.numbers.specs.Column.{Column}
use Rattle.store.specs.Columns.{is_matrix}
use Rattle.refusals.specs.Outcome.{number_of, first_holding, tested}
use Rattle.refusals.specs.Refusals.{outside}
use Rattle.refusals.proofs.Strength.{TwoShutOut, two}
use Rattle.factors.specs.declared.Record.{Record}
use Rattle.factors.specs.Held.{held_refusal}
use Rattle.lu.specs.Factoring.{factoring_refusal, factoring, with_toss_ups, factoring_answer}
use Rattle.from_factors.specs.Solving.{solving}
use Rattle.elimination.specs.Reason.{Place}
use Rattle.why.specs.Solving.{Spot}
use Rattle.why.specs.Why.{explain_factoring, refused_solving, explain_solving}
use Rattle.ffi.proofs.WrongExports.{no_sizes, one_by_one, swapped}
use Rattle.ffi_reasons.specs.Why.{place_or, place_told, spot_or, spot_told}

-- a name for all that has to unfold for a call to be refused
Refuses : Type 0
unfolding is_matrix first_holding outside tested held_refusal factoring_refusal factoring with_toss_ups factoring_answer solving
Refuses = Unit {0}

-- ---- the number that is told and its place; the sizes exchanged

abbrev why_factors : ℕ × (ℕ × (Column × (Column × List ℕ))) → ℕ × Place
why_factors x = let t = explain_factoring x.1.1.0 x.0 x.1.0 x.1.1.1.0 x.1.1.1.1 in (t.number, place_told t)

abbrev exchanged_sizes : ℕ × (ℕ × (Column × (Column × List ℕ))) → ℕ × Place
exchanged_sizes x = why_factors (x.1.0, (x.0, x.1.1))

pub wejdarox_why_factor : TwoShutOut why_factors exchanged_sizes
unfolding Refuses explain_factoring place_or
wejdarox_why_factor =
    two why_factors exchanged_sizes (0, (1, ([], ([], [])))) (0, (1, ([], ([], [])))) (1, (0, ([], ([], []))))
    (λ d. omega (arith, ap (λ (o : ℕ × Place). o.0) d)) (λ d. omega (arith, ap (λ (o : ℕ × Place). o.0) d))

abbrev why_solves : Record × (Column × (List ℕ × (ℕ × (Column × Column)))) → ℕ × Spot
why_solves x =
    let t = explain_solving x.1.0 x.1.1.0 x.0 x.1.1.1.1.0 x.1.1.1.0 x.1.1.1.1.1 in
    (t.number, spot_told t)

pub wejdarox_why_solve : TwoShutOut why_solves (λ x. why_solves (swapped x.0, x.1))
unfolding Refuses explain_solving refused_solving spot_or
wejdarox_why_solve =
    two why_solves (λ x. why_solves (swapped x.0, x.1)) (no_sizes, ([], ([], (1, ([], []))))) (no_sizes, ([], ([], (1, ([], [])))))
    (one_by_one, ([], ([], (1, ([], [])))))
    (λ d. omega (arith, ap (λ (o : ℕ × Spot). o.0) d)) (λ d. omega (arith, ap (λ (o : ℕ × Spot). o.0) d))
