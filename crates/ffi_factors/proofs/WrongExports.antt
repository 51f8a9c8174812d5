-- Two wrong programs for each call of `ffi_factors`, as in ffi/proofs/WrongExports: all that always give the same, and one that makes an error of this layer,
-- shown at refused inputs. `wejdarox_build_up` has the meaning of `wejdarox_factor`, and its theorem. Assumes nothing.
use mathlib.Core.Path.{ap}
use mathlib.Core.List.{List, []}
use Prim.Native.Nat.{ℕ}
use native.Mathlib.Omega.{arith}
use Rattle.numbers.specs.Column.{Column}
use Rattle.store.specs.Columns.{is_matrix}
use Rattle.refusals.specs.Outcome.{number_of, first_holding, tested}
use Rattle.refusals.specs.Refusals.{outside}
use Rattle.refusals.proofs.Strength.{ShutsOut, shut_out, TwoShutOut, two}
use Rattle.factors.specs.declared.Record.{Record}
use Rattle.factors.specs.Factors.{record_of, record_after}
use Rattle.factors.specs.Held.{held_refusal}
use Rattle.removing.specs.Removing.{removing_refusal, removing}
use Rattle.from_factors.specs.Triangles.{lowering, uppering}
use Rattle.from_factors.specs.Solving.{tr_solving}
use Rattle.ffi.proofs.WrongExports.{no_sizes, one_by_one, swapped, numbered}

-- a name for all that has to unfold for a call to be refused
Refuses : Type 0
unfolding is_matrix first_holding outside tested record_after held_refusal removing_refusal removing lowering uppering tr_solving
Refuses = Unit {0}

-- ---- removing: the pairs, or the dead columns, lost where it is refused
pub record Given : Type 0 where
  pub number : ℕ
  pub factors : Column
  pub store : List ℕ
  pub pairs : ℕ
  pub dead : ℕ

abbrev removes : Record × (Column × List ℕ) → Given
removes x =
    let o = removing x.1.0 x.1.1 x.0 in
    let after = record_after x.0 o.answer in
    record { number = number_of o.answer; factors = o.left.factors; store = o.left.store; pairs = after.pairs; dead = after.dead }

abbrev pairs_lost : Record × (Column × List ℕ) → Given
pairs_lost x = let o = removes x in record { number = o.number; factors = o.factors; store = o.store; pairs = 0; dead = o.dead }

abbrev dead_lost : Record × (Column × List ℕ) → Given
dead_lost x = let o = removes x in record { number = o.number; factors = o.factors; store = o.store; pairs = o.pairs; dead = 0 }

-- no rows, one pair and one dead column; one row and one column, and no store
abbrev no_rows : Record × (Column × List ℕ)
no_rows = (record_of 0 0 1 1, ([], []))

abbrev no_store : Record × (Column × List ℕ)
no_store = (record_of 1 1 1 1, ([], []))

pub wejdarox_remove_column : TwoShutOut removes pairs_lost × ShutsOut removes dead_lost
unfolding Refuses
wejdarox_remove_column = (
  two removes pairs_lost no_rows no_rows no_store (λ d. omega (arith, ap (λ (o : Given). o.pairs) d)) (λ d. omega (arith, ap (λ (o : Given). o.number) d)),
  shut_out removes dead_lost no_rows (λ d. omega (arith, ap (λ (o : Given). o.dead) d)),
)

-- ---- the calls that leave one slice: rows and columns exchanged
abbrev lowers : Record × (Column × (List ℕ × Column)) → ℕ × Column
lowers x = numbered (lowering x.1.0 x.1.1.0 x.0 x.1.1.1)

pub wejdarox_l : TwoShutOut lowers (λ x. lowers (swapped x.0, x.1))
unfolding Refuses
wejdarox_l =
    two lowers (λ x. lowers (swapped x.0, x.1)) (no_sizes, ([], ([], []))) (no_sizes, ([], ([], []))) (one_by_one, ([], ([], [])))
    (λ d. omega (arith, ap (λ (o : ℕ × Column). o.0) d)) (λ d. omega (arith, ap (λ (o : ℕ × Column). o.0) d))

abbrev uppers : Record × (Column × (List ℕ × Column)) → ℕ × Column
uppers x = numbered (uppering x.1.0 x.1.1.0 x.0 x.1.1.1)

pub wejdarox_u : TwoShutOut uppers (λ x. uppers (swapped x.0, x.1))
unfolding Refuses
wejdarox_u =
    two uppers (λ x. uppers (swapped x.0, x.1)) (no_sizes, ([], ([], []))) (no_sizes, ([], ([], []))) (one_by_one, ([], ([], [])))
    (λ d. omega (arith, ap (λ (o : ℕ × Column). o.0) d)) (λ d. omega (arith, ap (λ (o : ℕ × Column). o.0) d))

abbrev tr_solves : Record × (Column × (List ℕ × (ℕ × (Column × Column)))) → ℕ × Column
tr_solves x = numbered (tr_solving x.1.0 x.1.1.0 x.0 x.1.1.1.1.0 x.1.1.1.0 x.1.1.1.1.1)

pub wejdarox_tr_solve : TwoShutOut tr_solves (λ x. tr_solves (swapped x.0, x.1))
unfolding Refuses
wejdarox_tr_solve =
    two tr_solves (λ x. tr_solves (swapped x.0, x.1)) (no_sizes, ([], ([], (1, ([], []))))) (no_sizes, ([], ([], (1, ([], [])))))
    (one_by_one, ([], ([], (1, ([], [])))))
    (λ d. omega (arith, ap (λ (o : ℕ × Column). o.0) d)) (λ d. omega (arith, ap (λ (o : ℕ × Column). o.0) d))
