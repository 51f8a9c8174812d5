-- After k turns, what is left gives the first result that is not finite and the solved column (`Turning`). Assumes nothing.
use mathlib.Core.Path.{◌≡◌, refl, ap, ◌∙◌}
use mathlib.Core.Bool.{cond}
use Prim.Native.Nat.{ℕ, ◌<◌}
use native.Mathlib.Omega.{arith}
use lib.Ieee.Scale.{finite}
use Rattle.numbers.specs.First.{first_failing}
use Rattle.numbers.specs.Column.{entry}
use Rattle.store.specs.Columns.{columns}
use Rattle.triangular_passes.specs.Triangular.{row_at, turns_of, turn}
use Rattle.solve.specs.Reason.{first_row}
use Rattle.triangular_passes.proofs.Turns.{turn_row}
use Rattle.why.proofs.Column.{row_fine, row_spoilt, turning_begin, turning_on, turning_found, turning_end, turn_taken}
use Rattle.why.proofs.overflow_in_column.Goals.{After-solve_turn, After-stored_row-row, In-loop-k}
use Rattle.why.proofs.overflow_in_column.Goals as goal

-- in a turn, there is one
in_time : (c : In-loop-k) → let g = c.args in c.loop-k.k < turns_of g.pass g.n
in_time c = rw c.turns-turns.ensures at c.loop-k-test.true

below : (c : In-loop-k) → let g = c.args in row_at g.pass g.n c.loop-k.k < g.n
below c = let g = c.args in turn_row g.pass g.n _ _ _ refl (in_time c) refl

-- the column after the turn
taken : (c : After-solve_turn) → let g = c.args in
    c.solve_turn.new.b ≡ turn g.pass g.n (columns g.n g.n g.t.now) c.loop-k.k c.loop-k.b
taken c =
    let g = c.args in
    turn_taken g.pass g.n c.loop-k.k g.t.now c.loop-k.b _ c.requires.0 c.loop-k.invariant.long
    (rw c.turns-turns.ensures at c.loop-k-test.true) c.solve_turn.ensures

-- the row that is looked for in it
row_is : (c : After-stored_row-row) → let g = c.args in c.stored_row-row.result ≡ first_row g.pass g.n c.loop-k.k c.solve_turn.new.b
unfolding first_row
row_is c =
    let b = c.solve_turn.new.b in
    c.stored_row-row.ensures ∙ ap (λ (i : ℕ). cond (finite (entry b i)) (first_failing finite b) i) c.row_at.ensures

pub returns-then-row-n : goal.returns-then-row-n
returns-then-row-n c =
    let g = c.args in
    let at = goal.at.returns-then-row-n c in
    let seen = row_is at.After-stored_row-row in
    let kept = c.solve_turn.auto.b in
    let bad = row_spoilt g.pass g.n _ _ _ (kept ∙ c.loop-k.invariant.long) (below at.In-loop-k) seen c.if-row-n.true in
    record {
      fine = λ h. absurd (let n : ⊥ = omega arith in n);
      spoilt = λ _. (
        c.loop-k.k,
        turning_found _ _ _ _ _ _ c.loop-k.invariant (in_time at.In-loop-k) _ kept (taken at.After-solve_turn) _ bad seen,
      );
    }

pub loop-k-preserved : goal.loop-k-preserved
loop-k-preserved c =
    let g = c.args in
    let at = goal.at.loop-k-preserved c in
    let kept = c.solve_turn.auto.b in
    let fine = row_fine g.pass g.n _ _ _ (kept ∙ c.loop-k.invariant.long) (below at.In-loop-k) (row_is at.After-stored_row-row)
    c.if-row-n.false in
    turning_on _ _ _ _ _ _ c.loop-k.invariant (in_time at.In-loop-k) _ kept (taken at.After-solve_turn) fine

pub returns : goal.returns
returns c =
    let g = c.args in
    let end = turning_end g.pass g.n _ g.b.now c.loop-k.b c.loop-k.k c.loop-k.invariant
    (rw c.turns-turns.ensures at c.loop-k-test.false) in
    record { fine = λ _. end; spoilt = λ h. absurd (let n : ⊥ = omega arith in n) }

pub loop-k-init : goal.loop-k-init
loop-k-init c = turning_begin c.args.pass _ _ _ c.requires.1
