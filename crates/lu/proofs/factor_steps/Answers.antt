-- After each step the slices hold the factors of that step, whatever was held before; the steps that are left give the whole. Assumes nothing.
use Prim.Native.Nat.{ℕ, ◌+◌, ◌-◌}
use native.Mathlib.Nat.{add-zero, add_assoc}
use mathlib.Core.Path.{refl, sym, ap, subst, ◌∙◌}
use native.Mathlib.Omega.{arith}
use Rattle.numbers.proofs.Each.{turns_next, turns_done}
use Rattle.store.specs.Steps.{Matrix, column}
use Rattle.store.proofs.Columns.{same_matrix}
use Rattle.factors.specs.Factors.{Factors}
use Rattle.elimination.specs.Elimination.{step}
use Rattle.lu.specs.Inner.{Held}
use Rattle.elimination.specs.TossUps.{toss_at, toss_from}
use Rattle.elimination.proofs.Tossing.{toss_turn, toss_done}
use Rattle.lu.proofs.factor_steps.Goals as goal

pub factor_step-now-requires-clause-n_value : goal.factor_step-now-requires-clause-n_value
factor_step-now-requires-clause-n_value c =
    (same_matrix _ _ _ _ c.loop-i.auto.s ∙ c.requires.n_value.0, c.loop-i.auto.swaps ∙ c.requires.n_value.1)

pub loop-i-preserved : goal.loop-i-preserved
loop-i-preserved c =
    let g = c.args in
    let i = c.loop-i.i in
    let here = c.loop-i-test.true in (
      (
        c.factor_step-now.ensures.pairs_bound.0,
        c.factor_step-now.ensures.pairs_bound.1,
        omega (
          arith,
          c.factor_step-now.ensures.pairs_bound.2,
          c.loop-i.invariant.0.2,
        ),
      ),
      λ f h.
          let e = c.loop-i.invariant.1 f h in
          let w = e.0 in
          let rest = toss_from (i + 1) (g.to - (i + 1)) (step i w) in
          let counted = c.factor_step-now.ensures.tossed_value ∙ ap (λ (cs : Matrix). c.loop-i.now.tossed + toss_at i (column cs i)) e.1.0.is_columns in (
            step i w,
            (
              c.factor_step-now.ensures.held w e.1.0,
              turns_next step i g.to w (step i w) here refl ∙ e.1.1,
              ap (λ (t : ℕ). t + rest) counted
                  ∙ add_assoc c.loop-i.now.tossed (toss_at i (column w.columns i)) rest
                  ∙ ap (λ (t : ℕ). c.loop-i.now.tossed + t) (sym (toss_turn i g.to w here))
                  ∙ e.1.2,
            ),
          ),
    )

pub returns : goal.returns
returns c =
    let g = c.args in
    let end = c.loop-i-test.false in
    record {
      steps = λ f h.
          let e = c.loop-i.invariant.1 f h in
          subst (λ (w : Factors). Held c.loop-i.s g.m g.n c.loop-i.swaps c.loop-i.now.pairs w) (sym (turns_done step c.loop-i.i g.to e.0 end) ∙ e.1.1) e.1.0;
      toss = λ f h.
          let e = c.loop-i.invariant.1 f h in
          sym (add-zero c.loop-i.now.tossed) ∙ ap (λ (t : ℕ). c.loop-i.now.tossed + t) (sym (toss_done c.loop-i.i g.to e.0 end)) ∙ e.1.2;
      few = (omega (arith, c.loop-i.invariant.0.0), omega (arith, c.loop-i.invariant.0.1), c.loop-i.invariant.0.2);
    }
