-- The pivot's test decides: a skipped step, or the step with its recorded swap. Assumes nothing.
use Prim.Native.Nat.{ℕ, ◌*◌, ◌+◌, ◌≤◌, ◌<◌}
use native.Mathlib.Nat.{add-zero}
use mathlib.Core.Path.{◌≡◌, refl, sym, ap, ◌∙◌}
use native.Mathlib.Omega.{arith}
use lib.ListN.{length}
use Rattle.store.specs.Columns.{columns}
use Rattle.store.specs.Steps.{column}
use Rattle.store.proofs.Columns.{sized, column_within}
use Rattle.min_max.proofs.TossUp.{found_row, found_tossed}
use Rattle.factors.proofs.Swaps.{recorded, few_recorded, more_recorded}
use Rattle.elimination.specs.TossUps.{toss_at}
use Rattle.elimination.proofs.Tossing.{toss_most, toss_skipped, toss_found}
use Rattle.lu.proofs.Slices.{found, pivot_within, pivot_number, pivot_zero_there, step_skipped, step_done}
use Rattle.lu.proofs.factor_step.Goals.{After-count-own, After-icamax-found, After-slice_known-2-1}
use Rattle.lu.proofs.factor_step.Goals as goal

-- column i ends within the store
within : (c : After-slice_known-2-1) → c.args.i * c.args.m + c.args.m ≤ length c.args.s.now
within c = column_within _ _ _ c.args.s.now c.requires.i_lt_m.1 (sized _ _ _ c.requires.n_value.0).size

-- the pivot row lies in it
row : (c : After-icamax-found) → c.icamax-found.result.row < c.args.m
row c =
    (pivot_within _ _ _ _ _ c.requires.n_value.0 c.requires.i_lt_m.0
    c.requires.i_lt_m.1 (found_row _ _ _ c.icamax-found.ensures)).1

-- the column's own toss-up, as it was counted
counted : (c : After-count-own) → let g =
    c.args in
    (c.count-own.result ≡ toss_at g.i (column (columns g.m g.n g.s.now) g.i)) × (c.count-own.result ≤ 1) × (g.m ≤ 64)
counted c =
    let g = c.args in
    let own = toss_found g.m g.n g.i g.s.now _ _ c.requires.i_lt_m.1 (found_tossed _ _ _ c.icamax-found.ensures) c.count-own.ensures in
    (own, rw own (toss_most g.i (column (columns g.m g.n g.s.now) g.i)), (sized _ _ _ c.requires.n_value.0).rows_most)

pub overflow_add-q : goal.overflow_add-q
overflow_add-q c = omega (arith, within (goal.at.overflow_add-q c).After-slice_known-2-1, row c)

pub offset_bounds-s-q : goal.offset_bounds-s-q
offset_bounds-s-q c = omega (arith, within (goal.at.offset_bounds-s-q c).After-slice_known-2-1, row c)

pub bounds-s-q : goal.bounds-s-q
bounds-s-q c = omega (arith, within (goal.at.bounds-s-q c).After-slice_known-2-1, row (goal.at.bounds-s-q c).After-icamax-found)

pub returns-then-is_zero : goal.returns-then-is_zero
returns-then-is_zero c =
    let row = found_row _ _ _ c.icamax-found.ensures in
    let g = c.args in
    let z = sym c.is_zero.ensures ∙ c.if-is_zero.true in
    let none = toss_skipped g.i _ (pivot_zero_there _ _ _ _ _ c.requires.n_value.0 c.requires.i_lt_m.0 c.requires.i_lt_m.1 row _ refl z) in
    record {
      held = (λ f h. step_skipped g.m g.n g.i f _ _ _ _ _ h (found _ _ _ _ _ c.requires.n_value.0 c.requires.i_lt_m.0 c.requires.i_lt_m.1 row)
          (pivot_number _ _ _ _ _ c.requires.n_value.0 c.requires.i_lt_m.0 c.requires.i_lt_m.1 row) z);
      pairs_bound = (omega arith, omega arith, omega arith);
      tossed_value = sym
          (ap (λ (k : ℕ). g.counts.tossed + k) none ∙ add-zero g.counts.tossed);
    }

pub gauss_step-requires : goal.gauss_step-requires
gauss_step-requires c = (c.requires.n_value.0, c.requires.i_lt_m.0, c.requires.i_lt_m.1)

pub returns : goal.returns
returns c =
    let row = found_row _ _ _ c.icamax-found.ensures in
    let g = c.args in
    let few = (sized _ _ _ c.requires.n_value.0).rows_most in
    let own = counted c in
    let up = c.requires.i_lt_m.3 in
    let rec = recorded _ _ _ _ _ _ (omega arith) c.requires.n_value.1 c.record_swap-now_pairs.ensures.value c.record_swap-now_pairs.ensures.swaps_after in
    record {
      held = (λ f h. step_done g.m g.n g.i f _ _ _ _ _ h (found _ _ _ _ _ c.requires.n_value.0 c.requires.i_lt_m.0 c.requires.i_lt_m.1 row)
          (pivot_number _ _ _ _ _ c.requires.n_value.0 c.requires.i_lt_m.0 c.requires.i_lt_m.1 row) _ _ _
          (sym c.is_zero.ensures ∙ c.if-is_zero.false) (omega arith) c.gauss_step.auto.s
          c.gauss_step.ensures rec);
      pairs_bound = (
        few_recorded _ _ _ _ _ _ rec c.requires.i_lt_m.2,
        omega (arith, own.1, up),
        more_recorded _ _ _ _ _ _ rec,
      );
      tossed_value = ap (λ (k : ℕ). g.counts.tossed + k) own.0;
    }

pub overflow_mul-a : goal.overflow_mul-a
overflow_mul-a c = omega (arith, within c)

pub overflow_add-e : goal.overflow_add-e
overflow_add-e c = omega (arith, within c)

pub offset_bounds-s-a : goal.offset_bounds-s-a
offset_bounds-s-a c = omega (arith, within c)

pub slice_bounds-icamax-count : goal.slice_bounds-icamax-count
slice_bounds-icamax-count c = omega (arith, within c)

pub slice_bounds-icamax-start : goal.slice_bounds-icamax-start
slice_bounds-icamax-start c = omega (arith, within c)

pub slice_bounds-icamax-end : goal.slice_bounds-icamax-end
slice_bounds-icamax-end c = omega (arith, within c)

pub overflow_add-result : goal.overflow_add-result
overflow_add-result c = omega (arith, (counted c).1)
