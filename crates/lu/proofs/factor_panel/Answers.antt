-- The front columns lent as a matrix of their own, the rest as another (`panel_done`). Assumes nothing.
use Prim.Native.Nat.{◌+◌, ◌-◌, ◌*◌, ◌≤◌}
use mathlib.Core.Path.{◌≡◌, sym, ◌∙◌}
use mathlib.Core.Bool.{true}
use native.Mathlib.Omega.{arith}
use mathlib.Core.List.{◌++◌}
use borrow.Rule.Slice.PartMut.{put_mid, same_len_mid}
use lib.ListN.{length, drop}
use lib.Seq.{length-take-le}
use Rattle.store.specs.Columns.{is_matrix}
use Rattle.store.proofs.Columns.{sized, same_matrix}
use Rattle.updates.proofs.Updates.{updated_columns}
use Rattle.lu.proofs.PanelStore.{front_ends, front_fits, same_long, panel_done}
use Rattle.lu.proofs.factor_panel.Goals.{After-slice_known-2-1, After-slice_known-4-1, After-update_columns-arg-1}
use Rattle.lu.proofs.factor_panel.Goals as goal

-- the front ends within the store, which is small
ends : (c : After-slice_known-2-1) → ((c.args.i + 4) * c.args.m ≤ length c.args.s.now) × (c.args.m ≤ 64) × (c.args.n ≤ 64)
ends c =
    let fits = sized _ _ _ c.requires.n_value.0 in (
      front_ends _ _ _ _ c.args.swaps.now c.args.counts c.args.counts c.requires.n_value.0 c.requires.i_bound.0 c.requires.i_bound.1,
      fits.rows_most,
      fits.columns_most,
    )

-- the store has its length after the steps on the front, and so has the swap store
t_long : (c : After-slice_known-4-1) → let g = c.args in
    length (c.factor_steps-now.new.s ++ drop ((g.i + 4) * g.m) g.s.now) ≡ length g.s.now
t_long c =
    same_long _ _ _ _ _ _ _ c.requires.n_value.0 c.requires.i_bound.0 c.requires.i_bound.1 _ _ c.factor_steps-now.auto.s c.factor_steps-now.ensures

pairs_within : (c : After-slice_known-4-1) → let g = c.args in
    (2 * g.counts.pairs ≤ 128) × (length g.swaps.now ≡ 128)
pairs_within c =
    let ends : ((c.args.i + 4) * c.args.m ≤ length c.args.s.now) × (c.args.m ≤ 64) × (c.args.n ≤ 64) = let fits = sized _ _ _ c.requires.n_value.0 in (
      front_ends _ _ _ _ c.args.swaps.now c.args.counts c.args.counts c.requires.n_value.0 c.requires.i_bound.0 c.requires.i_bound.1,
      fits.rows_most,
      fits.columns_most,
    ) in
    (omega (arith, ends, c.requires.i_bound.0), c.requires.n_value.1)

-- the store before the updates is a matrix still
swapped_fits : (c : After-update_columns-arg-1) → let g = c.args in
    let z = (g.i + 4) * g.m in
    let t = c.factor_steps-now.new.s ++ drop z g.s.now in
    is_matrix (put_mid z (length t - z) t c.apply_to_rows.new.s) g.m g.n ≡ true
swapped_fits c =
    let t_long : let g = c.args in length (c.factor_steps-now.new.s ++ drop ((g.i + 4) * g.m) g.s.now) ≡ length g.s.now =
    same_long _ _ _ _ _ _ _ c.requires.n_value.0 c.requires.i_bound.0 c.requires.i_bound.1 _ _ c.factor_steps-now.auto.s c.factor_steps-now.ensures in
    let g = c.args in
    let z = (g.i + 4) * g.m in
    let t = c.factor_steps-now.new.s ++ drop z g.s.now in
    same_matrix _ _ g.s.now _ (same_len_mid z (length t - z) t c.apply_to_rows.new.s c.apply_to_rows.auto.s ∙ t_long)
    ∙ c.requires.n_value.0

pub slice_bounds-factor_steps-end-2 : goal.slice_bounds-factor_steps-end-2
slice_bounds-factor_steps-end-2 c = sym (length-take-le _ _ (ends (goal.at.slice_bounds-factor_steps-end-2 c).After-slice_known-2-1).0)

pub factor_steps-now-requires : goal.factor_steps-now-requires
factor_steps-now-requires c =
    let g = c.args in
    record {
      from_le_to = (omega arith, c.requires.i_bound.0, omega arith, c.requires.i_bound.2, c.requires.i_bound.3);
      n_value = (front_fits _ _ _ _ g.swaps.now g.counts g.counts c.requires.n_value.0 c.requires.i_bound.0 c.requires.i_bound.1, c.requires.n_value.1);
    }

pub slice_bounds-apply_to_rows-count : goal.slice_bounds-apply_to_rows-count
slice_bounds-apply_to_rows-count c =
    rw (t_long (goal.at.slice_bounds-apply_to_rows-count c).After-slice_known-4-1) (ends (goal.at.slice_bounds-apply_to_rows-count c).After-slice_known-2-1).0

pub slice_bounds-apply_to_rows-count-2 : goal.slice_bounds-apply_to_rows-count-2
slice_bounds-apply_to_rows-count-2 c =
    omega (arith, pairs_within (goal.at.slice_bounds-apply_to_rows-count-2 c).After-slice_known-4-1, c.factor_steps-now.auto.swaps)

pub returns : goal.returns
returns c =
    panel_done _ _ _ _ _ _ _ c.requires.n_value.0 c.requires.i_bound.0 c.requires.i_bound.1 _ _ c.factor_steps-now.auto.s c.factor_steps-now.ensures _ _
    c.apply_to_rows.auto.s c.apply_to_rows.ensures c.update_columns.auto.s
    (updated_columns _ _ _ _ _ _ _ (swapped_fits (goal.at.returns c).After-update_columns-arg-1) c.requires.i_bound.0 (omega arith) c.update_columns.ensures)

pub overflow_mul-z : goal.overflow_mul-z
overflow_mul-z c = omega (arith, ends c)

pub slice_bounds-factor_steps-end : goal.slice_bounds-factor_steps-end
slice_bounds-factor_steps-end c = (ends c).0

pub overflow_mul-first : goal.overflow_mul-first
overflow_mul-first c = omega (arith, ends (goal.at.overflow_mul-first c).After-slice_known-2-1)

pub overflow_sub-more : goal.overflow_sub-more
overflow_sub-more c = c.factor_steps-now.ensures.few.2

pub offset_bounds-s-z : goal.offset_bounds-s-z
offset_bounds-s-z c = omega (arith, ends (goal.at.offset_bounds-s-z c).After-slice_known-2-1)

pub slice_bounds-apply_to_rows-start : goal.slice_bounds-apply_to_rows-start
slice_bounds-apply_to_rows-start c =
    rw (t_long (goal.at.slice_bounds-apply_to_rows-start c).After-slice_known-4-1) (ends (goal.at.slice_bounds-apply_to_rows-start c).After-slice_known-2-1).0

pub offset_bounds-swaps-first : goal.offset_bounds-swaps-first
offset_bounds-swaps-first c = omega (arith, ends (goal.at.offset_bounds-swaps-first c).After-slice_known-2-1)

pub slice_bounds-apply_to_rows-start-2 : goal.slice_bounds-apply_to_rows-start-2
slice_bounds-apply_to_rows-start-2 c =
    omega (arith, pairs_within (goal.at.slice_bounds-apply_to_rows-start-2 c).After-slice_known-4-1, c.factor_steps-now.auto.swaps)
