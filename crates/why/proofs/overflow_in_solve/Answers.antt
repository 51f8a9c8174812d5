-- The rows swapped, then the first pass that finds an overflow, or none (`Solving`). Assumes nothing.
use mathlib.Core.Path.{◌≡◌, sym, ap, ◌∙◌}
use mathlib.Core.Bool.{true, false}
use mathlib.Core.Option.{none}
use lib.ListN.{length}
use Rattle.numbers.specs.Numbers.{one64}
use Rattle.numbers.specs.Column.{Column}
use Rattle.finite.specs.Finite.{all_finite}
use Rattle.store.specs.Columns.{columns, flat, HasRows, is_matrix}
use Rattle.store.proofs.Columns.{sized, same_matrix, flat_columns, columns_rows}
use Rattle.swap_list.specs.SwapList.{pairs_of}
use Rattle.exchanges.specs.Permute.{in_order}
use Rattle.triangular_passes.specs.declared.Pass.TheVariants.{Upper, GivenDiagonal}
use Rattle.triangular_passes.specs.Triangular.{solved_columns}
use Rattle.solve.specs.Reason.{first_in_pass}
use Rattle.from_factors.specs.Reason.{swapped_sides, lower_sides}
use Rattle.from_factors.proofs.Solved.{by_swaps}
use Rattle.why.proofs.Solving.{found_lower, found_upper, found_none}
use Rattle.why.proofs.overflow_in_solve.Goals.{After-overflow_in_pass-arg-1, After-overflow_in_pass-arg-2-1}
use Rattle.why.proofs.overflow_in_solve.Goals as goal

sides : (c : After-overflow_in_pass-arg-1) → let g = c.args in
    columns g.told.rows g.k c.apply_to_rows.new.s ≡ swapped_sides (pairs_of g.told.pairs g.swaps.now)
    (columns g.told.rows g.k g.x.now)
unfolding in_order
sides c =
    let g = c.args in
    (by_swaps g.told.rows g.k false _ _ g.swaps.now g.x.now _ c.requires.rows_value.1 c.requires.rows_value_2.0 c.apply_to_rows.ensures
    c.apply_to_rows.auto.s).each

-- a slice as long as the sides holds them in the same shape
shaped : (c : After-overflow_in_pass-arg-1) → (y : Column) → let g = c.args in length y ≡ length g.x.now → is_matrix y g.told.rows g.k ≡ true
shaped c y long = same_matrix _ _ c.args.x.now y long ∙ c.requires.rows_value.1

-- the sides before have their rows, and are finite
rows : (c : After-overflow_in_pass-arg-1) → let g = c.args in HasRows g.told.rows (columns g.told.rows g.k g.x.now)
rows c = let g = c.args in columns_rows g.told.rows g.k g.x.now (sized _ _ _ c.requires.rows_value.1).size

ok : (c : After-overflow_in_pass-arg-1) → let g = c.args in all_finite (flat (columns g.told.rows g.k g.x.now)) ≡ true
ok c =
    let g = c.args in
    ap all_finite (flat_columns g.told.rows g.k g.x.now (sized _ _ _ c.requires.rows_value.1).size) ∙ c.requires.rows_value_2.1

-- past the first pass: it found nothing, and left the sides that the second takes
none_low : (c : After-overflow_in_pass-arg-2-1) → let g = c.args in let n = g.told.rows in let swaps = pairs_of g.told.pairs g.swaps.now in
    (first_in_pass (GivenDiagonal one64) n (columns n n g.factors.now) (swapped_sides swaps (columns n g.k g.x.now)) ≡ none)
    × (columns n g.k c.overflow_in_pass-low.new.x ≡ lower_sides n (columns n n g.factors.now) swaps (columns n g.k g.x.now))
unfolding in_order
none_low c =
    let sides : let g = c.args in columns g.told.rows g.k c.apply_to_rows.new.s ≡ swapped_sides (pairs_of g.told.pairs g.swaps.now)
    (columns g.told.rows g.k g.x.now) = let g = c.args in
    (by_swaps g.told.rows g.k false _ _ g.swaps.now g.x.now _ c.requires.rows_value.1 c.requires.rows_value_2.0 c.apply_to_rows.ensures
    c.apply_to_rows.auto.s).each in
    let g = c.args in
    let n = g.told.rows in
    let cs = columns n n g.factors.now in
    let fine = c.overflow_in_pass-low.ensures.fine c.if-low-k.false in (
      ap (first_in_pass (GivenDiagonal one64) n cs) (sym sides) ∙ fine.0,
      fine.1 ∙ ap (solved_columns (GivenDiagonal one64) n cs) sides,
    )

pub overflow_in_pass-low-requires : goal.overflow_in_pass-low-requires
overflow_in_pass-low-requires c = (c.requires.rows_value.0, shaped c _ c.apply_to_rows.auto.s, c.requires.rows_value.2)

pub returns-then-low-k : goal.returns-then-low-k
returns-then-low-k c =
    let found = c.overflow_in_pass-low.ensures.spoilt c.if-low-k.true in
    let g = c.args in
    found_lower g.told.rows _ (pairs_of g.told.pairs g.swaps.now) _ (rows (goal.at.returns-then-low-k c).After-overflow_in_pass-arg-1)
    (ok (goal.at.returns-then-low-k c).After-overflow_in_pass-arg-1) found.0 _ _
    (ap (first_in_pass _ _ _) (sym (sides (goal.at.returns-then-low-k c).After-overflow_in_pass-arg-1)) ∙ found.1)

pub overflow_in_pass-up-requires : goal.overflow_in_pass-up-requires
overflow_in_pass-up-requires c = (
  c.requires.rows_value.0,
  shaped (goal.at.overflow_in_pass-up-requires c).After-overflow_in_pass-arg-1 _ (c.overflow_in_pass-low.auto.x
      ∙ c.apply_to_rows.auto.s),
  c.requires.rows_value.2,
)

pub returns-then-up-k : goal.returns-then-up-k
returns-then-up-k c =
    let g = c.args in
    let low = none_low (goal.at.returns-then-up-k c).After-overflow_in_pass-arg-2-1 in
    let found = c.overflow_in_pass-up.ensures.spoilt c.if-up-k.true in
    found_upper g.told.rows _ (pairs_of g.told.pairs g.swaps.now) _ (rows (goal.at.returns-then-up-k c).After-overflow_in_pass-arg-1)
    (ok (goal.at.returns-then-up-k c).After-overflow_in_pass-arg-1) low.0 found.0 _ _
    (ap (first_in_pass Upper _ _) (sym low.1) ∙ found.1)

pub returns : goal.returns
returns c =
    let g = c.args in
    let low = none_low (goal.at.returns c).After-overflow_in_pass-arg-2-1 in
    let fine = c.overflow_in_pass-up.ensures.fine c.if-up-k.false in
    found_none g.told.rows _ (pairs_of g.told.pairs g.swaps.now) _ (rows (goal.at.returns c).After-overflow_in_pass-arg-1)
    (ok (goal.at.returns c).After-overflow_in_pass-arg-1) low.0
    (ap (first_in_pass Upper _ _) (sym low.1) ∙ fine.0)
