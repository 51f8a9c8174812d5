-- The three passes of a solve give the right-hand columns solved: each pass works on every column by itself, so the passes can be joined column by
-- column. The solve swaps rows first, the transposed solve last. Assumes nothing.
use mathlib.Core.Path.{◌≡◌, sym, ap, ◌∙◌}
use mathlib.Core.Bool.{Bool, true, false}
use mathlib.Core.List.{List}
use Prim.Native.Nat.{ℕ}
use lib.ListN.{length}
use Rattle.numbers.specs.Each.{each_from}
use Rattle.numbers.specs.Numbers.{one64}
use Rattle.numbers.specs.Column.{Column}
use Rattle.numbers.proofs.Each.{length_each, each_each}
use Rattle.store.specs.Columns.{columns, flat, is_matrix, on_columns}
use Rattle.store.specs.Steps.{Matrix}
use Rattle.store.proofs.Columns.{sized, same_matrix, length_columns, flat_columns, columns_rows, each_rows, on_same, on_columns_lem}
use Rattle.swap_list.specs.SwapList.{Swaps, pairs_of, held, good_list}
use Rattle.exchanges.specs.Permute.{permute, rows_permuted, in_order}
use Rattle.swap_list.proofs.SwapList.{held_good}
use Rattle.exchanges.proofs.Permute.{length_permute, rows_each}
use Rattle.triangular_passes.specs.declared.Pass.{Pass}
use Rattle.triangular_passes.specs.declared.Pass.TheVariants.{Upper, GivenDiagonal, CorrectedDiagonal, TransposedUpper, TransposedUnitLower}
use Rattle.triangular_passes.specs.Triangular.{solved_column, solved_from, solved_in_place}
use Rattle.solve.proofs.Alone.{in_place_columns, in_place_long}
use Rattle.solve.proofs.Corrected.{Doubles, same_by_one}
use Rattle.solve_by_rows.specs.Rows.{both_passes}
use Rattle.from_factors.specs.Solving.{solved, tr_solved, solved_all}

module _ (n k : ℕ) where
  -- y holds the columns of x, f done to each
  pub record Each (f : Column → Column) (x y : Column) : Type 0 where
    pub was : is_matrix x n k ≡ true
    pub is : is_matrix y n k ≡ true
    pub each : columns n k y ≡ each_from (λ j c. f c) 0 (columns n k x)

  -- three in a row
  three : (f g h : Column → Column) (x y z w : Column) → Each f x y → Each g y z → Each h z w → w ≡ flat (each_from (λ j c. h (g (f c))) 0 (columns n k x))
  three f g h x y z w p q r =
      let each : (Column → Column) → Matrix → Matrix = λ u cs. each_from (λ j c. u c) 0 cs in
      sym (flat_columns n k w (sized n k w r.is).size)
      ∙ ap flat (r.each ∙ ap (each h) (q.each ∙ ap (each g) p.each ∙ each_each _ _ 0 (columns n k x)) ∙ each_each _ _ 0 (columns n k x))

  -- rows swapped, and one pass
  pub by_swaps : (backwards : Bool) (most pairs : ℕ) (store : List ℕ) (x y : Column) → is_matrix x n k ≡ true → good_list store pairs n most ≡ true
      → y ≡ on_columns n k (rows_permuted (in_order backwards (held pairs store))) x → length y ≡ length x
      → Each (permute (in_order backwards (pairs_of pairs store))) x y
  by_swaps backwards most pairs store x y h list made long =
      let swaps = in_order backwards (pairs_of pairs store) in
      let each : Matrix → Matrix = λ cs. each_from (λ j c. permute swaps c) 0 cs in
      record {
        was = h;
        is = same_matrix n k x y long ∙ h;
        each = ap (columns n k) made
            ∙ ap (λ (s : Swaps). columns n k (on_columns n k (rows_permuted (in_order backwards s)) x)) (held_good n most pairs store list)
            ∙ ap (columns n k) (on_same n k (rows_permuted swaps) x each (rows_each swaps (columns n k x)))
            ∙ on_columns_lem n k each x h (length_each _ 0 (columns n k x) ∙ length_columns n k x)
            (each_rows n _ 0 (columns n k x) (λ j c e. length_permute swaps c ∙ e) (columns_rows n k x (sized n k x h).size));
      }

  pub by_pass : (pass : Pass) (factors x y : Column) → is_matrix factors n n ≡ true → is_matrix x n k ≡ true → y ≡ solved_in_place pass factors n x k
      → length y ≡ length x
      → Each (solved_column pass n (columns n n factors)) x y
  unfolding solved_from
  by_pass pass factors x y matrix h made long =
      record { was = h; is = same_matrix n k x y long ∙ h; each = ap (columns n k) made ∙ in_place_columns pass n k factors x matrix h }

  module _ (most pairs : ℕ) (factors x y z w : Column) (store : List ℕ)
      (matrix : is_matrix factors n n ≡ true) (sides : is_matrix x n k ≡ true) (list : good_list store pairs n most ≡ true) where
    -- x is permuted to y, which the unit lower pass makes z, which the upper pass makes w
    pub passes_solve : y ≡ on_columns n k (rows_permuted (in_order false (held pairs store))) x → length y ≡ length x
        → z ≡ solved_in_place (GivenDiagonal one64) factors n y k → length z ≡ length y → w ≡ solved_in_place Upper factors n z k → length w ≡ length z
        → w ≡ flat (solved_all solved n (columns n n factors) (pairs_of pairs store) (columns n k x))
    unfolding solved_all solved in_order
    passes_solve permuted y-long lower z-long upper w-long =
        let p = by_swaps false most pairs store x y sides list permuted y-long in
        let q = by_pass (GivenDiagonal one64) factors y z matrix p.is lower z-long in
        three _ _ _ x y z w p q (by_pass Upper factors z w matrix q.is upper w-long)

    -- the transposed upper pass makes x to y, which the transposed unit lower pass makes z, which is permuted in reverse to w
    pub passes_tr_solve : y ≡ solved_in_place TransposedUpper factors n x k → length y ≡ length x
        → z ≡ solved_in_place TransposedUnitLower factors n y k → length z ≡ length y
        → w ≡ on_columns n k (rows_permuted (in_order true (held pairs store))) z → length w ≡ length z
        → w ≡ flat (solved_all tr_solved n (columns n n factors) (pairs_of pairs store) (columns n k x))
    unfolding solved_all tr_solved in_order
    passes_tr_solve upper y-long lower z-long permuted w-long =
        let p = by_pass TransposedUpper factors x y matrix sides upper y-long in
        let q = by_pass TransposedUnitLower factors y z matrix p.is lower z-long in
        three _ _ _ x y z w p q (by_swaps true most pairs store z w q.is list permuted w-long)

  -- x, a single column, is permuted to y, which one call for both passes makes w
  pub passes_one : (most pairs : ℕ) (factors x y w : Column) (store : List ℕ) → is_matrix factors n n ≡ true → is_matrix x n k ≡ true
      → good_list store pairs n most ≡ true → k ≡ 1 → Doubles y
      → y ≡ on_columns n k (rows_permuted (in_order false (held pairs store))) x → length y ≡ length x
      → w ≡ both_passes factors n y → length w ≡ length y
      → w ≡ flat (solved_all solved n (columns n n factors) (pairs_of pairs store) (columns n k x))
  passes_one most pairs factors x y w store matrix sides list one all permuted y-long made w-long =
      let lower = solved_in_place (CorrectedDiagonal one64) factors n y k in
      let z-long = in_place_long (CorrectedDiagonal one64) n k factors y matrix (same_matrix n k x y y-long ∙ sides) in
      passes_solve most pairs factors x y lower w store matrix sides list permuted y-long (same_by_one n k factors y all) z-long
      (made ∙ ap (λ (q : ℕ). solved_in_place Upper factors n (solved_in_place (CorrectedDiagonal one64) factors n y q) q) (sym one)) (w-long ∙ sym z-long)
