-- "An accepted solution column depends on the factors, the swaps and its own right-hand column alone. Whether the call is refused with 7 depends on
-- all of them." For the solve and for the transposed solve, by one law over the way to solve a column: each column of an accepted solve is its own
-- right-hand column, solved; refusal 7 looks at all of them. Assumes nothing.
use mathlib.Core.Path.{◌≡◌, sym, ap, ◌∙◌}
use mathlib.Core.Bool.{cond}
use mathlib.Core.List.{List, []}
use Prim.Native.Nat.{ℕ, ◌<◌}
use native.Mathlib.Omega.{arith}
use lib.ListN.{length}
use Rattle.numbers.specs.Column.{Column}
use Rattle.finite.specs.Finite.{all_finite}
use Rattle.numbers.proofs.Choice.{and_first}
use Rattle.numbers.proofs.Each.{length_each, each_at}
use Rattle.store.specs.Columns.{columns, flat, is_matrix, HasRows}
use Rattle.store.specs.Steps.{Matrix, column}
use Rattle.store.proofs.Columns.{sized, length_columns, columns_rows, columns_flat, each_rows}
use Rattle.refusals.specs.Outcome.{number_of, Call, leaving}
use Rattle.refusals.specs.Refusals.{seventh}
use Rattle.refusals.proofs.Outcomes.{tested_none, none_given, seventh_number, seventh_stands}
use Rattle.swap_list.specs.SwapList.{Swaps, pairs_of}
use Rattle.exchanges.specs.Permute.{permute}
use Rattle.exchanges.proofs.Permute.{length_permute}
use Rattle.triangular_passes.specs.declared.Pass.TheVariants.{Upper, GivenDiagonal, TransposedUpper, TransposedUnitLower}
use Rattle.triangular_passes.proofs.Lengths.{length_solved}
use Rattle.factors.specs.declared.Record.{Record}
use Rattle.factors.specs.Held.{held_refusal}
use Rattle.factors.proofs.Held.{passed}
use Rattle.from_factors.specs.Solving.{Way, solved, tr_solved, solved_all, solved_by, solve_asks, solving_by, solving, tr_solving}

-- a way to solve that keeps a column's length
abbrev Keeps : Way → Type 0
Keeps way = (n : ℕ) (cs : Matrix) (swaps : Swaps) (b : Column) → length (way n cs swaps b) ≡ length b

solve_keeps : Keeps solved
unfolding solved
solve_keeps n cs swaps b = length_solved Upper n cs _ ∙ length_solved (GivenDiagonal _) n cs (permute swaps b) ∙ length_permute swaps b

tr_solve_keeps : Keeps tr_solved
unfolding tr_solved
tr_solve_keeps n cs swaps b = length_permute _ _ ∙ length_solved TransposedUnitLower n cs _ ∙ length_solved TransposedUpper n cs b

-- ---- the law, for any such way
module _ (way : Way) (keeps : Keeps way) where
  module _ (r : Record) (factors : Column) (store : List ℕ) (k : ℕ) (b x : Column) where
    abbrev n : ℕ
    n = r.rows

    abbrev cs : Matrix
    cs = columns n n factors

    abbrev swaps : Swaps
    swaps = pairs_of r.pairs store

    abbrev call : Call (Unit {0}) Column
    call = solving_by way factors store r b k x

    -- a call that its tests let pass
    made : held_refusal factors store r (solve_asks b n k x) ≡ 0 → call ≡ seventh (solved_by way factors store r (columns n k b))
    made e = tested_none (held_refusal factors store r (solve_asks b n k x)) (leaving x) (seventh (solved_by way factors store r (columns n k b))) e

    none : number_of call.answer ≡ 0 → held_refusal factors store r (solve_asks b n k x) ≡ 0
    none e = none_given (held_refusal factors store r (solve_asks b n k x)) x _ e

    way_columns : number_of call.answer ≡ 0 → columns n k call.left ≡ solved_all way n cs swaps (columns n k b)
    unfolding solved_all
    way_columns e =
        let o = made (none e) in
        let p = passed factors store r (solve_asks b n k x) (none e) in
        let sides = and_first (is_matrix b n k) (is_matrix x n k) p.lengths in
        let all = solved_all way n cs swaps (columns n k b) in
        let wide : length all ≡ k = length_each _ 0 (columns n k b) ∙ length_columns n k b in
        let tall : HasRows n all = each_rows n _ 0 (columns n k b) (λ j c e. keeps n cs swaps c ∙ e) (columns_rows n k b (sized n k b sides).size) in
        ap (λ (q : Call (Unit {0}) Column). columns n k q.left) o
        ∙ ap (columns n k) (seventh_stands (flat all) (sym (ap (λ (q : Call (Unit {0}) Column). number_of q.answer) o) ∙ e))
        ∙ ap (λ (c : ℕ). columns n c (flat all)) (sym wide)
        ∙ columns_flat n all tall

    way_column : (j : ℕ) → j < k → number_of call.answer ≡ 0 → column (columns n k call.left) j ≡ way n cs swaps (column (columns n k b) j)
    unfolding solved_all
    way_column j h e = ap (λ (c : Matrix). column c j) (way_columns e) ∙ each_at _ 0 (columns n k b) j [] (omega arith) (rw length_columns h)

    way_seven : held_refusal factors store r (solve_asks b n k x) ≡ 0
        → number_of call.answer ≡ cond (all_finite (flat (solved_all way n cs swaps (columns n k b)))) 0 7
    way_seven e = ap (λ (q : Call (Unit {0}) Column). number_of q.answer) (made e) ∙ seventh_number (solved_by way factors store r (columns n k b))

  way_alone : (r : Record) (factors : Column) (store : List ℕ) (k l : ℕ) (b d x y : Column) (i j : ℕ) → i < k → j < l
      → number_of (solving_by way factors store r b k x).answer ≡ 0 → number_of (solving_by way factors store r d l y).answer ≡ 0
      → column (columns r.rows k b) i ≡ column (columns r.rows l d) j
      → column (columns r.rows k (solving_by way factors store r b k x).left) i ≡ column (columns r.rows l (solving_by way factors store r d l y).left) j
  way_alone r factors store k l b d x y i j hi hj e f same =
      way_column r factors store k b x i hi e
      ∙ ap (way r.rows (columns r.rows r.rows factors) (pairs_of r.pairs store)) same
      ∙ sym (way_column r factors store l d y j hj f)

-- ---- the two calls
module _ (r : Record) (factors : Column) (store : List ℕ) (k : ℕ) (b x : Column) where
  -- THEOREM. An accepted solution column is its own right-hand column, solved.
  pub accepted_column : (j : ℕ) → j < k → number_of (solving factors store r b k x).answer ≡ 0
      → column (columns r.rows k (solving factors store r b k x).left) j
      ≡ solved r.rows (columns r.rows r.rows factors) (pairs_of r.pairs store) (column (columns r.rows k b) j)
  unfolding solving
  accepted_column = way_column solved solve_keeps r factors store k b x

  pub accepted_tr_column : (j : ℕ) → j < k → number_of (tr_solving factors store r b k x).answer ≡ 0
      → column (columns r.rows k (tr_solving factors store r b k x).left) j
      ≡ tr_solved r.rows (columns r.rows r.rows factors) (pairs_of r.pairs store) (column (columns r.rows k b) j)
  unfolding tr_solving
  accepted_tr_column = way_column tr_solved tr_solve_keeps r factors store k b x

  -- THEOREM. A call that its tests let pass is refused with 7 exactly where some number of some solved column is not finite.
  pub seven_by_all : held_refusal factors store r (solve_asks b r.rows k x) ≡ 0
      → number_of (solving factors store r b k x).answer ≡ cond (all_finite (solved_by solved factors store r (columns r.rows k b))) 0 7
  unfolding solving
  seven_by_all = way_seven solved solve_keeps r factors store k b x

  pub tr_seven_by_all : held_refusal factors store r (solve_asks b r.rows k x) ≡ 0
      → number_of (tr_solving factors store r b k x).answer ≡ cond (all_finite (solved_by tr_solved factors store r (columns r.rows k b))) 0 7
  unfolding tr_solving
  tr_seven_by_all = way_seven tr_solved tr_solve_keeps r factors store k b x

-- THEOREM. Two accepted calls by one record, factors and store: equal right-hand columns, wherever they stand and whatever stands beside them, have
-- equal solution columns.
pub column_alone : (r : Record) (factors : Column) (store : List ℕ) (k l : ℕ) (b d x y : Column) (i j : ℕ) → i < k → j < l
    → number_of (solving factors store r b k x).answer ≡ 0 → number_of (solving factors store r d l y).answer ≡ 0
    → column (columns r.rows k b) i ≡ column (columns r.rows l d) j
    → column (columns r.rows k (solving factors store r b k x).left) i ≡ column (columns r.rows l (solving factors store r d l y).left) j
unfolding solving
column_alone = way_alone solved solve_keeps

pub tr_column_alone : (r : Record) (factors : Column) (store : List ℕ) (k l : ℕ) (b d x y : Column) (i j : ℕ) → i < k → j < l
    → number_of (tr_solving factors store r b k x).answer ≡ 0 → number_of (tr_solving factors store r d l y).answer ≡ 0
    → column (columns r.rows k b) i ≡ column (columns r.rows l d) j
    → column (columns r.rows k (tr_solving factors store r b k x).left) i ≡ column (columns r.rows l (tr_solving factors store r d l y).left) j
unfolding tr_solving
tr_column_alone = way_alone tr_solved tr_solve_keeps
