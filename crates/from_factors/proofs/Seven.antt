-- Refusal 7 of the solves, the inverse and the determinant, said of every number that they store (document 01, "Refusal numbers": "A running infinity or NaN
-- never becomes finite again in these steps, so 7 can be read off the final result"). By what lasts from turn to turn, column by column. Assumes nothing.
use mathlib.Core.Path.{◌≡◌, sym, ap, ◌∙◌}
use mathlib.Core.Logic.Iff
use mathlib.Core.Logic.{◌↔◌, ◌⊎◌, inl, inr, ⊎_elim}
use mathlib.Core.Bool.{true, false}
use mathlib.Core.List.{List, [], reverse}
use Prim.Native.Nat.{ℕ, zero, suc, ◌*◌, ◌%◌, ◌≤◌, ◌<◌}
use native.Mathlib.Omega.{arith}
use borrow.Author.Tests.{eqb-true, eqb-false}
use lib.Dec.{T, eqb}
use lib.ListN.{length, length-set, length-replicate}
use lib.Seq.{get_or-set_same, get_or-set_other}
use lib.Ieee.{Float, nan, binary64, mul, fits, of_bits}
use lib.Ieee.Scale.{finite}
use lib.Ieee.Bits.{of_bits-fits}
use lib.Ieee.Fits.{mul-fits}
use Rattle.numbers.specs.Each.{turns_from}
use Rattle.numbers.specs.Numbers.{one64}
use Rattle.numbers.specs.Column.{Column, zeros}
use Rattle.finite.specs.Finite.{all_finite}
use Rattle.numbers.proofs.Choice.{test_cases, cond_cases, and_first}
use Rattle.numbers.proofs.Each.{length_list, list_at, turns_last}
use Rattle.numbers.proofs.Lasting.{lasting, neg_finite}
use Rattle.numbers.proofs.One.{mul_one64, mul_minus_one64}
use Rattle.finite.proofs.Finite.{finite_entry, entries_finite, finite_zeros}
use Rattle.store.specs.Columns.{columns, flat, HasRows, is_matrix}
use Rattle.store.specs.Steps.{Matrix, column}
use Rattle.store.proofs.Columns.{sized, length_columns, columns_rows, flat_columns}
use Rattle.store.proofs.Lasting.{column_finite, columns_finite}
use Rattle.store.proofs.First.{each_spoilt}
use Rattle.refusals.specs.Outcome.{Outcome, done, refused, and_then, leaving}
use Rattle.refusals.specs.Refusals.{seventh}
use Rattle.refusals.proofs.Outcomes.{tested_none, seventh_refused}
use Rattle.swap_list.specs.SwapList.{Swaps, pairs_of}
use Rattle.exchanges.specs.Permute.{permute}
use Rattle.permutation_sequence.specs.Calls.{sign_of}
use Rattle.exchanges.proofs.Permute.{length_permute}
use Rattle.exchanges.proofs.Finite.{finite_permute}
use Rattle.triangular_passes.specs.declared.Pass.{Pass}
use Rattle.triangular_passes.specs.declared.Pass.TheVariants.{Upper, GivenDiagonal, TransposedUpper, TransposedUnitLower}
use Rattle.triangular_passes.specs.Triangular.{solved_column}
use Rattle.triangular_passes.proofs.Lengths.{length_solved}
use Rattle.solve.proofs.Lasting.{solved_lasting}
use Rattle.solve.proofs.Seven.{StoredBad, stored_bad, bad_stored}
use Rattle.factors.specs.declared.Record.{Record}
use Rattle.factors.specs.Held.{held_refusal}
use Rattle.factors.proofs.Held.{passed}
use Rattle.from_factors.specs.Solving.{Way, solved, tr_solved, solved_all, unit_column, identity, solved_by}
use Rattle.from_factors.specs.Solving.{solve_asks, solving, tr_solving, inverse_asks, inverting}
use Rattle.from_factors.specs.Determinant.{times_diagonal, diagonal_product, determinant_of, square_asks, number_or7, producing, determining}
use Rattle.from_factors.proofs.Lasting.{products_finite}

-- ---- one right-hand column b

-- of two passes, one behind the other, one stored a number that was not finite
abbrev pub InEither : Pass → Pass → ℕ → Matrix → Column → Type 0
InEither first second n cs b = StoredBad first n cs b ⊎ StoredBad second n cs (solved_column first n cs b)

two_passes : (first second : Pass) (n : ℕ) (cs : Matrix) (b : Column) → length b ≡ n → all_finite b ≡ true
    → (all_finite (solved_column second n cs (solved_column first n cs b)) ≡ false) ↔ InEither first second n cs b
two_passes first second n cs b rows ok =
    let c = solved_column first n cs b in
    let long = length_solved first n cs b ∙ rows in (
      λ bad. test_cases (all_finite c) (λ t. inr (bad_stored second n cs c long t bad)) (λ t. inl (bad_stored first n cs b rows ok t)),
      ⊎_elim (λ x. solved_lasting second n cs c (stored_bad first n cs b rows x)) (stored_bad second n cs c long),
    )

-- ---- k right-hand columns bs, of n entries each and finite
module _ (r : Record) (factors : Column) (store : List ℕ) where
  abbrev n : ℕ
  n = r.rows

  abbrev cs : Matrix
  cs = columns n n factors

  abbrev swaps : Swaps
  swaps = pairs_of r.pairs store

  module _ (k : ℕ) (bs : Matrix) (wide : length bs ≡ k) (rows : HasRows n bs) (fine : all_finite (flat bs) ≡ true) where
    -- 7 is given exactly when some solved column holds a number that is not finite; P tells it of column j
    through : (way : Way) (P : ℕ → Type 0) → ((j : ℕ) → j < k → (all_finite (way n cs swaps (column bs j)) ≡ false) ↔ P j)
        → ((seventh (solved_by way factors store r bs)).answer ≡ refused 7) ↔ ((j : ℕ) × (j < k) × P j)
    unfolding solved_all
    through way P one =
        let both = Iff.trans (seventh_refused (solved_by way factors store r bs)) (each_spoilt (way n cs swaps) bs) in (
          λ e. let s = both.0 e in let h : s.0 < k = rw wide at s.1 in (s.0, h, (one s.0 h).0 s.2),
          λ s. both.1 (s.0, rw wide s.1, (one s.0 s.1).1 s.2),
        )

    row_of : (j : ℕ) → j < k → length (column bs j) ≡ n
    row_of j h = rows j (rw wide h)

    solved_seven : ((seventh (solved_by solved factors store r bs)).answer ≡ refused 7)
        ↔ ((j : ℕ) × (j < k) × InEither (GivenDiagonal one64) Upper n cs (permute swaps (column bs j)))
    unfolding solved
    solved_seven = through solved (λ j. InEither (GivenDiagonal one64) Upper n cs (permute swaps (column bs j))) λ j h.
        let b = column bs j in
        two_passes (GivenDiagonal one64) Upper n cs (permute swaps b) (length_permute swaps b ∙ row_of j h)
        (finite_permute swaps b ∙ column_finite bs fine j)

    tr_solved_seven : ((seventh (solved_by tr_solved factors store r bs)).answer ≡ refused 7)
        ↔ ((j : ℕ) × (j < k) × InEither TransposedUpper TransposedUnitLower n cs (column bs j))
    unfolding tr_solved
    tr_solved_seven = through tr_solved (λ j. InEither TransposedUpper TransposedUnitLower n cs (column bs j)) λ j h.
        let b = column bs j in
        rw (finite_permute (reverse swaps) (solved_column TransposedUnitLower n cs (solved_column TransposedUpper n cs b)))
        (two_passes TransposedUpper TransposedUnitLower n cs b (row_of j h) (column_finite bs fine j))

  -- ---- the two solves of k right-hand columns b
  module _ (k : ℕ) (b x : Column) (none_before : held_refusal factors store r (solve_asks b n k x) ≡ 0) where
    sides_size : length b ≡ k * n
    sides_size = (sized n k b (and_first (is_matrix b n k) (is_matrix x n k) (passed factors store r (solve_asks b n k x) none_before).lengths)).size

    sides_finite : all_finite (flat (columns n k b)) ≡ true
    sides_finite = ap all_finite (flat_columns n k b sides_size) ∙ (passed factors store r (solve_asks b n k x) none_before).numbers

    -- THEOREM. A solve that passes its tests is refused with 7 exactly when for some right-hand column, its rows swapped, the unit lower pass or the upper pass
    -- behind it stored, at any turn, a number that was not finite.
    pub solving_seven : ((solving factors store r b k x).answer ≡ refused 7)
        ↔ ((j : ℕ) × (j < k) × InEither (GivenDiagonal one64) Upper n cs (permute swaps (column (columns n k b) j)))
    unfolding solving
    solving_seven =
        rw (tested_none _ (leaving x) (seventh (solved_by solved factors store r (columns n k b))) none_before)
        (solved_seven k (columns n k b) (length_columns n k b) (columns_rows n k b sides_size) sides_finite)

    -- THEOREM. The same of a transposed solve, by the transposed upper and the transposed unit lower pass; the swaps come last and store nothing new.
    pub tr_solving_seven : ((tr_solving factors store r b k x).answer ≡ refused 7)
        ↔ ((j : ℕ) × (j < k) × InEither TransposedUpper TransposedUnitLower n cs (column (columns n k b) j))
    unfolding tr_solving
    tr_solving_seven =
        rw (tested_none _ (leaving x) (seventh (solved_by tr_solved factors store r (columns n k b))) none_before)
        (tr_solved_seven k (columns n k b) (length_columns n k b) (columns_rows n k b sides_size) sides_finite)

-- ---- the inverse

unit_finite : (n j : ℕ) → all_finite (unit_column n j) ≡ true
unfolding unit_column of_bits
unit_finite n j = entries_finite (unit_column n j) λ k h.
    let hk : k < length (zeros n) = rw length-set at h in
    test_cases (eqb k j)
    (λ t. let e = eqb-true k j t in let hj : j < length (zeros n) = rw e at hk in rw (e, get_or-set_same (zeros n) j one64 nan hj))
    (λ t. rw (get_or-set_other (zeros n) j k one64 nan (eqb-false k j t)) (finite_entry (zeros n) k (finite_zeros n) hk))

unit_rows : (n : ℕ) → HasRows n (identity n)
unfolding unit_column
unit_rows n j h = let hj : j < n = rw length_list at h in rw (list_at n (unit_column n) j [] hj) (simp (length-set, length-replicate))

identity_finite : (n : ℕ) → all_finite (flat (identity n)) ≡ true
identity_finite n = columns_finite (identity n) λ j h.
    let hj : j < n = rw length_list at h in rw (list_at n (unit_column n) j [] hj) (unit_finite n j)

-- THEOREM. The same of an inverse, the right-hand columns being the identity's.
pub inverting_seven : (r : Record) (factors : Column) (store : List ℕ) (x : Column) → held_refusal factors store r (inverse_asks x r.rows) ≡ 0
    → let n = r.rows in
    ((inverting factors store r x).answer ≡ refused 7)
    ↔ ((j : ℕ) × (j < n) × InEither (GivenDiagonal one64) Upper n (columns n n factors) (permute (pairs_of r.pairs store) (column (identity n) j)))
unfolding inverting
inverting_seven r factors store x none_before =
    let n = r.rows in
    rw (tested_none _ (leaving x) (seventh (solved_by solved factors store r (identity n))) none_before)
    (solved_seven r factors store n (identity n) (length_list n (unit_column n)) (unit_rows n) (identity_finite n))

-- ---- the determinant

-- the running product is a double, so the sign of the swaps leaves it finite or not
signed_finite : (pairs : ℕ) (d : Float) → T (fits binary64 d) → finite (mul binary64 d (sign_of pairs)) ≡ finite d
unfolding sign_of
signed_finite pairs d t =
    cond_cases (λ (s : Float). finite (mul binary64 d s) ≡ finite d) (eqb (pairs % 2) 0)
    (λ _. ap finite (mul_one64 d t)) (λ _. ap finite (mul_minus_one64 d t) ∙ neg_finite d)

product_fits : (n : ℕ) (cs : Matrix) → T (fits binary64 (turns_from (times_diagonal cs) 0 n one64))
unfolding turns_from times_diagonal
product_fits zero cs = of_bits-fits binary64 _
product_fits (suc n) cs = rw (turns_last (times_diagonal cs) 0 n one64) (mul-fits binary64 _ _)

number_seven : (x : Float) → (number_or7 x ≡ refused 7) ↔ (finite x ≡ false)
unfolding number_or7
number_seven x = (
  test_cases {Q = number_or7 x ≡ refused 7 → finite x ≡ false} (finite x)
      (λ t e. absurd (let z : ◌≡◌ {A = ℕ} 0 1 = cc (rw t at e) in omega arith)) (λ t e. t),
  λ t. rw t,
)

-- THEOREM. A determinant that passes its tests is refused with 7 exactly when some running product of the diagonal is not finite.
pub determining_seven : (r : Record) (factors : Column) (store : List ℕ) → held_refusal factors store r square_asks ≡ 0
    → let n = r.rows in
    (determining factors store r ≡ refused 7) ↔ ((q : ℕ) × (q ≤ n) × (finite (turns_from (times_diagonal (columns n n factors)) 0 q one64) ≡ false))
unfolding determining producing determinant_of diagonal_product
determining_seven r factors store none_before =
    let n = r.rows in
    let cs = columns n n factors in
    let product = turns_from (times_diagonal cs) 0 n one64 in
    let whole = determinant_of n cs r.pairs in
    let is : determining factors store r ≡ number_or7 whole =
    ap (λ (o : Outcome Float). and_then o (λ d. number_or7 (mul binary64 d (sign_of r.pairs)))) (tested_none _ refused (done product) none_before) in
    let seven = number_seven whole in (
      λ e. (n, omega arith, sym (signed_finite r.pairs product (product_fits n cs)) ∙ seven.0 (sym is ∙ e)),
      λ s. is ∙ seven.1
          (lasting (finite (turns_from (times_diagonal cs) 0 s.0 one64)) (finite whole) (products_finite n s.0 cs r.pairs s.1) s.2),
    )
