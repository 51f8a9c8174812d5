-- The first stored result of a solve from the factors that is not finite: there is none exactly when the solved columns are finite. Assumes nothing.
use mathlib.Core.Path.{◌≡◌, refl, sym, ap, ◌∙◌}
use mathlib.Core.Logic.{◌⊎◌, inl, inr}
use mathlib.Core.Bool.{true, false, cond, true≢false}
use mathlib.Core.List.{List, []}
use mathlib.Core.Option.{Option, none, some, or_else}
use Prim.Native.Nat.{ℕ, ◌*◌, ◌<◌}
use native.Mathlib.Omega.{arith}
use lib.ListN.{length}
use Rattle.numbers.specs.Each.{each_from}
use Rattle.numbers.specs.Numbers.{one64}
use Rattle.numbers.specs.Column.{Column}
use Rattle.finite.specs.Finite.{all_finite}
use Rattle.numbers.proofs.Each.{length_each, each_at, each_each}
use Rattle.numbers.proofs.Lasting.{lasting}
use Rattle.numbers.proofs.Choice.{and_first}
use Rattle.store.specs.Columns.{columns, flat, HasRows, is_matrix}
use Rattle.store.specs.Steps.{Matrix, column}
use Rattle.store.proofs.Columns.{sized, flat_columns, columns_rows, each_rows}
use Rattle.store.proofs.Lasting.{column_finite, columns_finite, each_columns_finite}
use Rattle.refusals.specs.Outcome.{number_of, Call, leaving}
use Rattle.refusals.proofs.Outcomes.{tested_none, seventh_number}
use Rattle.swap_list.specs.SwapList.{Swaps, pairs_of}
use Rattle.exchanges.specs.Permute.{permute}
use Rattle.exchanges.proofs.Permute.{length_permute}
use Rattle.exchanges.proofs.Finite.{finite_permute}
use Rattle.triangular_passes.specs.declared.Pass.TheVariants.{Upper, GivenDiagonal}
use Rattle.triangular_passes.specs.Triangular.{solved_from, solved_columns}
use Rattle.solve.specs.Reason.{Stored, first_in_pass}
use Rattle.triangular_passes.proofs.Lengths.{solved_rows}
use Rattle.solve.proofs.Lasting.{solved_finite}
use Rattle.solve.proofs.Reason.{FirstInPass, pass_cases}
use Rattle.factors.specs.declared.Record.{Record}
use Rattle.factors.specs.Held.{held_refusal}
use Rattle.factors.proofs.Held.{passed}
use Rattle.from_factors.specs.Solving.{solved, solved_all, solve_asks, solving}
use Rattle.from_factors.specs.Reason.{swapped_sides, lower_sides, solve_reason}

module _ (n : ℕ) (cs : Matrix) (swaps : Swaps) (bs : Matrix) where
  abbrev start : Matrix
  start = swapped_sides swaps bs

  abbrev lower : Matrix
  lower = lower_sides n cs swaps bs

  abbrev finished : Matrix
  finished = solved_all solved n cs swaps bs

  -- pass by pass is column by column
  pub passes_are : solved_columns Upper n cs lower ≡ finished
  unfolding solved_from solved_all solved
  passes_are = ap (each_from _ 0) (each_each _ _ 0 bs) ∙ each_each _ _ 0 bs

  -- the upper pass makes nothing finite again
  pub lower_finite : all_finite (flat finished) ≡ true → all_finite (flat lower) ≡ true
  unfolding solved_from
  lower_finite e = each_columns_finite _ (λ j b. solved_finite Upper n cs b) 0 lower (ap (λ (xs : Matrix). all_finite (flat xs)) passes_are ∙ e)

  -- the unit lower pass stored p; or all of its results are finite, and the upper pass did
  abbrev pub Explained : Stored → Type 0
  Explained p = FirstInPass (GivenDiagonal one64) n cs start p ⊎ ((all_finite (flat lower) ≡ true) × FirstInPass Upper n cs lower p)

  module _ (rows : HasRows n bs) (ok : all_finite (flat bs) ≡ true) where
    pub start_rows : HasRows n start
    start_rows = each_rows n _ 0 bs (λ j b e. length_permute swaps b ∙ e) rows

    pub start_finite : all_finite (flat start) ≡ true
    start_finite = columns_finite start λ j h.
        let hj : j < length bs = rw (length_each (λ j b. permute swaps b) 0 bs) at h in
        rw (each_at (λ j b. permute swaps b) 0 bs j [] (omega arith) hj) (finite_permute swaps (column bs j) ∙ column_finite bs ok j)

    -- THEOREM. Of a solve, by cases: every result is finite and there is no reason, or not, and the reason is as `Explained` says.
    pub solve_cases : (P : Option Stored → Type 0) → (all_finite (flat finished) ≡ true → P none)
        → ((p : Stored) → all_finite (flat finished) ≡ false → Explained p → P (some p)) → P (solve_reason n cs swaps bs)
    unfolding solve_reason or_else
    solve_cases P all first =
        pass_cases (GivenDiagonal one64) n cs start start_rows start_finite (λ o. P (or_else o (first_in_pass Upper n cs lower)))
        (λ fine. pass_cases Upper n cs lower (solved_rows (GivenDiagonal one64) n n cs 0 start start_rows) fine P
        (λ e. all (rw passes_are at e)) (λ p e x. first p (rw passes_are at e) (inr (fine, x))))
        (λ p e x. first p (lasting (all_finite (flat lower)) (all_finite (flat finished)) lower_finite e) (inl x))

    -- THEOREM. "It answers 'no reason' exactly when the call it explains would be accepted."
    pub solve_none : (solve_reason n cs swaps bs ≡ none → all_finite (flat finished) ≡ true)
        × (all_finite (flat finished) ≡ true → solve_reason n cs swaps bs ≡ none)
    solve_none =
        solve_cases (λ o. (o ≡ none → all_finite (flat finished) ≡ true) × (all_finite (flat finished) ≡ true → o ≡ none))
        (λ e. (λ _. e, λ _. refl))
        (λ p e x. (λ n. absurd (let z : ◌≡◌ {A = ℕ} 0 1 = cc in omega arith), λ t. absurd (true≢false (sym t ∙ e))))

-- ---- the call
module _ (r : Record) (factors : Column) (store : List ℕ) (k : ℕ) (b x : Column)
    (none_before : held_refusal factors store r (solve_asks b r.rows k x) ≡ 0) where
  abbrev n : ℕ
  n = r.rows

  abbrev cs : Matrix
  cs = columns n n factors

  abbrev swaps : Swaps
  swaps = pairs_of r.pairs store

  pub sides : is_matrix b n k ≡ true
  sides = and_first (is_matrix b n k) (is_matrix x n k) (passed factors store r (solve_asks b n k x) none_before).lengths

  pub sides_size : length b ≡ k * n
  sides_size = (sized n k b sides).size

  pub sides_finite : all_finite (flat (columns n k b)) ≡ true
  sides_finite = ap all_finite (flat_columns n k b sides_size) ∙ (passed factors store r (solve_asks b n k x) none_before).numbers

  pub seven : number_of (solving factors store r b k x).answer ≡ cond (all_finite (flat (solved_all solved n cs swaps (columns n k b)))) 0 7
  unfolding solving
  seven = ap (λ (o : Call (Unit {0}) Column). number_of o.answer) (tested_none _ (leaving x) _ none_before) ∙ seventh_number _

  -- THEOREM. Of a solve that passes the tests, by cases: it is accepted and there is no reason, or it gives 7 and the reason is as `Explained` says.
  pub solving_cases : (P : ℕ → Option Stored → Type 0) → P 0 none → ((p : Stored) → Explained n cs swaps (columns n k b) p → P 7 (some p))
      → P (number_of (solving factors store r b k x).answer) (solve_reason n cs swaps (columns n k b))
  solving_cases P accepted refused =
      solve_cases n cs swaps (columns n k b) (columns_rows n k b sides_size) sides_finite (P (number_of (solving factors store r b k x).answer))
      (λ e. rw (seven, e) accepted) (λ p e y. rw (seven, e) (refused p y))
