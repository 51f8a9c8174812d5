-- The explanation of a solve: what its two passes store, by the reason that stands in from_factors/specs/Reason; and from what `solve` answered: accepted and
-- no result overflows; refused by its tests; or refused with 7, and then the sides are worked on once more. By the cases of the call. Assumes nothing.
use mathlib.Core.Path.{◌≡◌, sym, ap, ◌∙◌}
use mathlib.Core.Bool.{true}
use mathlib.Core.List.{[]}
use mathlib.Core.Logic.{⊎_elim}
use mathlib.Core.Option.{none, some, or_else, map}
use Prim.Native.Nat.{ℕ, ◌<◌}
use native.Mathlib.Omega.{arith}
use lib.ListN.{length}
use Rattle.std.proofs.Common.{Some, None}
use Rattle.numbers.specs.Numbers.{one64}
use Rattle.finite.specs.Finite.{all_finite}
use Rattle.numbers.proofs.Each.{each_at}
use Rattle.store.specs.Columns.{flat, HasRows}
use Rattle.store.specs.Steps.{Matrix, column}
use Rattle.store.proofs.Lasting.{column_finite}
use Rattle.swap_list.specs.SwapList.{Swaps}
use Rattle.triangular_passes.specs.declared.Pass.{Pass}
use Rattle.triangular_passes.specs.declared.Pass.TheVariants.{Lower, Upper, GivenDiagonal, CorrectedDiagonal}
use Rattle.triangular_passes.specs.declared.Pass.TheVariants.{TransposedLower, TransposedUpper, TransposedUnitLower}
use Rattle.triangular_passes.specs.Triangular.{solved_column, solved_from, solved_columns}
use Rattle.solve.specs.Reason.{Stored, first_in_pass}
use Rattle.triangular_passes.proofs.Lengths.{solved_rows}
use Rattle.from_factors.specs.Reason.{swapped_sides, lower_sides, solve_reason}
use Rattle.from_factors.proofs.Reason.{passes_are, lower_finite, start_rows, solve_cases}
use Rattle.why.specs.declared.WhySolve.TheVariants.{Overflow}
use Rattle.why.specs.Results.{first_overflow}
use Rattle.why.specs.Solving.{Spot, spot_at, lower_results, upper_results, pass_results, solving_results}
use Rattle.why.specs.Inner.{stored_at}
use Rattle.why.specs.Why.{overflowed, told_solve}
use Rattle.why.proofs.Results.{first_append}
use Rattle.why.proofs.Turns.{lower_listed, upper_listed, pass_none, pass_first}

-- ---- the place of a stored result
abbrev pass_number : Pass → ℕ
pass_number Lower = 1
pass_number Upper = 2
pass_number (GivenDiagonal d) = 1
pass_number TransposedLower = 1
pass_number TransposedUpper = 1
pass_number (CorrectedDiagonal d) = 1
pass_number TransposedUnitLower = 1

abbrev pub spot_of : Stored → Spot
spot_of p = spot_at (pass_number p.pass) p.column p.row

-- each column that a pass solves is finite where all are
solved_each : (pass : Pass) (n : ℕ) (cs bs : Matrix) → all_finite (flat (solved_columns pass n cs bs)) ≡ true → (j : ℕ) → j < length bs
    → all_finite (solved_column pass n cs (column bs j)) ≡ true
unfolding solved_from
solved_each pass n cs bs t j h =
    ap all_finite (sym (each_at (λ _ b. solved_column pass n cs b) 0 bs j [] (omega arith) h)) ∙ column_finite (solved_columns pass n cs bs) t j

module _ (n : ℕ) (cs : Matrix) (swaps : Swaps) (bs : Matrix) (rows : HasRows n bs) (ok : all_finite (flat bs) ≡ true) where
  abbrev start : Matrix
  start = swapped_sides swaps bs

  abbrev lower : Matrix
  lower = lower_sides n cs swaps bs

  rows_start : HasRows n start
  rows_start = start_rows n cs swaps bs rows ok

  rows_lower : HasRows n lower
  rows_lower = solved_rows (GivenDiagonal one64) n n cs 0 start rows_start

  -- the unit lower pass where every result of it is finite
  first_none : all_finite (flat lower) ≡ true → first_overflow (pass_results (lower_results n) (GivenDiagonal one64) n cs start) ≡ none
  first_none t = pass_none (GivenDiagonal one64) n 1 cs (lower_results n) (lower_listed n) start rows_start (solved_each (GivenDiagonal one64) n cs start t)

  -- THEOREM. The first result of a solve that is not finite is the reason that stands in from_factors/specs/Reason.
  pub results_solving : first_overflow (solving_results n cs swaps bs) ≡ map spot_of (solve_reason n cs swaps bs)
  unfolding solving_results or_else
  results_solving =
      let first = pass_results (lower_results n) (GivenDiagonal one64) n cs start in
      let second = pass_results (upper_results n) Upper n cs lower in
      first_append first second
      ∙ solve_cases n cs swaps bs rows ok (λ o. or_else (first_overflow first) (first_overflow second) ≡ map spot_of o)
      (λ t.
      let low = lower_finite n cs swaps bs t in
      let up : all_finite (flat (solved_columns Upper n cs lower)) ≡ true = ap (λ (xs : Matrix). all_finite (flat xs)) (passes_are n cs swaps bs) ∙ t in
      rw (first_none low) (pass_none Upper n 2 cs (upper_results n) (upper_listed n) lower rows_lower (solved_each Upper n cs lower up)))
      (λ p t. ⊎_elim
      (λ x. rw (pass_first (GivenDiagonal one64) n 1 cs (lower_results n) (lower_listed n) start p rows_start x)
      (ap (λ (pass : Pass). some (spot_at (pass_number pass) p.column p.row)) (sym x.by)))
      (λ x. rw (first_none x.0) (pass_first Upper n 2 cs (upper_results n) (upper_listed n) lower p rows_lower x.1
      ∙ ap (λ (pass : Pass). some (spot_at (pass_number pass) p.column p.row)) (sym x.1.by))))

  -- ---- from what the two passes gave
  abbrev Told : Spot → Type 0
  Told p = overflowed (some p) ≡ overflowed (first_overflow (solving_results n cs swaps bs))

  pub found_lower : (turn j r : ℕ) → first_in_pass (GivenDiagonal one64) n cs start ≡ some (stored_at (GivenDiagonal one64) j turn r)
      → told_solve (Some (Overflow 1 j r)) ≡ overflowed (first_overflow (solving_results n cs swaps bs))
  unfolding solve_reason or_else told_solve
  found_lower turn j r e = ap overflowed (sym (results_solving ∙ ap (λ o. map spot_of (or_else o (first_in_pass Upper n cs lower))) e))

  module _ (e : first_in_pass (GivenDiagonal one64) n cs start ≡ none) where
    pub found_upper : (turn j r : ℕ) → first_in_pass Upper n cs lower ≡ some (stored_at Upper j turn r)
        → told_solve (Some (Overflow 2 j r)) ≡ overflowed (first_overflow (solving_results n cs swaps bs))
    unfolding solve_reason or_else told_solve
    found_upper turn j r d =
        ap overflowed (sym (results_solving ∙ ap (λ o. map spot_of (or_else o (first_in_pass Upper n cs lower))) e ∙ ap (map spot_of) d))

    pub found_none : first_in_pass Upper n cs lower ≡ none → told_solve None ≡ overflowed (first_overflow (solving_results n cs swaps bs))
    unfolding solve_reason or_else told_solve overflowed
    found_none d =
        ap overflowed (sym (results_solving ∙ ap (λ o. map spot_of (or_else o (first_in_pass Upper n cs lower))) e ∙ ap (map spot_of) d))
