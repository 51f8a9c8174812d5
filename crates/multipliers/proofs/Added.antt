-- A column added to any factors that pass the tests, whoever filled them in: its own multipliers are within one. Adding finds the pivot in the reduced
-- column, which is finite where the new one is, and the rest is the bound on one multiplier. Assumes nothing.
use mathlib.Core.Path.{◌≡◌, sym, ap, ◌∙◌}
use mathlib.Core.Bool.{true}
use mathlib.Core.List.{List, []}
use Prim.Native.Nat.{ℕ, ◌+◌, ◌*◌, ◌<◌}
use native.Mathlib.Omega.{arith}
use lib.ListN.{length}
use lib.Seq.{get_or_at}
use Rattle.numbers.specs.Numbers.{is_zero}
use Rattle.numbers.specs.Column.{Column, entry}
use Rattle.numbers.proofs.Choice.{cond_cases}
use Rattle.blas.specs.Blas.{swap_rows}
use Rattle.finite.specs.Finite.{all_finite}
use Rattle.finite.proofs.Finite.{finite_entry, finite_swap}
use Rattle.min_max.specs.Pivot.{pivot_row}
use Rattle.store.specs.Columns.{columns, flat}
use Rattle.store.specs.Steps.{Matrix, column, swap_in_all}
use Rattle.store.proofs.Columns.{sized, length_columns, length_flat, columns_snoc}
use Rattle.store.proofs.Steps.{length_swap_in_all, rows_swap_in_all}
use Rattle.refusals.specs.Outcome.{done, number_of}
use Rattle.factors.specs.declared.Record.{Record}
use Rattle.elimination.specs.Adding.{reduced}
use Rattle.elimination.specs.Own.{own_row, own_column}
use Rattle.elimination.proofs.Lasting.{multipliers_finite}
use Rattle.elimination.proofs.Own.{length_own, length_reduced}
use Rattle.adding.specs.Adding.{older_factors, adding}
use Rattle.adding.specs.Inner.{Ready}
use Rattle.adding.proofs.Adds.{ready, no_refusal, adding_changes, adding_finite}
use Rattle.adding.proofs.Slot.{older_rows}
use Rattle.units.specs.Units.{AtMost, one_units, most_units}
use Rattle.multipliers.specs.Multipliers.{at}
use Rattle.multipliers.proofs.Below.{own_below}
use Rattle.multipliers.proofs.Bounded.{bounded}

-- what its own step leaves finite was finite
own_finite : (n : ℕ) (x : Column) → all_finite (own_column n x) ≡ true → all_finite x ≡ true
unfolding own_column
own_finite n x =
    let p = pivot_row n x in
    cond_cases (λ (c : Column). all_finite c ≡ true → all_finite x ≡ true) (is_zero (entry x p)) (λ z e. e)
    (λ live e. sym (finite_swap n p x) ∙ multipliers_finite n (swap_rows n p x) e)

module _ (r : Record) (s c : Column) (store : List ℕ) (next : Record) (good : (adding s c store r).answer ≡ done next) where
  abbrev m : ℕ
  m = r.rows

  abbrev n : ℕ
  n = r.columns

  abbrev x : Column
  x = reduced m (older_factors s store r) c

  abbrev cs : Matrix
  cs = columns m (n + 1) (adding s c store r).left.factors

  accepted : number_of (adding s c store r).answer ≡ 0
  accepted = ap number_of good

  go : Ready s c store r
  go = ready r s c store (no_refusal r s c store accepted)

  long : length x ≡ m
  long = length_reduced m (older_factors s store r) c ∙ go.long

  -- the column that is left in the slot
  last_is : column cs n ≡ own_column n x
  last_is =
      let p = own_row n x in
      let older = swap_in_all n p (columns m n s) in
      let size = (sized m (n + 1) s go.room).size in
      let front : length (flat older) ≡ n * m = length_flat m older (rows_swap_in_all n m p (columns m n s) (older_rows m n s size))
      ∙ ap (λ (k : ℕ). k * m) (length_swap_in_all n p (columns m n s) ∙ length_columns m n s) in
      ap (λ (y : Column). column (columns m (n + 1) y) n) (adding_changes r s c store accepted).0
      ∙ ap (λ (y : Matrix). column y n) (columns_snoc m n (flat older) (own_column n x) front (length_own n x ∙ long))
      ∙ get_or_at (columns m n (flat older)) (own_column n x) [] [] n (length_columns m n (flat older))

  -- THEOREM. Whatever factors a column is added to, each of its multipliers is at most 1 where its pivot is at most 2 ^ 1022.
  pub own_within_one : (k : ℕ) → n < k → k < m → AtMost most_units (at cs n n) → AtMost one_units (at cs k n)
  own_within_one k nk km =
      let fin = adding_finite r s c store accepted in
      let xn : n < length x = rw long (let h : n < m = omega arith in h) in
      let xk : k < length x = rw long km in
      rw last_is
      (bounded (entry (own_column n x) n) (entry (own_column n x) k) (own_below n x (own_finite n x fin) xn k nk xk)
      (finite_entry (own_column n x) k fin (rw (length_own n x) xk)))
