-- The elimination of four columns. The parts of a step at each number below three, computed; one step from what its parts ensure; the last step of four, which
-- changes nothing; and all four. Assumes nothing.
use mathlib.Core.Path.{◌≡◌, refl, sym, ap, ◌∙◌}
use mathlib.Core.Bool.{true, false}
use mathlib.Core.List.{[], ◌∷◌}
use Prim.Native.Nat.{ℕ, ◌≤◌, ◌<◌}
use native.Mathlib.Omega.{arith}
use borrow.Author.Tests.{eq-eqb, eqb-true}
use lib.Dec.{eqb}
use lib.ListN.{length}
use lib.Ieee.{nan}
use Rattle.numbers.specs.Each.{each_from, turns_from}
use Rattle.numbers.specs.Numbers.{magnitude, is_zero}
use Rattle.numbers.specs.Column.{Column, entry}
use Rattle.numbers.proofs.Choice.{cond_cases}
use Rattle.min_max.specs.Pivot.{pivot_row, search_from}
use Rattle.min_max.proofs.Pivot.{pivot_from, pivot_to}
use Rattle.blas.specs.Blas.{exchanged, swap_rows, scale_from}
use Rattle.blas.proofs.Exchange.{other_first, get_d_exchanged, exchanged_self}
use Rattle.store.specs.Steps.{Matrix, column, swap_in_all}
use Rattle.one_step.specs.OneStep.{step_columns, eliminated}
use Rattle.swap_list.specs.SwapList.{Swaps}
use Rattle.exchanges.specs.Permute.{permute, permuted_by}
use Rattle.exchanges.proofs.Permute.{permute_append}
use Rattle.factors.specs.Factors.{Factors, record_swap}
use Rattle.elimination.specs.Elimination.{multipliers, scaled, pivot_step, step, eliminate}
use Rattle.four_by_four.specs.declared.Rows.{Rows}
use Rattle.four_by_four.specs.declared.System.{System}
use Rattle.four_by_four.specs.declared.Found.{Found}
use Rattle.four_by_four.specs.declared.After.{After}
use Rattle.four_by_four.specs.System.{listed, matrix_of, Eliminated}
use Rattle.four_by_four.specs.Inner.{next_of, stepped_by, columns_by, factors_of, Stepped}
use Rattle.four_by_four.proofs.Cases.{by_three}

-- ---- at each number below three
-- the search before its first comparison
abbrev pub begun : Rows → ℕ → Found
begun c i = record { top = magnitude (entry (listed c) i); row = i }

pub search_is : (c : Rows) (i : ℕ) → i < 3 → (next_of (next_of (next_of (begun c i) i 1 c.1) i 2 c.2) i 3 c.3).row ≡ pivot_row i (listed c)
unfolding next_of pivot_row search_from
search_is c = by_three (λ i. (next_of (next_of (next_of (begun c i) i 1 c.1) i 2 c.2) i 3 c.3).row ≡ pivot_row i (listed c)) refl refl refl

-- the columns after step i
eliminated_is : (t : System) (i : ℕ) → i < 3 → columns_by i t (multipliers i (column (matrix_of t) i)) ≡ eliminated i (scaled i (matrix_of t))
unfolding eliminated scaled step_columns each_from stepped_by
eliminated_is t = by_three (λ i. columns_by i t (multipliers i (column (matrix_of t) i)) ≡ eliminated i (scaled i (matrix_of t))) refl refl refl

four : (s : System) (i : ℕ) → i < 3 → length (column (matrix_of s) i) ≡ 4
four s = by_three (λ i. length (column (matrix_of s) i) ≡ 4) refl refl refl

here : (s : System) (p i : ℕ) → i < 3 → column (swap_in_all i p (matrix_of s)) i ≡ swap_rows i p (column (matrix_of s) i)
unfolding swap_in_all each_from
here s p = by_three (λ i. column (swap_in_all i p (matrix_of s)) i ≡ swap_rows i p (column (matrix_of s) i)) refl refl refl

-- ---- step i, p being the pivot row
module _ (i p : ℕ) (low : i < 3) (s : System) (found : p ≡ pivot_row i (column (matrix_of s) i)) where
  abbrev c : Column
  c = column (matrix_of s) i

  pub within : (i ≤ p) × (p < 4)
  within =
      let long = four s i low in
      let from : i ≤ p = rw found (pivot_from i c) in
      let to : p < length c = rw found (pivot_to i c (rw long (omega arith))) in
      (from, rw long at to)

  -- t being the system with the two rows exchanged
  module _ (t : System) (swap : (matrix_of t ≡ swap_in_all i p (matrix_of s)) × (listed t.x ≡ swap_rows i p (listed s.x))) where
    -- the pivot, where it stands then
    there : entry (column (matrix_of t) i) i ≡ entry c (pivot_row i c)
    there =
        let long = four s i low in
        ap (λ (m : Matrix). entry (column m i) i) swap.0
        ∙ ap (λ (c : Column). entry c i) (here s p i low)
        ∙ get_d_exchanged nan i p c i (rw long (omega arith)) (rw long within.1)
        ∙ ap (entry c) (other_first i p ∙ found)

    pub skipped : is_zero (entry (column (matrix_of t) i) i) ≡ true → Stepped i s (record { system = s; row = i })
    unfolding step record_swap
    skipped z =
        let y = ap is_zero (sym there) ∙ z in
        record { columns = λ w. rw (y, eq-eqb i i refl); readings = sym (exchanged_self nan i (listed s.x)) }

    pub stepped : is_zero (entry (column (matrix_of t) i) i) ≡ false → (l : Column) → l ≡ multipliers i (column (matrix_of t) i)
        → (m : System) → matrix_of m ≡ columns_by i t l → m.x ≡ t.x → Stepped i s (record { system = m; row = p })
    unfolding step pivot_step
    stepped z l dl m dm dx =
        let y = ap is_zero (sym there) ∙ z in
        let all : matrix_of m ≡ eliminated i (scaled i (swap_in_all i p (matrix_of s))) =
        dm ∙ ap (columns_by i t) dl ∙ eliminated_is t i low ∙ ap (λ (cs : Matrix). eliminated i (scaled i cs)) swap.0 in
        record {
          columns = λ w. rw (y, ← found) (ap (λ (cs : Matrix). record { columns = cs; swaps = record_swap i p w }) all);
          readings = ap listed dx ∙ swap.1;
        }

-- ---- with no row below, a step does nothing
last : (s : System) (w : Swaps) → step 3 (factors_of s w) ≡ factors_of s w
unfolding step pivot_row search_from pivot_step record_swap swap_in_all exchanged scaled multipliers scale_from eliminated step_columns each_from
last s w = cond_cases (λ (f : Factors). f ≡ factors_of s w) (is_zero s.c3.3) (λ e. refl) (λ e. refl)

-- ---- a recorded swap permutes as the exchange does
permute_record : (i p : ℕ) (w : Swaps) (b : Column) → permute (record_swap i p w) b ≡ swap_rows i p (permute w b)
unfolding record_swap permuted_by
permute_record i p w b =
    cond_cases (λ (v : Swaps). permute v b ≡ swap_rows i p (permute w b)) (eqb p i)
    (λ e. sym (ap (λ (k : ℕ). swap_rows i k (permute w b)) (eqb-true p i e) ∙ exchanged_self nan i (permute w b)))
    (λ e. permute_append w ((i, p) ∷ []) b)

-- ---- all steps
pub all_steps : (s : System) (a b c : After) → Stepped 0 s a → Stepped 1 a.system b → Stepped 2 b.system c
    → Eliminated s (record { system = c.system; p = a.row; q = b.row; r = c.row })
unfolding eliminate turns_from permuted_by
all_steps s a b c da db dc =
    let x = listed s.x in
    let w1 = record_swap 0 a.row [] in
    let w2 = record_swap 1 b.row w1 in
    let w3 = record_swap 2 c.row w2 in
    let whole : factors_of c.system w3 ≡ eliminate 4 (matrix_of s) =
    sym (last c.system w3) ∙ ap (step 3) (dc.columns w2 ∙ ap (step 2) (db.columns w1 ∙ ap (step 1) (da.columns []))) in
    let one = da.readings ∙ sym (permute_record 0 a.row [] x) in
    let two = db.readings ∙ ap (swap_rows 1 b.row) one ∙ sym (permute_record 1 b.row w1 x) in
    record {
      columns = ap (λ (f : Factors). f.columns) whole;
      swaps = ap (λ (f : Factors). f.swaps) whole;
      readings = dc.readings
          ∙ ap (swap_rows 2 c.row) two
          ∙ sym (permute_record 2 c.row w2 x)
          ∙ ap (λ (f : Factors). permute f.swaps x) whole;
    }
