-- What the two passes of a solve store, and where the first number stands that is not finite: turn by turn, column by column, from what is known of the first
-- stored result (solve/proofs/Reason). Assumes nothing.
use mathlib.Core.Path.{◌≡◌, refl, sym, ap, ◌∙◌}
use mathlib.Core.Bool.{true, false}
use mathlib.Core.List.{List, []}
use mathlib.Core.Option.{none, some, or_else}
use Prim.Native.Nat.{ℕ, zero, suc, ◌+◌, ◌-◌, ◌≤◌, ◌<◌}
use native.Mathlib.Nat.{zero-add, add-zero, not-suc-le-zero, le_of_suc-le-suc, lt_of_not-le}
use native.Mathlib.Omega.{arith}
use borrow.Author.Tests.{eqb-true, eqb-false, leb-true, ltb-true}
use lib.Dec.{eqb}
use lib.ListN.{length, take, drop, length-drop, length-take}
use lib.Seq.{get_or-drop, get_or-take}
use lib.Ieee.{nan}
use lib.Ieee.Scale.{finite}
use Rattle.numbers.specs.Each.{turns_from}
use Rattle.numbers.specs.Numbers.{one64}
use Rattle.numbers.specs.Column.{Column, entry}
use Rattle.finite.specs.Finite.{all_finite}
use Rattle.numbers.proofs.Choice.{test_cases}
use Rattle.numbers.proofs.Each.{turns_last}
use Rattle.numbers.proofs.First.{passed_then}
use Rattle.finite.proofs.Finite.{finite_entry}
use Rattle.store.specs.Columns.{HasRows}
use Rattle.store.specs.Steps.{Matrix, column}
use Rattle.triangular_passes.specs.declared.Pass.{Pass}
use Rattle.triangular_passes.specs.declared.Pass.TheVariants.{Upper, GivenDiagonal}
use Rattle.triangular_passes.specs.Triangular.{row_at, turns_of, solved_row, turn, solved_column}
use Rattle.triangular_passes.proofs.Lengths.{length_row, length_turns}
use Rattle.solve.specs.Reason.{Stored, stores}
use Rattle.triangular_passes.proofs.Turns.{turn_row}
use Rattle.solve.proofs.Lasting.{turn_finite}
use Rattle.solve.proofs.Reason.{FirstStored, FirstInPass}
use Rattle.why.specs.Results.{Result, first_overflow}
use Rattle.why.specs.Solving.{Spot, spot_at, lower_results, upper_results, turns_results, pass_results}
use Rattle.why.proofs.Results.{first_append, rows_none, rows_first, turn_none, turn_first}

lt_of_le_of_ne : (a b : ℕ) → a ≤ b → (a ≡ b → ⊥) → a < b
lt_of_le_of_ne a b h ne = lt_of_not-le (λ (l : b ≤ a). ne (omega arith))

length_after : (pass : Pass) (n : ℕ) (cs : Matrix) (k : ℕ) (b : Column) → length (turns_from (turn pass n cs) 0 k b) ≡ length b
unfolding turn solved_row
length_after pass n cs k b = length_turns (turn pass n cs) (λ q c. length_row pass _ _ _ c) 0 k b

-- ---- so many turns
module _ (stored : ℕ → Column → List (Result Spot)) (by : ℕ → Column → Column) where
  turns_none : (i c : ℕ) (b : Column) → ((q : ℕ) → q < c → first_overflow (stored (i + q) (by (i + q) (turns_from by i q b))) ≡ none)
      → first_overflow (turns_results stored by i c b) ≡ none
  unfolding turns_results turns_from first_overflow or_else
  turns_none i zero b h = refl
  turns_none i (suc c) b h =
      let shift : (q : ℕ) → i + suc q ≡ i + 1 + q = λ q. omega arith in
      first_append (stored i (by i b)) (turns_results stored by (i + 1) c (by i b))
      ∙ rw (rw (add-zero i) at (h 0 (omega arith))) (turns_none (i + 1) c (by i b) (λ q l. rw (shift q) at (h (suc q) (omega arith))))

  turns_first : (i c : ℕ) (b : Column) (k : ℕ) (p : Spot) → k < c → ((q : ℕ) → q < k → first_overflow (stored (i + q) (by (i + q) (turns_from by i q b)))
      ≡ none)
      → first_overflow (stored (i + k) (by (i + k) (turns_from by i k b))) ≡ some p → first_overflow (turns_results stored by i c b) ≡ some p
  unfolding turns_results turns_from or_else
  turns_first i zero b k p h fine bad = absurd (not-suc-le-zero h)
  turns_first i (suc c) b zero p h fine bad =
      first_append (stored i (by i b)) (turns_results stored by (i + 1) c (by i b)) ∙ rw (rw (add-zero i) at bad)
  turns_first i (suc c) b (suc k) p h fine bad =
      let shift : (q : ℕ) → i + suc q ≡ i + 1 + q = λ q. omega arith in
      first_append (stored i (by i b)) (turns_results stored by (i + 1) c (by i b))
      ∙ rw (rw (add-zero i) at (fine 0 (omega arith)))
      (turns_first (i + 1) c (by i b) k p (le_of_suc-le-suc h) (λ q l. rw (shift q) at (fine (suc q) (omega arith))) (rw (shift k) at bad))

-- ---- what one turn of a pass stores, as its list says it: nothing that is not finite, or first the number in row r
pub record Listed (pass : Pass) (n number : ℕ) (stored : ℕ → ℕ → Column → List (Result Spot)) : Type 0 where
  pub fine : (j k : ℕ) (c : Column) → length c ≡ n → row_at pass n k < n → all_finite c ≡ true → first_overflow (stored j k c) ≡ none
  pub first : (j k : ℕ) (c : Column) (r : ℕ) → length c ≡ n → row_at pass n k < n → r < n → stores pass (row_at pass n k) r ≡ true → finite (entry c r) ≡ false
      → ((r ≡ row_at pass n k → ⊥) → finite (entry c (row_at pass n k)) ≡ true)
      → ((r ≡ row_at pass n k → ⊥) → (q : ℕ) → q < r → finite (entry c q) ≡ true) → first_overflow (stored j k c) ≡ some (spot_at number j r)

pub lower_listed : (n : ℕ) → Listed (GivenDiagonal one64) n 1 (lower_results n)
lower_listed n =
    record {
      fine = λ j k c long low t. rows_none (spot_at 1 j) (k + 1) (drop (k + 1) c)
          (λ q h. ap finite (get_or-drop (k + 1) c q nan) ∙ finite_entry c (k + 1 + q) t (omega (arith, length-drop (k + 1) c)));
      first = λ j k c r long low hr there bad own before.
          let above : k < r = ltb-true k r there in
          let row : k + 1 + (r - (k + 1)) ≡ r = omega arith in
          rows_first (spot_at 1 j) (k + 1) (drop (k + 1) c) (r - (k + 1)) (omega (arith, length-drop (k + 1) c))
          (ap finite (get_or-drop (k + 1) c (r - (k + 1)) nan ∙ ap (entry c) row) ∙ bad)
          (λ q h. ap finite (get_or-drop (k + 1) c q nan) ∙ before (λ e. omega arith) (k + 1 + q) (omega arith))
          ∙ ap (λ (q : ℕ). some (spot_at 1 j q)) row;
    }

pub upper_listed : (n : ℕ) → Listed Upper n 2 (upper_results n)
unfolding first_overflow
upper_listed n = record { fine = fine; first = first }
  where
    fine : (j k : ℕ) (c : Column) → length c ≡ n → n - 1 - k < n → all_finite c ≡ true → first_overflow (upper_results n j k c) ≡ none
    fine j k c long low t =
        let i = n - 1 - k in
        rw (finite_entry c i t (omega arith))
        (rows_none (spot_at 2 j) 0 (take i c)
        (λ q h.
        let shorter : q < i = omega (arith, length-take i c) in
        ap finite (get_or-take i c q nan shorter) ∙ finite_entry c q t (omega arith)))

    first : (j k : ℕ) (c : Column) (r : ℕ) → length c ≡ n → n - 1 - k < n → r < n → stores Upper (n - 1 - k) r ≡ true → finite (entry c r) ≡ false
        → ((r ≡ n - 1 - k → ⊥) → finite (entry c (n - 1 - k)) ≡ true)
        → ((r ≡ n - 1 - k → ⊥) → (q : ℕ) → q < r → finite (entry c q) ≡ true) → first_overflow (upper_results n j k c) ≡ some (spot_at 2 j r)
    first j k c r long low hr there bad own before =
        let i = n - 1 - k in
        let at_most = leb-true r i there in
        test_cases (eqb r i)
        (λ t. let e = eqb-true r i t in rw (ap (λ (q : ℕ). finite (entry c q)) (sym e) ∙ bad) (ap (λ (q : ℕ). some (spot_at 2 j q)) (sym e)))
        (λ t.
        let other = eqb-false r i t in
        let above : r < i = lt_of_le_of_ne r i at_most other in
        rw (own other)
        (rows_first (spot_at 2 j) 0 (take i c) r (omega (arith, length-take i c)) (ap finite (get_or-take i c r nan above) ∙ bad)
        (λ q h. ap finite (get_or-take i c q nan (omega arith)) ∙ before other q h)
        ∙ ap (λ (q : ℕ). some (spot_at 2 j q)) (zero-add r)))

-- ---- a pass
module _ (pass : Pass) (n number : ℕ) (cs : Matrix) (stored : ℕ → ℕ → Column → List (Result Spot)) (listed : Listed pass n number stored) where
  abbrev after : ℕ → Column → Column
  after k b = turns_from (turn pass n cs) 0 k b

  abbrev column_trace : ℕ → Column → List (Result Spot)
  column_trace j b = turns_results (stored j) (turn pass n cs) 0 (turns_of pass n) b

  -- the column after turn q, and that its turn has a row
  after_next : (q : ℕ) (b : Column) → turn pass n cs q (after q b) ≡ after (suc q) b
  after_next q b = sym (turns_last (turn pass n cs) 0 q b ∙ ap (λ (i : ℕ). turn pass n cs i (after q b)) (zero-add q))

  low : (q : ℕ) → q < turns_of pass n → row_at pass n q < n
  low q h = turn_row pass n q (turns_of pass n) (row_at pass n q) refl h refl

  -- a turn after which the column is finite
  turn_fine : (j q : ℕ) (b : Column) → length b ≡ n → q < turns_of pass n → all_finite (after (suc q) b) ≡ true
      → first_overflow (stored j (0 + q) (turn pass n cs (0 + q) (after q b))) ≡ none
  turn_fine j q b long h t =
      rw (zero-add q, after_next q b) (listed.fine j q (after (suc q) b) (length_after pass n cs (suc q) b ∙ long) (low q h) t)

  column_none : (j : ℕ) (b : Column) → length b ≡ n → all_finite (solved_column pass n cs b) ≡ true → first_overflow (column_trace j b) ≡ none
  unfolding solved_column
  column_none j b long t =
      turns_none (stored j) (turn pass n cs) 0 (turns_of pass n) b
      (λ q h. turn_fine j q b long h (passed_then all_finite (turn pass n cs) (turn_finite pass n cs) 0 (suc q) (turns_of pass n) b (omega arith) t))

  column_first : (j : ℕ) (b : Column) (k r : ℕ) → length b ≡ n → FirstStored pass n cs b k r → first_overflow (column_trace j b) ≡ some (spot_at number j r)
  column_first j b k r long x =
      let h = x.in_time in
      turns_first (stored j) (turn pass n cs) 0 (turns_of pass n) b k (spot_at number j r) h
      (λ q l. turn_fine j q b long (omega arith) (x.turns_before (suc q) (omega arith)))
      (rw (zero-add k)
      (listed.first j k (turn pass n cs k (after k b)) r (ap length (after_next k b) ∙ length_after pass n cs (suc k) b ∙ long) (low k h) x.long
      x.is_stored
      x.fails
      x.own_before
      x.rows_before))

  -- THEOREM. Where all solved columns are finite, no stored result is not.
  pub pass_none : (bs : Matrix) → HasRows n bs → ((j : ℕ) → j < length bs → all_finite (solved_column pass n cs (column bs j)) ≡ true)
      → first_overflow (pass_results stored pass n cs bs) ≡ none
  pass_none bs rows fine =
      turn_none column_trace [] 0 bs (λ j h. rw (zero-add j) (column_none j (column bs j) (rows j h) (fine j h)))

  -- THEOREM. Else the first one is where the reason says.
  pub pass_first : (bs : Matrix) (p : Stored) → HasRows n bs → FirstInPass pass n cs bs p
      → first_overflow (pass_results stored pass n cs bs) ≡ some (spot_at number p.column p.row)
  pass_first bs p rows x =
      let wide = x.wide in
      turn_first column_trace [] 0 bs p.column (spot_at number p.column p.row) wide
      (λ j h. rw (zero-add j) (column_none j (column bs j) (rows j (omega arith)) (x.columns_before j h)))
      (rw (zero-add p.column) (column_first p.column (column bs p.column) p.turn p.row (rows p.column wide) x.first))
