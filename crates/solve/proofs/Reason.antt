-- The first stored result of a solve that is not finite: there is none exactly when the solved columns are finite; else the number named is not finite, a turn
-- stored it, and everything stored before it is finite. Assumes nothing.
use mathlib.Core.Path.{◌≡◌, refl, sym, ap, ◌∙◌, subst}
use mathlib.Core.Bool.{true, false, true≢false}
use mathlib.Core.List.{[], ◌∷◌, ◌++◌}
use mathlib.Core.Option.{Option, none, some}
use Prim.Native.Nat.{ℕ, zero, suc, ◌+◌, ◌-◌, ◌≤◌, ◌<◌}
use native.Mathlib.Nat.{zero-add, add-zero, not-suc-le-zero, le_of_suc-le-suc, lt_of_not-le}
use native.Mathlib.Omega.{arith}
use borrow.Author.Tests.{ltb-false, leb-false, eqb-false}
use lib.ListN.{length, set, take, drop, length-set, length-take}
use lib.Seq.{get_or-set_other, get_or-append-add, get_or-drop}
use lib.Ieee.{Float, nan, binary64, neg, div}
use lib.Ieee.Scale.{finite}
use Rattle.numbers.specs.Each.{turns_from}
use Rattle.numbers.specs.Column.{Column, entry}
use Rattle.blas.specs.Blas.{axpy_from}
use Rattle.finite.specs.Finite.{all_finite}
use Rattle.numbers.specs.Numbers.{is_zero}
use Rattle.numbers.specs.First.{first_failing}
use Rattle.numbers.proofs.Choice.{test_cases, cond_cases}
use Rattle.numbers.proofs.Each.{length_each, each_at}
use Rattle.finite.proofs.Finite.{finite_entry, entries_finite}
use Rattle.blas.proofs.Rows.{length_axpy, entry_axpy_before}
use Rattle.numbers.proofs.First.{failing_fails, failing_before, some_cases, passed_then, turn_cases}
use Rattle.numbers.proofs.Lasting.{lasting}
use Rattle.store.specs.Columns.{flat, HasRows}
use Rattle.store.specs.Steps.{Matrix, column}
use Rattle.store.proofs.Lasting.{column_finite, columns_finite}
use Rattle.triangular_passes.specs.declared.Pass.{Pass}
use Rattle.triangular_passes.specs.declared.Pass.TheVariants.{Lower, Upper, GivenDiagonal, CorrectedDiagonal}
use Rattle.triangular_passes.specs.declared.Pass.TheVariants.{TransposedLower, TransposedUpper, TransposedUnitLower}
use Rattle.dead_columns.specs.Dead.{zero_count, dead_from}
use Rattle.triangular_passes.specs.Triangular.{lower_row, upper_row, kept_row, transposed_lower_row, transposed_upper_row, transposed_unit_lower_row}
use Rattle.triangular_passes.specs.Triangular.{divisor, row_by}
use Rattle.triangular_passes.specs.Triangular.{row_at, turns_of, solved_row, turn, solved_column, solved_from, solved_columns}
use Rattle.solve.specs.Reason.{Stored, stores, first_row, first_in_column, first_in_pass, lowest_zero}
use Rattle.triangular_passes.proofs.Lengths.{length_row, length_turns}
use Rattle.triangular_passes.proofs.Turns.{turns_most, row_below}
use Rattle.solve.proofs.Lasting.{turn_finite}

-- ---- a turn leaves the rows that it does not store in
module _ (d : Float) (l : Column) (i : ℕ) (b : Column) (r : ℕ) where
  lower_stays : r < i → entry (lower_row d l i b) r ≡ entry b r
  unfolding lower_row
  lower_stays h = entry_axpy_before (i + 1) _ l _ r (omega arith) ∙ get_or-set_other b i r _ nan (λ e. omega arith)

  upper_stays : i < r → r < length b → entry (upper_row d l i b) r ≡ entry b r
  unfolding upper_row
  upper_stays h hr =
      let x = div binary64 (entry b i) d in
      let c = set b i x in
      let above = axpy_from 0 (neg x) (take i l) (take i c) in
      let long : length above ≡ i = length_axpy 0 (neg x) (take i l) (take i c) ∙ simp (length-take, length-set) (omega arith) in
      let at : r ≡ length above + (r - i) = omega (arith, long) in
      let back : i + (r - i) ≡ r = omega arith in
      ap (entry (above ++ drop i c)) at ∙ get_or-append-add above (drop i c) (r - i) nan ∙ get_or-drop i c (r - i) nan ∙ ap (entry c) back
      ∙ get_or-set_other b i r x nan (λ e. omega arith)

  row_stays : (pass : Pass) → r < length b → stores pass i r ≡ false → entry (row_by pass d l i b) r ≡ entry b r
  unfolding kept_row transposed_lower_row transposed_upper_row transposed_unit_lower_row
  row_stays Lower hr e = lower_stays (leb-false i r e)
  row_stays Upper hr e = upper_stays (leb-false r i e) hr
  row_stays (GivenDiagonal _) hr e = let h : r ≤ i = ltb-false i r e in entry_axpy_before (i + 1) _ l b r (omega arith)
  row_stays TransposedLower hr e = get_or-set_other b i r _ nan (eqb-false r i e)
  row_stays TransposedUpper hr e = get_or-set_other b i r _ nan (eqb-false r i e)
  row_stays (CorrectedDiagonal _) hr e = lower_stays (leb-false i r e)
  row_stays TransposedUnitLower hr e = get_or-set_other b i r _ nan (eqb-false r i e)

module _ (pass : Pass) (n : ℕ) (cs : Matrix) where
  -- a right-hand column after k turns
  abbrev pub after : ℕ → Column → Column
  after k b = turns_from (turn pass n cs) 0 k b

  -- ---- the first stored result of the right-hand column b: turn k stored it in row r, and what it and the turns before it stored earlier is finite
  pub record FirstStored (b : Column) (k r : ℕ) : Type 0 where
    pub in_time : k < turns_of pass n
    pub turns_before : (q : ℕ) → q ≤ k → all_finite (after q b) ≡ true
    pub long : r < n
    pub is_stored : stores pass (row_at pass n k) r ≡ true
    pub fails : finite (entry (turn pass n cs k (after k b)) r) ≡ false
    pub own_before : (r ≡ row_at pass n k → ⊥) → finite (entry (turn pass n cs k (after k b)) (row_at pass n k)) ≡ true
    pub rows_before : (r ≡ row_at pass n k → ⊥) → (q : ℕ) → q < r → finite (entry (turn pass n cs k (after k b)) q) ≡ true

  length_turn : (k : ℕ) (b : Column) → length (turn pass n cs k b) ≡ length b
  unfolding turn solved_row
  length_turn k b = length_row pass _ _ _ b

  -- what is not finite after a turn on a finite column was stored by it
  turn_stored : (k r : ℕ) (b : Column) → all_finite b ≡ true → r < length b → finite (entry (turn pass n cs k b) r) ≡ false
      → stores pass (row_at pass n k) r ≡ true
  unfolding turn solved_row
  turn_stored k r b ok hr bad =
      let i = row_at pass n k in
      let l = column cs i in
      test_cases (stores pass i r) (λ t. t)
      (λ t. absurd (true≢false (sym (rw (row_stays (divisor pass l i) l i b r pass hr t) (finite_entry b r ok hr)) ∙ bad)))

  module _ (b : Column) (rows : length b ≡ n) where
    first_stored : (k : ℕ) → k < turns_of pass n → all_finite (after k b) ≡ true → all_finite (turn pass n cs k (after k b)) ≡ false
        → FirstStored b k (first_row pass n k (turn pass n cs k (after k b)))
    unfolding first_row
    first_stored k h now then =
        let i = row_at pass n k in
        let was = after k b in
        let c = turn pass n cs k was in
        let same : length was ≡ n = length_turns (turn pass n cs) length_turn 0 k b ∙ rows in
        let long : length c ≡ n = length_turn k was ∙ same in
        let before : (q : ℕ) → q ≤ k → all_finite (after q b) ≡ true = λ q l. passed_then all_finite (turn pass n cs) (turn_finite pass n cs) 0 q k b l now in
        cond_cases (FirstStored b k) (finite (entry c i))
        (λ t.
        let r = first_failing finite c in
        let hr : r < length c = lt_of_not-le
        (λ (g : length c ≤ r). true≢false (sym (entries_finite c (λ q hq. failing_before finite nan c q (omega arith))) ∙ then)) in
        let bad = failing_fails finite nan c hr in
        record {
          in_time = h;
          turns_before = before;
          long = rw long at hr;
          is_stored = turn_stored k r was now (omega arith) bad;
          fails = bad;
          own_before = λ _. t;
          rows_before = λ _. failing_before finite nan c;
        })
        (λ t.
        let hi : i < n = row_below pass n k (omega (arith, turns_most pass n)) in
        record {
          in_time = h;
          turns_before = before;
          long = hi;
          is_stored = turn_stored k i was now (omega arith) t;
          fails = t;
          own_before = λ no. absurd (no refl);
          rows_before = λ no. absurd (no refl);
        })

    -- none, and the solved column is finite; or one, and it is not
    pub column_cases : (j : ℕ) → all_finite b ≡ true → (P : Option Stored → Type 0) → (all_finite (solved_column pass n cs b) ≡ true → P none)
        → ((k r : ℕ) → all_finite (solved_column pass n cs b) ≡ false → FirstStored b k r → P (some (record { pass = pass; column = j; turn = k; row = r })))
        → P (first_in_column pass n cs j b)
    unfolding first_in_column solved_column
    column_cases j ok P all first =
        turn_cases all_finite (turn pass n cs) (turn_finite pass n cs) _ none P (turns_of pass n) b ok all
        (λ k h now then end. first k _ end (first_stored k h now then))

  -- ---- the first stored result p of the right-hand columns bs: those before its column are finite when solved
  pub record FirstInPass (bs : Matrix) (p : Stored) : Type 0 where
    pub by : p.pass ≡ pass
    pub wide : p.column < length bs
    pub columns_before : (j : ℕ) → j < p.column → all_finite (solved_column pass n cs (column bs j)) ≡ true
    pub first : FirstStored (column bs p.column) p.turn p.row

  module _ (bs : Matrix) where
    solved_wide : length (solved_columns pass n cs bs) ≡ length bs
    unfolding solved_from
    solved_wide = length_each _ 0 bs

    solved_at : (j : ℕ) → j < length bs → column (solved_columns pass n cs bs) j ≡ solved_column pass n cs (column bs j)
    unfolding solved_from
    solved_at j h = each_at _ 0 bs j [] (omega arith) h

    spoilt : (j : ℕ) → j < length bs → all_finite (solved_column pass n cs (column bs j)) ≡ false → all_finite (flat (solved_columns pass n cs bs)) ≡ false
    spoilt j hj = lasting _ _ (λ e. rw (solved_at j hj) at (column_finite (solved_columns pass n cs bs) e j))

  -- THEOREM. None, and the solved columns are finite; or one, and they are not.
  pub pass_cases : (bs : Matrix) → HasRows n bs → all_finite (flat bs) ≡ true → (P : Option Stored → Type 0)
      → (all_finite (flat (solved_columns pass n cs bs)) ≡ true → P none)
      → ((p : Stored) → all_finite (flat (solved_columns pass n cs bs)) ≡ false → FirstInPass bs p → P (some p)) → P (first_in_pass pass n cs bs)
  unfolding first_in_pass
  pass_cases bs rows ok P all first =
      some_cases [] P (first_in_column pass n cs) 0 bs
      (λ none_in. all (columns_finite (solved_columns pass n cs bs) λ j h.
      let hj : j < length bs = rw (solved_wide bs) at h in
      rw (solved_at bs j hj) (done j hj (none_in j hj))))
      (λ j s hj before.
      column_cases (column bs j) (rows j hj) (0 + j) (column_finite bs ok j) (λ o. o ≡ some s → P (some s))
      (λ fine e. absurd (let z : ◌≡◌ {A = ℕ} 0 1 = cc in omega arith))
      (λ k r bad x e. subst P e (rw (zero-add j)
      (first _ (spoilt bs j hj bad) (record { by = refl; wide = hj; columns_before = λ i h. done i (omega arith) (before i h); first = x })))))
    where
      done : (j : ℕ) → j < length bs → first_in_column pass n cs (0 + j) (column bs j) ≡ none → all_finite (solved_column pass n cs (column bs j)) ≡ true
      done j hj =
          column_cases (column bs j) (rows j hj) (0 + j) (column_finite bs ok j)
          (λ o. o ≡ none → all_finite (solved_column pass n cs (column bs j)) ≡ true) (λ fine e. fine)
          (λ k r bad x e. absurd (let z : ◌≡◌ {A = ℕ} 0 1 = cc in omega arith))

-- ---- THEOREM. The lowest zero of the diagonal: none, and no column is dead; or that in column i + j, cs standing from column i on.
pub zero_cases : (P : Option ℕ → Type 0) (i : ℕ) (cs : Matrix) → (dead_from i cs ≡ 0 → P none)
    → ((j : ℕ) → j < length cs → 0 < dead_from i cs → is_zero (entry (column cs j) (i + j)) ≡ true
    → ((k : ℕ) → k < j → is_zero (entry (column cs k) (i + k)) ≡ false) → P (some (i + j)))
    → P (lowest_zero i cs)
unfolding lowest_zero dead_from zero_count
zero_cases P i [] all first = all refl
zero_cases P i (c ∷ cs) all first =
    cond_cases P (is_zero (entry c i))
    (λ t. (rw (add-zero i) at (first 0 (omega arith))) (rw t (omega arith)) t (λ k h. absurd (not-suc-le-zero h)))
    (λ t. zero_cases P (suc i) cs (λ e. all (rw t (omega (arith, e))))
    (λ j h e z before. (rw (shift j) at (first (suc j) (omega arith))) (rw t (omega (arith, e))) z (front t j before)))
  where
    shift : (j : ℕ) → i + suc j ≡ suc i + j
    shift j = omega arith

    front : is_zero (entry c i) ≡ false → (j : ℕ) → ((k : ℕ) → k < j → is_zero (entry (column cs k) (suc i + k)) ≡ false) → (k : ℕ) → k < suc j
        → is_zero (entry (column (c ∷ cs) k) (i + k)) ≡ false
    front t j h zero q = rw (add-zero i) t
    front t j h (suc k) q = rw (shift k) (h k (le_of_suc-le-suc q))
