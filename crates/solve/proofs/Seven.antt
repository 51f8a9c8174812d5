-- Refusal 7 of the triangular solves, said of every number that they store (document 01, "Refusal numbers": "A running infinity or NaN never becomes finite
-- again in these steps, so 7 can be read off the final result"). By what lasts from turn to turn, column by column. Assumes nothing.
use mathlib.Core.Path.{◌≡◌, sym, ap, ◌∙◌}
use mathlib.Core.Logic.{◌↔◌}
use mathlib.Core.Bool.{true, false, ◌&&◌, true≢false}
use Prim.Native.Nat.{ℕ, suc, ◌<◌}
use native.Mathlib.Nat.{zero-add}
use borrow.Author.Rules.{rules}
use borrow.Author.Tests.{not-false}
use lib.ListN.{length}
use lib.Ieee.Scale.{finite}
use Rattle.numbers.specs.Column.{Column, entry}
use Rattle.finite.specs.Finite.{all_finite}
use Rattle.numbers.proofs.Choice.{and_first, and_second}
use Rattle.numbers.proofs.Each.{turns_last}
use Rattle.numbers.proofs.Lasting.{lasting}
use Rattle.finite.proofs.Finite.{finite_entry}
use Rattle.store.specs.Columns.{columns}
use Rattle.store.specs.Steps.{Matrix, column}
use Rattle.store.proofs.Columns.{sized, length_columns, columns_rows, flat_columns}
use Rattle.store.proofs.Lasting.{column_finite}
use Rattle.store.proofs.First.{each_spoilt}
use Rattle.refusals.specs.Outcome.{refused, Call}
use Rattle.refusals.proofs.Outcomes.{first_none, seventh_refused}
use Rattle.triangular_passes.specs.declared.Pass.{Pass}
use Rattle.triangular_passes.specs.Triangular.{row_at, turns_of, turn, solved_row, solved_column, solved_from, solved_in_place}
use Rattle.solve.specs.Calls.{given_finite, numbers_finite, refusal_of, solving}
use Rattle.solve.specs.Reason.{stores}
use Rattle.solve.proofs.Accepted.{fit, accepted}
use Rattle.triangular_passes.proofs.Lengths.{length_row, length_turns}
use Rattle.solve.proofs.Alone.{in_place_flat}
use Rattle.solve.proofs.Lasting.{turns_finite}
use Rattle.solve.proofs.Reason.{after, column_cases}

-- ---- one right-hand column b

-- a turn of the pass stored a number in a row that was not finite then
pub record StoredBad (pass : Pass) (n : ℕ) (cs : Matrix) (b : Column) : Type 0 where
  pub turn_of : ℕ
  pub row : ℕ
  pub in_time : turn_of < turns_of pass n
  pub long : row < n
  pub is_stored : stores pass (row_at pass n turn_of) row ≡ true
  pub fails : finite (entry (after pass n cs (suc turn_of) b) row) ≡ false

module _ (pass : Pass) (n : ℕ) (cs : Matrix) (b : Column) (rows : length b ≡ n) where
  length_after : (q : ℕ) → length (after pass n cs q b) ≡ n
  unfolding turn solved_row
  length_after q = length_turns (turn pass n cs) (λ k c. length_row pass _ _ _ c) 0 q b ∙ rows

  -- what was stored lasts
  pub stored_bad : StoredBad pass n cs b → all_finite (solved_column pass n cs b) ≡ false
  stored_bad s =
      let q = suc s.turn_of in
      let c = after pass n cs q b in
      lasting (finite (entry c s.row)) (all_finite (solved_column pass n cs b))
      (λ e. finite_entry c s.row (turns_finite pass n cs q b s.in_time e) (rw (length_after q) s.long)) s.fails

  -- and what is not finite at the end was stored, the column having been finite
  pub bad_stored : all_finite b ≡ true → all_finite (solved_column pass n cs b) ≡ false → StoredBad pass n cs b
  bad_stored ok =
      column_cases pass n cs b rows 0 ok (λ o. all_finite (solved_column pass n cs b) ≡ false → StoredBad pass n cs b)
      (λ fine bad. absurd (true≢false (sym fine ∙ bad)))
      (λ k r e first bad.
      let next = turns_last (turn pass n cs) 0 k b ∙ ap (λ (i : ℕ). turn pass n cs i (after pass n cs k b)) (zero-add k) in
      record {
        turn_of = k;
        row = r;
        in_time = first.in_time;
        long = first.long;
        is_stored = first.is_stored;
        fails = ap (λ (c : Column). finite (entry c r)) next ∙ first.fails;
      })

-- ---- the call
module _ (pass : Pass) (n k : ℕ) (t b x : Column) (none_before : refusal_of pass t n b k x ≡ 0) where
  sides_finite : all_finite b ≡ true
  unfolding refusal_of numbers_finite
  sides_finite =
      let all = not-false (numbers_finite pass t b) (first_none _ (search rules) none_before).1.1.0 in
      and_second (all_finite t) (all_finite b) (and_first (all_finite t && all_finite b) (given_finite pass) all)

  -- THEOREM. A triangular solve that passes its tests is refused with 7 exactly when for some right-hand column it stored, at any turn, a number that was not
  -- finite.
  pub solving_seven : ((solving pass t n b k x).answer ≡ refused 7)
      ↔ ((j : ℕ) × (j < k) × StoredBad pass n (columns n n t) (column (columns n k b) j))
  unfolding solved_from
  solving_seven =
      let cs = columns n n t in
      let bs = columns n k b in
      let p = fit pass n k t b x none_before in
      let size = (sized n k b p.sides).size in
      let is = ap (λ (o : Call (Unit {0}) Column). o.answer) (accepted pass n k t b x none_before) in
      let made = in_place_flat pass n k t b p.matrix p.sides in
      let seven = seventh_refused (solved_in_place pass t n b k) in
      let some = each_spoilt (solved_column pass n cs) bs in
      let wide = length_columns n k b in
      let rows : (j : ℕ) → j < k → length (column bs j) ≡ n = λ j h. columns_rows n k b size j (rw wide h) in
      let fine = column_finite bs (ap all_finite (flat_columns n k b size) ∙ sides_finite) in (
        λ e.
            let s = some.0 (ap all_finite (sym made) ∙ seven.0 (sym is ∙ e)) in
            let h : s.0 < k = rw wide at s.1 in
            (s.0, h, bad_stored pass n cs (column bs s.0) (rows s.0 h) (fine s.0) s.2),
        λ s. is ∙ seven.1 (ap all_finite made ∙ some.1 (s.0, rw wide s.1, stored_bad pass n cs (column bs s.0) (rows s.0 s.1) s.2)),
      )
