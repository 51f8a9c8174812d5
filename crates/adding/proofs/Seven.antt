-- Refusal 7 of adding, said of every state of the new column (document 01, "Refusal numbers": "A running infinity or NaN never becomes finite again in these
-- steps, so 7 can be read off the final result"). By what lasts from update to update. Assumes nothing.
use mathlib.Core.Path.{◌≡◌, sym, ap, ◌∙◌}
use mathlib.Core.Logic.{◌↔◌, ◌⊎◌, inr, ⊎_elim}
use mathlib.Core.Bool.{true, false}
use mathlib.Core.List.{List}
use Prim.Native.Nat.{ℕ, ◌≤◌, min}
use native.Mathlib.Omega.{arith}
use Rattle.numbers.specs.Each.{turns_from}
use Rattle.numbers.specs.Column.{Column}
use Rattle.finite.specs.Finite.{all_finite}
use Rattle.numbers.proofs.Choice.{test_cases}
use Rattle.numbers.proofs.First.{passed_then}
use Rattle.numbers.proofs.Lasting.{lasting}
use Rattle.store.specs.Steps.{column}
use Rattle.store.proofs.Columns.{length_columns}
use Rattle.refusals.specs.Outcome.{refused, leaving}
use Rattle.refusals.proofs.Outcomes.{tested_none}
use Rattle.exchanges.specs.Permute.{permute}
use Rattle.factors.specs.declared.Record.{Record}
use Rattle.factors.specs.Factors.{Factors, slices, Factoring}
use Rattle.elimination.specs.Adding.{update, reduced, add_column}
use Rattle.elimination.proofs.Lasting.{update_finite, added_finite}
use Rattle.adding.specs.Adding.{adding_refusal, older_factors, adding_settled, adding}

-- refused with 7 exactly where the column that was made is not finite
settled_seven : (r : Record) (s : Column) (store : List ℕ) (g : Factors)
    → ((adding_settled s store r g).answer ≡ refused 7) ↔ (all_finite (column g.columns r.columns) ≡ false)
unfolding adding_settled
settled_seven r s store g =
    let fine = all_finite (column g.columns r.columns) in (
      test_cases {Q = (adding_settled s store r g).answer ≡ refused 7 → fine ≡ false} fine
          (λ t e. absurd (let z : ◌≡◌ {A = ℕ} 0 1 = cc (rw t at e) in omega arith)) (λ t e. t),
      λ t. rw t,
    )

-- the new column, permuted, after q updates by the older columns
abbrev pub updated : Factors → Column → ℕ → Column
updated f c q = turns_from (update f.columns) 0 q (permute f.swaps c)

-- THEOREM. Adding that passes its tests is refused with 7 exactly when the new column was not finite after some number of updates, or is not when it has its
-- multipliers. (1 / infinity is 0, so an infinite pivot leaves finite multipliers below it; but it stays in the column itself.)
pub adding_seven : (r : Record) (s c : Column) (store : List ℕ) → adding_refusal s c store r ≡ 0
    → let m = r.rows in
    let n = r.columns in
    let f = older_factors s store r in
    ((adding s c store r).answer ≡ refused 7)
    ↔ (((q : ℕ) × (q ≤ min m n) × (all_finite (updated f c q) ≡ false)) ⊎ (all_finite (column (add_column m f c).columns n) ≡ false))
unfolding adding reduced
adding_seven r s c store none_before =
    let m = r.rows in
    let n = r.columns in
    let f = older_factors s store r in
    let g = add_column m f c in
    let last = column g.columns n in
    let is = ap (λ (o : Factoring). o.answer) (tested_none (adding_refusal s c store r) (leaving (slices s store)) (adding_settled s store r g) none_before) in
    let seven = settled_seven r s store g in
    let whole : all_finite last ≡ true → all_finite (updated f c (min m n)) ≡ true = rw (length_columns m n s) at (added_finite m f c) in
    let before : (q : ℕ) → q ≤ min m n → all_finite last ≡ true → all_finite (updated f c q) ≡ true = λ q h e.
    passed_then all_finite (update f.columns) (update_finite f.columns) 0 q (min m n) (permute f.swaps c) h (whole e) in (
      λ e. inr (seven.0 (sym is ∙ e)),
      λ x. is ∙ seven.1 (⊎_elim (λ s. lasting (all_finite (updated f c s.0)) (all_finite last) (before s.0 s.1) s.2) (λ bad. bad) x),
    )
