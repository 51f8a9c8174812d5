-- The walk along a diagonal for its lowest zero: what is left to look at from column j on. Assumes nothing.
use mathlib.Core.Path.{◌≡◌, sym, ap, ◌∙◌}
use mathlib.Core.Bool.{Bool, true, false, cond}
use mathlib.Core.List.{[]}
use mathlib.Core.Option.{none, some}
use Prim.Native.Nat.{ℕ, ◌+◌, ◌*◌, ◌≤◌, ◌<◌}
use native.Mathlib.Numerals.{add-one}
use lib.ListN.{length, drop, drop_of_length-le}
use lib.Ieee.{nan}
use Rattle.numbers.specs.Numbers.{is_zero}
use Rattle.numbers.specs.Column.{Column, entry}
use Rattle.numbers.proofs.Walk.{drop_next}
use Rattle.store.specs.Columns.{columns}
use Rattle.store.proofs.Columns.{entry_at, length_columns}
use Rattle.solve.specs.Reason.{lowest_zero}

module _ (n j : ℕ) (t : Column) where
  -- column j is looked at, and the rest is from column j + 1 on
  turn : (z : Bool) → j < n → is_zero (entry t (j * n + j)) ≡ z
      → lowest_zero j (drop j (columns n n t)) ≡ cond z (some j) (lowest_zero (j + 1) (drop (j + 1) (columns n n t)))
  unfolding lowest_zero
  turn z h e =
      let cs = columns n n t in
      let len : j < length cs = rw length_columns h in
      ap (lowest_zero j) (drop_next cs j [] len)
      ∙ (λ d. cond ((ap is_zero (sym (entry_at n n j j t nan h h)) ∙ e) d) (some j) (lowest_zero (sym (add-one j) d) (drop (j + 1) cs)))

  pub lowest_here : j < n → is_zero (entry t (j * n + j)) ≡ true → lowest_zero j (drop j (columns n n t)) ≡ some j
  lowest_here h e = turn true h e

  pub lowest_next : j < n → is_zero (entry t (j * n + j)) ≡ false
      → lowest_zero j (drop j (columns n n t)) ≡ lowest_zero (j + 1) (drop (j + 1) (columns n n t))
  lowest_next h e = turn false h e

  pub lowest_end : n ≤ j → lowest_zero j (drop j (columns n n t)) ≡ none
  unfolding lowest_zero
  lowest_end h =
      let past : length (columns n n t) ≤ j = rw length_columns h in
      ap (lowest_zero j) (drop_of_length-le (columns n n t) past)
