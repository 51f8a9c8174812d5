-- A pass over the right-hand columns, one after another: what is left from column j on gives the first result that is not finite, and the solved columns.
-- Assumes nothing.
use mathlib.Core.Path.{◌≡◌, refl, sym, ap, ◌∙◌}
use mathlib.Core.Bool.{Bool}
use mathlib.Core.List.{[]}
use mathlib.Core.Option.{Option, none, some, or_else}
use Prim.Native.Nat.{ℕ, zero, suc, ◌+◌, ◌≤◌, ◌<◌}
use native.Mathlib.Numerals.{add-one}
use native.Mathlib.Omega.{arith}
use lib.ListN.{length, set, drop, drop_of_length-le}
use lib.Seq.{get_or-drop, drop-drop, drop-set-lt}
use Rattle.numbers.specs.Each.{each_from}
use Rattle.numbers.specs.First.{first_turn, first_some}
use Rattle.numbers.specs.Column.{Column}
use Rattle.numbers.proofs.Choice.{test_cases}
use Rattle.numbers.proofs.Each.{each_stop, each_step}
use Rattle.numbers.proofs.Walk.{drop_next}
use Rattle.store.specs.Steps.{Matrix, column}
use Rattle.triangular_passes.specs.declared.Pass.{Pass}
use Rattle.triangular_passes.specs.Triangular.{turns_of, turn, solved_column, solved_from}
use Rattle.solve.specs.Reason.{Stored, first_in_column, first_in_pass}
use Rattle.why.specs.Inner.{stored_at}

-- ---- the first turn, under another name of what it tells
first_map : {S R T : Type 0} (g : R → T) (test : S → Bool) (told : ℕ → S → R) (else : R) (f : ℕ → S → S) (i c : ℕ) (s : S)
    → first_turn test (λ k t. g (told k t)) (g else) f i c s ≡ g (first_turn test told else f i c s)
unfolding first_turn
first_map g test told else f i zero s = refl
first_map g test told else f i (suc c) s = test_cases (test (f i s)) (λ t. rw t (first_map g test told else f (i + 1) c (f i s))) (λ t. rw t)

abbrev relabelled : ℕ → Option Stored → Option Stored
relabelled j none = none
relabelled j (some p) = some (stored_at p.pass j p.turn p.row)

labelled : (pass : Pass) (n : ℕ) (cs : Matrix) (j : ℕ) (b : Column) → first_in_column pass n cs j b ≡ relabelled j (first_in_column pass n cs 0 b)
unfolding first_in_column
labelled pass n cs j b = first_map (relabelled j) _ _ none (turn pass n cs) 0 (turns_of pass n) b

-- ---- the loop: j columns are done; bs are the columns before, and now
module _ (pass : Pass) (n k : ℕ) (cs bs : Matrix) where
  pub record Passing (x : Matrix) (j : ℕ) : Type 0 where
    pub within : j ≤ k
    pub ahead : drop j x ≡ drop j bs
    pub left : first_some (first_in_column pass n cs) j (drop j bs) ≡ first_in_pass pass n cs bs
    pub rest : solved_from pass n cs j x ≡ solved_from pass n cs 0 bs

  pub passing_begin : Passing bs 0
  unfolding first_in_pass
  passing_begin = record { within = omega arith; ahead = refl; left = refl; rest = refl }

  module _ (x : Matrix) (j : ℕ) (now : Passing x j) (wide : length bs ≡ k) (wide' : length x ≡ k) where
    pub passing_end : k ≤ j → (first_in_pass pass n cs bs ≡ none) × (x ≡ solved_from pass n cs 0 bs)
    unfolding first_some solved_from
    passing_end h =
        let past : length bs ≤ j = omega arith in (
          sym now.left ∙ ap (first_some (first_in_column pass n cs) j) (drop_of_length-le bs past),
          sym (each_stop (λ _ b. solved_column pass n cs b) j x (omega arith)) ∙ now.rest,
        )

    -- column j of both
    pub same_column : column x j ≡ column bs j
    same_column =
        let here : j + 0 ≡ j = omega arith in
        ap (column x) (sym here) ∙ sym (get_or-drop j x 0 []) ∙ ap (λ (l : Matrix). column l 0) now.ahead ∙ get_or-drop j bs 0 [] ∙ ap (column bs) here

    module _ (h : j < k) where
      -- what is told of this column, or of those behind it
      next : or_else (first_in_column pass n cs j (column bs j)) (first_some (first_in_column pass n cs) (j + 1) (drop (j + 1) bs)) ≡ first_in_pass pass n cs bs
      unfolding first_some
      next =
          ap (λ (i : ℕ). or_else (first_in_column pass n cs j (column bs j)) (first_some (first_in_column pass n cs) i (drop (j + 1) bs))) (add-one j)
          ∙ sym (ap (first_some (first_in_column pass n cs) j) (drop_next bs j [] (omega arith)))
          ∙ now.left

      pub passing_on : (c : Column) → first_in_column pass n cs 0 (column bs j) ≡ none → c ≡ solved_column pass n cs (column x j) → Passing (set x j c) (j + 1)
      unfolding solved_from or_else
      passing_on c fine made =
          let none_here : first_in_column pass n cs j (column bs j) ≡ none = labelled pass n cs j (column bs j) ∙ ap (relabelled j) fine in
          record {
            within = omega arith;
            ahead = dropped;
            left = rw none_here at next;
            rest = ap (λ (d : Column). each_from (λ _ b. solved_column pass n cs b) (j + 1) (set x j d)) made ∙ each_step _ j x [] (omega arith) ∙ now.rest;
          }
        where
          dropped : drop (j + 1) (set x j c) ≡ drop (j + 1) bs
          dropped = drop-set-lt (j + 1) x j c (omega arith) ∙ sym (drop-drop 1 j x) ∙ ap (drop 1) now.ahead ∙ drop-drop 1 j bs

      pub passing_found : (k row : ℕ) → first_in_column pass n cs 0 (column bs j) ≡ some (stored_at pass 0 k row)
          → first_in_pass pass n cs bs ≡ some (stored_at pass j k row)
      unfolding or_else
      passing_found k row found =
          let here : first_in_column pass n cs j (column bs j) ≡ some (stored_at pass j k row) = labelled pass n cs j (column bs j) ∙ ap (relabelled j) found in
          sym (rw here at next)
