-- A pass on one right-hand column, turn by turn: what is left from turn k on gives the first result that is not finite, and the solved column. Assumes nothing.
use mathlib.Core.Path.{◌≡◌, sym, ap, ◌∙◌}
use mathlib.Core.Bool.{true, false, cond, true≢false}
use mathlib.Core.Option.{Option, none, some}
use Prim.Native.Nat.{ℕ, suc, ◌+◌, ◌-◌, ◌≤◌, ◌<◌}
use native.Mathlib.Omega.{arith}
use borrow.Author.Tests.{eq-eqb, lt-ltb}
use lib.ListN.{length}
use lib.Ieee.Scale.{finite}
use Rattle.numbers.specs.Each.{turns_from}
use Rattle.numbers.specs.First.{first_failing, first_turn}
use Rattle.numbers.specs.Column.{Column, entry}
use Rattle.numbers.proofs.Choice.{test_cases}
use Rattle.numbers.proofs.Each.{turns_begin, turns_next, turns_done}
use Rattle.finite.specs.Finite.{all_finite}
use Rattle.finite.proofs.Finite.{finite_entry}
use Rattle.store.specs.Columns.{columns, is_matrix}
use Rattle.store.specs.Steps.{Matrix}
use Rattle.triangular_passes.specs.declared.Pass.{Pass}
use Rattle.triangular_passes.specs.Triangular.{row_at, turns_of, turn, turned_by, solved_column}
use Rattle.solve.specs.Reason.{Stored, first_row, first_in_column}
use Rattle.why.specs.Inner.{stored_at}
use Rattle.why.proofs.Results.{failing_all, failing_some}

-- the row that a turn's search gave, and whether the column is finite
module _ (pass : Pass) (n k row : ℕ) (c : Column) (long : length c ≡ n) (within : row_at pass n k < n) (is : row ≡ first_row pass n k c) where
  abbrev own : ℕ
  own = row_at pass n k

  pub row_fine : n ≤ row → all_finite c ≡ true
  unfolding first_row
  row_fine h =
      test_cases (finite (entry c own))
      (λ t. let e : row ≡ first_failing finite c = is ∙ (rw t) in failing_all c (omega arith))
      (λ t. let e : row ≡ own = is ∙ (rw t) in absurd (let n : ⊥ = omega arith in n))

  pub row_spoilt : row < n → all_finite c ≡ false
  unfolding first_row
  row_spoilt h =
      test_cases (finite (entry c own))
      (λ t. let e : row ≡ first_failing finite c = is ∙ (rw t) in failing_some c (omega arith))
      (λ t. test_cases (all_finite c) (λ f. absurd (true≢false (sym (finite_entry c own f (omega arith)) ∙ t))) (λ f. f))

module _ (pass : Pass) (n : ℕ) (cs : Matrix) (b₀ : Column) where
  abbrev told : ℕ → Column → Option Stored
  told k c = some (record { pass = pass; column = 0; turn = k; row = first_row pass n k c })

  -- k turns were taken
  pub record Turning (b : Column) (k : ℕ) : Type 0 where
    pub long : length b ≡ n
    pub left : first_turn all_finite told none (turn pass n cs) k (turns_of pass n - k) b ≡ first_in_column pass n cs 0 b₀
    pub rest : turns_from (turn pass n cs) k (turns_of pass n - k) b ≡ solved_column pass n cs b₀

  pub turning_begin : length b₀ ≡ n → Turning b₀ 0
  unfolding first_in_column solved_column
  turning_begin long =
      let all : turns_of pass n - 0 ≡ turns_of pass n = omega arith in
      record {
        long = long;
        left = ap (λ (k : ℕ). first_turn all_finite told none (turn pass n cs) 0 k b₀) all;
        rest = turns_begin _ _ _;
      }

  module _ (b : Column) (k : ℕ) (now : Turning b k) where
    pub turning_end : turns_of pass n ≤ k → (first_in_column pass n cs 0 b₀ ≡ none) × (b ≡ solved_column pass n cs b₀)
    unfolding first_turn
    turning_end h =
        let none_left : turns_of pass n - k ≡ 0 = omega arith in
        let first : none ≡ first_in_column pass n cs 0 b₀ =
        sym (ap (λ (i : ℕ). first_turn all_finite told none (turn pass n cs) k i b) none_left) ∙ now.left in
        (sym first, sym (turns_done _ _ _ _ h) ∙ now.rest)

    module _ (h : k < turns_of pass n) (c : Column) (kept : length c ≡ length b) (made : c ≡ turn pass n cs k b) where
      one_less : turns_of pass n - k ≡ suc (turns_of pass n - (k + 1))
      one_less = omega arith

      -- what is told of this turn, or of the ones behind it
      next : cond (all_finite c) (first_turn all_finite told none (turn pass n cs) (k + 1) (turns_of pass n - (k + 1)) c) (told k c)
          ≡ first_in_column pass n cs 0 b₀
      unfolding first_turn
      next =
          ap (λ (d : Column). cond (all_finite d) (first_turn all_finite told none (turn pass n cs) (k + 1) (turns_of pass n - (k + 1)) d) (told k d)) made
          ∙ sym (ap (λ (i : ℕ). first_turn all_finite told none (turn pass n cs) k i b) one_less)
          ∙ now.left

      pub turning_on : all_finite c ≡ true → Turning c (k + 1)
      turning_on t =
          record {
            long = kept ∙ now.long;
            left = rw t at next;
            rest = turns_next (turn pass n cs) _ _ _ _ h made ∙ now.rest;
          }

      pub turning_found : (row : ℕ) → all_finite c ≡ false → row ≡ first_row pass n k c → first_in_column pass n cs 0 b₀ ≡ some (stored_at pass 0 k row)
      turning_found row t is = sym (rw t at next) ∙ ap (λ (r : ℕ). some (stored_at pass 0 k r)) (sym is)

-- a turn that can be taken
pub turn_taken : (pass : Pass) (n k : ℕ) (t b c : Column) → is_matrix t n n ≡ true → length b ≡ n → k < turns_of pass n → c ≡ turned_by pass t n b k
    → c ≡ turn pass n (columns n n t) k b
unfolding turned_by
turn_taken pass n k t b c fits long h made = made ∙ (rw (fits, eq-eqb (length b) n long, lt-ltb k (turns_of pass n) h))
