-- "An accepted solution column depends on the factors, the swaps and its own right-hand column alone. Whether the call is refused with 7
-- depends on all of them." Each column of an accepted result is the solved right-hand column, since the columns that are solved stay as they
-- are while later ones are worked on; refusal 7 looks at all of them. Assumes nothing.
use mathlib.Core.Path.{◌≡◌, sym, ap, ◌∙◌}
use mathlib.Core.Bool.{true, cond}
use mathlib.Core.List.{[]}
use Prim.Native.Nat.{ℕ, ◌*◌, ◌<◌}
use native.Mathlib.Omega.{arith}
use lib.ListN.{length}
use Rattle.numbers.specs.Column.{Column}
use Rattle.finite.specs.Finite.{all_finite}
use Rattle.numbers.proofs.Each.{length_each, each_at, each_before}
use Rattle.store.specs.Columns.{columns, flat, is_matrix}
use Rattle.store.specs.Steps.{Matrix, column}
use Rattle.store.proofs.Columns.{length_columns, columns_rows, length_flat, on_flat, on_columns_lem, sized}
use Rattle.refusals.specs.Outcome.{number_of, Call}
use Rattle.triangular_passes.specs.declared.Pass.{Pass}
use Rattle.triangular_passes.specs.Triangular.{solved_column, solved_from, solved_columns, solved_in_place}
use Rattle.solve.specs.Calls.{refusal_of, solving}
use Rattle.refusals.proofs.Outcomes.{none_given, seventh_number, seventh_stands}
use Rattle.solve.proofs.Accepted.{fit, accepted}
use Rattle.triangular_passes.proofs.Lengths.{solved_rows}

-- while the columns from column j on are solved, those before it stay as they were
pub solved_stay : (pass : Pass) (n : ℕ) (cs : Matrix) (j : ℕ) (bs : Matrix) (i : ℕ) → i < j → column (solved_from pass n cs j bs) i ≡ column bs i
unfolding solved_from
solved_stay pass n cs j bs i h = each_before _ j bs i [] h

pub solved_at : (pass : Pass) (n : ℕ) (cs bs : Matrix) (j : ℕ) → j < length bs → column (solved_columns pass n cs bs) j ≡ solved_column pass n cs (column bs j)
unfolding solved_from
solved_at pass n cs bs j h = each_at _ 0 bs j [] (omega arith) h

-- a pass on slices that hold matrices: the result, and its columns
module _ (pass : Pass) (n k : ℕ) (t b : Column) (matrix : is_matrix t n n ≡ true) (sides : is_matrix b n k ≡ true) where
  pub in_place_flat : solved_in_place pass t n b k ≡ flat (solved_columns pass n (columns n n t) (columns n k b))
  unfolding solved_in_place
  in_place_flat = rw matrix (on_flat n k _ b sides)

  pub in_place_columns : columns n k (solved_in_place pass t n b k) ≡ solved_columns pass n (columns n n t) (columns n k b)
  unfolding solved_in_place solved_from
  in_place_columns =
      rw matrix
      (on_columns_lem n k (solved_columns pass n (columns n n t)) b sides (length_each _ 0 (columns n k b) ∙ length_columns n k b)
      (solved_rows pass n n (columns n n t) 0 (columns n k b) (columns_rows n k b (sized n k b sides).size)))

  pub in_place_long : length (solved_in_place pass t n b k) ≡ length b
  unfolding solved_from
  in_place_long =
      let size = (sized n k b sides).size in
      ap length in_place_flat
      ∙ length_flat n (solved_columns pass n (columns n n t) (columns n k b)) (solved_rows pass n n (columns n n t) 0 (columns n k b) (columns_rows n k b size))
      ∙ ap (λ (c : ℕ). c * n) (length_each _ 0 (columns n k b) ∙ length_columns n k b)
      ∙ sym size

module _ (pass : Pass) (n k : ℕ) (t b x : Column) where
  -- an accepted call: no test held, and the result is what the pass made
  none : number_of (solving pass t n b k x).answer ≡ 0 → refusal_of pass t n b k x ≡ 0
  unfolding solving
  none e = none_given (refusal_of pass t n b k x) x _ e

  pub accepted_columns : number_of (solving pass t n b k x).answer ≡ 0
      → columns n k (solving pass t n b k x).left ≡ solved_columns pass n (columns n n t) (columns n k b)
  accepted_columns e =
      let p = fit pass n k t b x (none e) in
      let o = accepted pass n k t b x (none e) in
      let made = solved_in_place pass t n b k in
      ap (λ (r : Call (Unit {0}) Column). columns n k r.left) o
      ∙ ap (columns n k) (seventh_stands made (sym (ap (λ (r : Call (Unit {0}) Column). number_of r.answer) o) ∙ e))
      ∙ in_place_columns pass n k t b p.matrix p.sides

  -- an accepted solution column is its own right-hand column, solved
  pub accepted_column : (j : ℕ) → j < k → number_of (solving pass t n b k x).answer ≡ 0
      → column (columns n k (solving pass t n b k x).left) j ≡ solved_column pass n (columns n n t) (column (columns n k b) j)
  accepted_column j h e =
      ap (λ (cs : Matrix). column cs j) (accepted_columns e) ∙ solved_at pass n (columns n n t) (columns n k b) j (rw length_columns h)

  -- a call that its tests let pass is refused with 7 exactly where some number of some solved column is not finite
  pub seven_by_all : refusal_of pass t n b k x ≡ 0
      → number_of (solving pass t n b k x).answer ≡ cond (all_finite (flat (solved_columns pass n (columns n n t) (columns n k b)))) 0 7
  seven_by_all e =
      let p = fit pass n k t b x e in
      ap (λ (r : Call (Unit {0}) Column). number_of r.answer) (accepted pass n k t b x e)
      ∙ seventh_number (solved_in_place pass t n b k)
      ∙ ap (λ (c : Column). cond (all_finite c) 0 7) (in_place_flat pass n k t b p.matrix p.sides)

-- Two accepted calls by one matrix: equal right-hand columns, wherever they stand and whatever stands beside them, have equal solution columns.
pub column_alone : (pass : Pass) (n k l : ℕ) (t b d x y : Column) (i j : ℕ) → i < k → j < l
    → number_of (solving pass t n b k x).answer ≡ 0 → number_of (solving pass t n d l y).answer ≡ 0
    → column (columns n k b) i ≡ column (columns n l d) j
    → column (columns n k (solving pass t n b k x).left) i ≡ column (columns n l (solving pass t n d l y).left) j
column_alone pass n k l t b d x y i j hi hj e f same =
    accepted_column pass n k t b x i hi e ∙ ap (solved_column pass n (columns n n t)) same ∙ sym (accepted_column pass n l t d y j hj f)
