-- What a call's tests say: with no refusal, the three slices are matrices of the call's sizes and the work is done on a copy of the
-- right-hand sides; with one, the result's slice stays. By the tests in turn. Assumes nothing.
use mathlib.Core.Path.{◌≡◌, sym, ap, ◌∙◌}
use mathlib.Core.Bool.{true, ◌&&◌}
use Prim.Native.Nat.{ℕ}
use borrow.Author.Rules.{rules}
use borrow.Author.Tests.{not-false}
use lib.ListN.{length}
use Rattle.numbers.specs.Column.{Column}
use Rattle.blas.specs.Blas.{copied}
use Rattle.numbers.proofs.Choice.{and_first, and_second}
use Rattle.blas.proofs.Rows.{copied_whole}
use Rattle.store.specs.Columns.{is_matrix}
use Rattle.store.proofs.Columns.{sized}
use Rattle.std.proofs.Common.{Result}
use Rattle.std.specs.Result.{IsErrAnd}
use Rattle.refusals.specs.declared.Refusal.{Refusal}
use Rattle.refusals.specs.Outcome.{outcome, number, leaving}
use Rattle.refusals.specs.Refusals.{seventh}
use Rattle.refusals.proofs.Outcomes.{first_none, tested_none, Promise, promise_refused}
use Rattle.triangular_passes.specs.declared.Pass.{Pass}
use Rattle.triangular_passes.specs.Triangular.{solved_in_place}
use Rattle.solve.specs.Calls.{lengths_fit, refusal_of, solving}

module _ (pass : Pass) (n k : ℕ) (t b x : Column) where
  -- the slices hold matrices of the call's sizes
  pub record Fit : Type 0 where
    pub matrix : is_matrix t n n ≡ true
    pub sides : is_matrix b n k ≡ true
    pub room : is_matrix x n k ≡ true

  pub fit : refusal_of pass t n b k x ≡ 0 → Fit
  unfolding refusal_of lengths_fit
  fit e =
      let all = not-false (lengths_fit t n b k x) (first_none _ (search rules) e).1.0 in
      let two = and_first (is_matrix t n n && is_matrix b n k) (is_matrix x n k) all in
      record {
        matrix = and_first (is_matrix t n n) (is_matrix b n k) two;
        sides = and_second (is_matrix t n n) (is_matrix b n k) two;
        room = and_second (is_matrix t n n && is_matrix b n k) (is_matrix x n k) all;
      }

  -- a call that its tests refuse
  pub refused_by : (r : Refusal) (answer : Result (Unit {0}) Refusal) → number r ≡ refusal_of pass t n b k x → IsErrAnd answer (λ e. e ≡ r)
      → Promise (solving pass t n b k x) answer x
  unfolding solving
  refused_by = promise_refused (refusal_of pass t n b k x) x _

  -- and one that they do not
  pub accepted : refusal_of pass t n b k x ≡ 0 → solving pass t n b k x ≡ seventh (solved_in_place pass t n b k)
  unfolding solving
  accepted e = tested_none (refusal_of pass t n b k x) (leaving x) _ e

  -- the right-hand sides were copied to the result's slice, solved there and settled
  pub worked : (c s y : Column) (r : Result (Unit {0}) Refusal) → 0 ≡ refusal_of pass t n b k x → c ≡ copied b x → s ≡ solved_in_place pass t n c k
      → outcome r ≡ (seventh s).answer → y ≡ (seventh s).left → Promise (solving pass t n b k x) r y
  worked c s y r none copy made answer left =
      let p = fit (sym none) in
      let fits : length b ≡ length x = (sized n k b p.sides).size ∙ sym (sized n k x p.room).size in
      let is : s ≡ solved_in_place pass t n b k = made ∙ ap (λ (c : Column). solved_in_place pass t n c k) (copy ∙ copied_whole b x fits) in
      rw (accepted (sym none), ← is) (answer, left)
