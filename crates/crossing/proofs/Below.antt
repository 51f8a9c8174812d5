-- What the calls of the layers below ensure, in the words of a crossing's outcomes: factoring in place, and the solve. By the cases of their outcomes.
-- Assumes nothing.
use mathlib.Core.Path.{◌≡◌, refl, sym, ap, ◌∙◌}
use mathlib.Core.Bool.{Bool, true, false}
use mathlib.Core.List.{List, [], ◌∷◌}
use Prim.Native.Nat.{ℕ, ◌*◌, ◌≤◌}
use native.Mathlib.Omega.{arith}
use borrow.Author.Tests.{eqb-false, ne_eqb}
use lib.Dec.{eqb}
use lib.ListN.{length, replicate, length-replicate}
use Rattle.numbers.specs.Numbers.{zero64}
use Rattle.numbers.specs.Column.{Column, zeros}
use Rattle.finite.specs.Finite.{all_finite}
use Rattle.numbers.proofs.Choice.{cond_cases, test_cases}
use Rattle.store.specs.Columns.{columns, flat}
use Rattle.store.proofs.Columns.{is_matrix_lem, same_matrix}
use Rattle.refusals.specs.Outcome.{Outcome, done, refused, first_holding, tested, and_then, Call, leaving}
use Rattle.refusals.specs.Refusals.{seventh}
use Rattle.std.proofs.Common.{Result}
use Rattle.refusals.specs.declared.Refusal.{Refusal}
use Rattle.factors.specs.declared.Record.{Record}
use Rattle.lu.specs.declared.Factored.{Factored}
use Rattle.factors.specs.declared.Asks.{Asks}
use Rattle.factors.specs.Factors.{Factors as Eliminated, numbers_of, store_of, slices, Factoring}
use Rattle.factors.specs.Held.{held_refusal}
use Rattle.elimination.specs.Elimination.{eliminate}
use Rattle.lu.specs.Factoring.{settled, factoring, factored, with_toss_ups, factoring_answer}
use Rattle.lu.proofs.Told.{passes, worked}
use Rattle.from_factors.specs.Solving.{Way, solved, tr_solved, solve_asks, solved_by, solving_by, solving, tr_solving}
use Rattle.refusals.proofs.Cases.{done_same, refused_same, never_both}
use Rattle.crossing.specs.Below.{Packed, factors_of, toss_ups_of, system_of, solution_by}
use Rattle.crossing.specs.Factors.{settled_in, swaps_left}

empty_store : length {A = ℕ} (replicate 128 0) ≡ 128
empty_store = length-replicate {A = ℕ} 128 0

-- ---- factoring a good matrix where it lies: done, or refused with 7

module _ (n : ℕ) (a : Column) where
  pub record Good : Type 0 where
    pub least : 1 ≤ n
    pub most : n ≤ 64
    pub size : length a ≡ n * n
    pub finite : all_finite a ≡ true

  module _ (good : Good) where
    is_settled : (s : List ℕ) → length s ≡ 128 → factoring a n n a s ≡ settled n n (eliminate n (columns n n a))
    is_settled s l =
        let fits = is_matrix_lem n n a good.most good.most good.size in
        worked n n a a s
        (passes n n a a s
        (record {
          rows = record { at_least = good.least; at_most = good.most };
          cols = record { at_least = omega arith; at_most = good.most };
          matrix = fits;
          slice = fits;
          room = l;
          numbers = good.finite;
        }))

    -- the two ends, of the outcome and of the call together
    factored_cases : (P : Outcome Packed → Factoring → Type 0)
        → ((p : Packed) → p.told.rows ≡ n → P (done p) (record { answer = done p.told; left = slices p.factors p.swaps }))
        → P (refused 7) (leaving (slices (zeros (n * n)) (replicate 128 0)) 7)
        → (s : List ℕ) → length s ≡ 128 → P (factors_of a n) (factoring a n n a s)
    unfolding factors_of settled store_of numbers_of
    factored_cases P accepts refuses s l =
        rw (is_settled s l, is_settled (replicate 128 0) empty_store)
        (test_cases (all_finite (flat made.columns)) (λ t. rw t (accepts _ refl)) (λ t. rw t refuses))
      where
        made : Eliminated
        made = eliminate n (columns n n a)

    factored_told : (s : List ℕ) → length s ≡ 128 → factoring_answer a n n a s ≡ and_then (factors_of a n) (λ p. done (p.told, toss_ups_of a n))
    unfolding factoring_answer with_toss_ups
    factored_told s l =
        factored_cases (λ o f. with_toss_ups (toss_ups_of a n) f.answer ≡ and_then o (λ p. done (p.told, toss_ups_of a n))) (λ p _. refl) refl s l

    factored_matrix : (s : List ℕ) → length s ≡ 128 → (factoring a n n a s).left.factors ≡ settled_in (and_then (factors_of a n) (λ p. done p.factors)) a
    unfolding settled_in
    factored_matrix s l =
        factored_cases (λ o f. f.left.factors ≡ settled_in (and_then o (λ p. done p.factors)) a) (λ p _. refl) (ap zeros (sym good.size)) s l

    factored_swaps : (s : List ℕ) → length s ≡ 128 → (factoring a n n a s).left.store ≡ swaps_left (factors_of a n) s
    unfolding swaps_left
    factored_swaps s l = factored_cases (λ o f. f.left.store ≡ swaps_left o s) (λ p _. refl) refl s l

    -- what the call ensures
    pub factored_call : (s : List ℕ) → length s ≡ 128 → (made : Result Factored Refusal) (a₁ : Column) (s₁ : List ℕ)
        → (factored made ≡ factoring_answer a n n a s) × ((a₁ ≡ (factoring a n n a s).left.factors) × (s₁ ≡ (factoring a n n a s).left.store))
        → (factored made ≡ and_then (factors_of a n) (λ p. done (p.told, toss_ups_of a n)))
        × ((a₁ ≡ settled_in (and_then (factors_of a n) (λ p. done p.factors)) a) × (s₁ ≡ swaps_left (factors_of a n) s))
    factored_call s l made a₁ s₁ e = (e.0 ∙ factored_told s l, (e.1.0 ∙ factored_matrix s l, e.1.1 ∙ factored_swaps s l))

    pub factored_rows : (p : Packed) → factors_of a n ≡ done p → p.told.rows ≡ n
    factored_rows p =
        factored_cases (λ o f. o ≡ done p → p.told.rows ≡ n) (λ q r e. ap (λ (x : Packed). x.told.rows) (sym (done_same q p e)) ∙ r)
        (λ e. never_both p 7 (sym e)) (replicate 128 0) empty_store

    pub factored_seven : (k : ℕ) → factors_of a n ≡ refused k → k ≡ 7
    factored_seven k =
        factored_cases (λ o f. o ≡ refused k → k ≡ 7) (λ q r e. never_both q k e) (λ e. sym (refused_same 7 k e)) (replicate 128 0) empty_store

    -- what it leaves goes by the length of what was there
    pub factored_settled : (x y : Column) → length x ≡ length y
        → settled_in (and_then (factors_of a n) (λ p. done p.factors)) x ≡ settled_in (and_then (factors_of a n) (λ p. done p.factors)) y
    unfolding settled_in
    factored_settled x y e =
        factored_cases (λ o f. settled_in (and_then o (λ p. done p.factors)) x ≡ settled_in (and_then o (λ p. done p.factors)) y) (λ p _. refl)
        (ap zeros e) (replicate 128 0) empty_store

-- ---- the solve: done with finite numbers, refused before the work, or refused with 7

abbrev Early : ℕ → Type 0
Early k = (k ≡ 7 → ⊥) × (k ≤ 9)

early_first : (k : ℕ) (t : Bool) (ts : List (ℕ × Bool)) → Early k → Early (first_holding ts) → Early (first_holding ((k, t) ∷ ts))
unfolding first_holding
early_first k t ts h l = cond_cases Early t (λ e. h) (λ e. l)

early_none : Early (first_holding [])
unfolding first_holding
early_none = ((λ z. omega (arith, z)), omega arith)

held_early : (f : Column) (s : List ℕ) (r : Record) (asks : Asks) → Early (held_refusal f s r asks)
unfolding held_refusal
held_early f s r asks =
    early_first 1 _ _ ((λ z. omega (arith, z)), omega arith)
    (early_first 2 _ _ ((λ z. omega (arith, z)), omega arith)
    (early_first 3 _ _ ((λ z. omega (arith, z)), omega arith)
    (early_first 4 _ _ ((λ z. omega (arith, z)), omega arith)
    (early_first 5 _ _ ((λ z. omega (arith, z)), omega arith)
    (early_first 9 _ _ ((λ z. omega (arith, z)), omega arith) (early_first 6 _ _ ((λ z. omega (arith, z)), omega arith) early_none))))))

module _ (b was : Column) (P : Outcome Column → Call (Unit {0}) Column → Type 0)
    (accepts : (x : Column) → all_finite x ≡ true → P (done x) (record { answer = done tt; left = x }))
    (early : (k : ℕ) → (k ≡ 0 → ⊥) → Early k → P (refused k) (leaving was k))
    (seven : (m : ℕ) → P (refused 7) (leaving (zeros m) 7)) where
  solving_cases : (way : Way) (r : Record) (f : Column) (s : List ℕ) → length was ≡ r.rows
      → P (let o = solving_by way f s r b 1 (zeros r.rows) in and_then o.answer (λ _. done o.left)) (solving_by way f s r b 1 was)
  unfolding seventh tested
  solving_cases way r f s l =
      rw (same_matrix r.rows 1 (zeros r.rows) was (l ∙ sym (length-replicate r.rows zero64)))
      (test_cases (eqb number 0)
      (λ t. rw t (test_cases (all_finite made) (λ u. rw u (accepts made u)) (λ u. rw u (seven (length made)))))
      (λ t. rw t (early number (eqb-false number 0 t) (held_early f s r (solve_asks b r.rows 1 (zeros r.rows))))))
    where
      number : ℕ
      number = held_refusal f s r (solve_asks b r.rows 1 (zeros r.rows))

      made : Column
      made = solved_by way f s r (columns r.rows 1 b)

  solution_cases : (t : Bool) (p : Packed) → length was ≡ p.told.rows
      → P (solution_by t p b) (system_of t p.factors p.swaps p.told b 1 was)
  unfolding solution_by solving tr_solving
  solution_cases true p = solving_cases tr_solved p.told p.factors p.swaps
  solution_cases false p = solving_cases solved p.told p.factors p.swaps

module _ (t : Bool) (p : Packed) (b : Column) where
  pub solved_answer : (was : Column) → length was ≡ p.told.rows
      → (system_of t p.factors p.swaps p.told b 1 was).answer ≡ and_then (solution_by t p b) (λ _. done tt)
  solved_answer was l = solution_cases b was (λ o f. f.answer ≡ and_then o (λ _. done tt)) (λ x _. refl) (λ k z _. refl) (λ m. refl) t p l

  pub solved_left : (was x : Column) → length was ≡ p.told.rows → x ≡ (system_of t p.factors p.swaps p.told b 1 was).left → length x ≡ length was
      → x ≡ settled_in (solution_by t p b) was
  unfolding settled_in
  solved_left was x l =
      solution_cases b was (λ o f. x ≡ f.left → length x ≡ length was → x ≡ settled_in o was) (λ y _ e _. e) (λ k _ h e _. rw (ne_eqb k 7 h.0) e)
      (λ m e d. e ∙ ap zeros (sym (length-replicate m zero64) ∙ ap length (sym e) ∙ d)) t p l

  -- an accepted solution is finite, and a refusal's number has one digit
  pub solution_finite : (x : Column) → solution_by t p b ≡ done x → all_finite x ≡ true
  solution_finite x =
      solution_cases b (zeros p.told.rows) (λ o f. o ≡ done x → all_finite x ≡ true) (λ y h e. ap all_finite (sym (done_same y x e)) ∙ h)
      (λ k _ _ e. never_both x k (sym e)) (λ m e. never_both x 7 (sym e)) t p (length-replicate p.told.rows zero64)

  pub solution_few : (k : ℕ) → solution_by t p b ≡ refused k → k ≤ 9
  solution_few k =
      solution_cases b (zeros p.told.rows) (λ o f. o ≡ refused k → k ≤ 9) (λ y _ e. never_both y k e)
      (λ j _ h e. let s : j ≡ k = refused_same j k e in omega (arith, h.1)) (λ m e. let s : 7 ≡ k = refused_same 7 k e in omega arith)
      t p (length-replicate p.told.rows zero64)
