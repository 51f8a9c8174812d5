-- Factoring's outcomes, each from what the tests on the way to it found; and what an answer tells. Assumes nothing.
use mathlib.Core.Path.{◌≡◌, refl, sym, ap, ◌∙◌}
use mathlib.Core.Bool.{true, false, ◌&&◌}
use mathlib.Core.List.{List}
use Prim.Native.Nat.{ℕ, suc}
use native.Mathlib.Omega.{arith}
use borrow.Author.Tests.{eqb-true, eq-eqb, not-false}
use lib.Dec.{eqb}
use lib.ListN.{length, replicate}
use Rattle.numbers.specs.Column.{Column, zeros}
use Rattle.finite.specs.Finite.{all_finite}
use Rattle.numbers.proofs.Choice.{and_first, and_second}
use Rattle.store.specs.Columns.{columns, flat, is_matrix}
use Rattle.store.proofs.Columns.{flat_columns, sized, same_matrix}
use Rattle.dead_columns.specs.Dead.{dead_in, dead_of}
use Rattle.dead_columns.proofs.Dead.{held_dead}
use Rattle.std.proofs.Common.{Result, Ok, Err}
use Rattle.std.specs.Result.{IsErrAnd}
use Rattle.refusals.specs.declared.Refusal.{Refusal}
use Rattle.refusals.specs.declared.Refusal.TheVariants.{Overflow}
use Rattle.refusals.specs.Outcome.{Outcome, done, refused, number, leaving}
use Rattle.refusals.specs.Refusals.{outside}
use Rattle.refusals.proofs.Outcomes.{Numbered, first_none, none_first, never_0, handed_on, tested_none, tested_some}
use Rattle.refusals.proofs.Tests.{neither, Inside, inside, not_outside}
use Rattle.factors.specs.declared.Record.{Record}
use Rattle.factors.specs.Factors.{Factors, numbers_of, store_of, record_of, slices}
use Rattle.elimination.specs.Elimination.{eliminate}
use Rattle.elimination.specs.TossUps.{toss_ups}
use Rattle.lu.specs.declared.Factored.{Factored}
use Rattle.lu.specs.Factoring.{factoring_tests, factoring_refusal, factoring, settled, factored, with_toss_ups, factoring_answer}
use Rattle.lu.specs.Inner.{Held, Settled}

-- ---- what an answer tells of the outcome
done_same : {A : Type 0} (a b : A) → done a ≡ done b → a ≡ b
done_same a b e = cc

pub told_accepted : (tossed : ℕ) (o : Outcome Record) (told : Record) (own : ℕ) → done (told, own) ≡ with_toss_ups tossed o → (o ≡ done told) × (own ≡ tossed)
unfolding with_toss_ups
told_accepted tossed (done r) told own e =
    let was : Record × ℕ = (told, own) in
    let is : Record × ℕ = (r, tossed) in
    let same : was ≡ is = done_same was is e in
    (ap (λ (p : Record × ℕ). done p.0) (sym same), ap (λ (p : Record × ℕ). p.1) same)
told_accepted tossed (refused k) told own e = absurd (let z : ◌≡◌ {A = ℕ} 0 1 = cc in omega arith)

pub told_refused : (tossed : ℕ) (o : Outcome Record) (number : ℕ) → refused number ≡ with_toss_ups tossed o → o ≡ refused number
unfolding with_toss_ups
told_refused tossed (done r) number e = absurd (let z : ◌≡◌ {A = ℕ} 0 1 = cc in omega arith)
told_refused tossed (refused k) number e = cc

module _ (m n : ℕ) (a out : Column) (store : List ℕ) where
  -- what is known where factoring is not refused before the work, and that nothing more is asked
  pub record Passed : Type 0 where
    pub rows : Inside 1 m
    pub cols : Inside 0 n
    pub matrix : is_matrix a m n ≡ true
    pub slice : is_matrix out m n ≡ true
    pub room : length store ≡ 128
    pub numbers : all_finite a ≡ true

  numbered : Numbered (factoring_tests a m n out store)
  numbered = (some 0, (some 2, (some 4, tt)))
    where
      some : (k : ℕ) → suc k ≡ 0 → ⊥
      some k e = omega (arith, e)

  pub passed : factoring_refusal a m n out store ≡ 0 → Passed
  unfolding factoring_refusal
  passed e =
      let t = first_none (factoring_tests a m n out store) numbered e in
      let sizes = neither (outside 1 m) (outside 0 n) t.0 in
      let two = is_matrix a m n && is_matrix out m n in
      let lengths = not-false (two && eqb (length store) 128) t.1.0 in
      let both = and_first two (eqb (length store) 128) lengths in
      record {
        rows = inside 1 m sizes.0;
        cols = inside 0 n sizes.1;
        matrix = and_first (is_matrix a m n) (is_matrix out m n) both;
        slice = and_second (is_matrix a m n) (is_matrix out m n) both;
        room = eqb-true (length store) 128 (and_second two (eqb (length store) 128) lengths);
        numbers = not-false (all_finite a) t.1.1.0;
      }

  pub passes : Passed → factoring_refusal a m n out store ≡ 0
  unfolding factoring_refusal
  passes p =
      none_first (factoring_tests a m n out store) (
        rw (not_outside 1 m p.rows.at_least p.rows.at_most, not_outside 0 n p.cols.at_least p.cols.at_most),
        (rw (p.matrix, p.slice, eq-eqb (length store) 128 p.room), (rw p.numbers, tt)),
      )

  -- past the tests the outcome is the settled elimination
  pub worked : factoring_refusal a m n out store ≡ 0 → factoring a m n out store ≡ settled m n (eliminate m (columns m n a))
  unfolding factoring
  worked none = tested_none _ _ _ none

  -- the promise of the call: its answer, the factors and the swap store
  abbrev pub Promise : Result Factored Refusal → Column → List ℕ → Type 0
  Promise r f s =
      (factored r ≡ factoring_answer a m n out store) × ((f ≡ (factoring a m n out store).left.factors) × (s ≡ (factoring a m n out store).left.store))

  pub promise_refused : (r : Refusal) (answer : Result Factored Refusal) → number r ≡ factoring_refusal a m n out store → IsErrAnd answer (λ e. e ≡ r)
      → Promise answer out store
  unfolding factoring factoring_answer with_toss_ups
  promise_refused r answer e h =
      rw (handed_on r answer h, tested_some _ (leaving (slices out store)) (settled m n (eliminate m (columns m n a))) (λ z. never_0 r (e ∙ z)))
      (ap refused e, (refl, refl))

  -- past the tests, from what the elimination settled on
  pub promise_settled : (s : Column) (r : Result Factored Refusal) (s' : Column) (store' : List ℕ) → 0 ≡ factoring_refusal a m n out store → s ≡ a
      → Settled s m n r s' store' → Promise r s' store'
  unfolding factoring_answer
  promise_settled s r s' store' none same made = let w = worked (sym none) in rw (w, ← same) (made.answer, (made.factors, made.store))

-- ---- the elimination, settled: s held the matrix, t holds its factors
module _ (m n : ℕ) (s t : Column) (store : List ℕ) (pairs : ℕ) (h : Held t m n store pairs (eliminate m (columns m n s))) where
  abbrev f : Factors
  f = eliminate m (columns m n s)

  whole : t ≡ flat f.columns
  whole = sym (flat_columns m n t h.size) ∙ ap flat h.is_columns

  -- the dead columns are counted in the slice
  dead_is : is_matrix s m n ≡ true → dead_of t m n ≡ dead_in m f.columns
  dead_is fits =
      let long : length t ≡ length s = h.size ∙ sym (sized m n s fits).size in
      held_dead m n t (same_matrix m n s t long ∙ fits) ∙ ap (dead_in m) h.is_columns

  pub settled_accepted : (tossed dead : ℕ) → tossed ≡ toss_ups m (columns m n s) → dead ≡ dead_of t m n → is_matrix s m n ≡ true → all_finite t ≡ true
      → Settled s m n (Ok (record { told = record_of m n pairs dead; toss_ups = tossed })) t store
  unfolding settled with_toss_ups
  settled_accepted tossed dead counted died fits e =
      let all : all_finite (flat f.columns) ≡ true = ap all_finite (sym whole) ∙ e in
      record {
        answer = rw all (λ i. done (record_of m n (h.is_pairs i) ((died ∙ dead_is fits) i), counted i));
        factors = rw all whole;
        store = rw all h.is_store;
      }

  pub settled_overflow : (zeroed : Column) (cleared : List ℕ) → all_finite t ≡ false → zeroed ≡ zeros (length t) → cleared ≡ replicate (length store) 0
      → length store ≡ 128 → Settled s m n (Err Overflow) zeroed cleared
  unfolding settled with_toss_ups store_of numbers_of
  settled_overflow zeroed cleared e z c len =
      let all : all_finite (flat f.columns) ≡ false = ap all_finite (sym whole) ∙ e in
      record { answer = rw all refl; factors = rw all (z ∙ ap zeros h.size); store = rw all (c ∙ ap (λ k. replicate k 0) len) }
