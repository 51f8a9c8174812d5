-- Appending: what a list that is not refused is known by, the three ends that the call has, and the theorems: an accepted list is a good list
-- again, and what follows the last pair is not read. By the tests in their order. Assumes nothing.
use mathlib.Core.Path.{◌≡◌, refl, sym, ap, ◌∙◌}
use mathlib.Core.Bool.{true, not, cond, ◌&&◌}
use mathlib.Core.List.{List, [], ◌∷◌, ◌++◌}
use Prim.Native.Nat.{ℕ, ◌+◌, ◌*◌, ◌≤◌, ◌<◌}
use native.Mathlib.Omega.{arith}
use borrow.Author.Rules.{rules}
use borrow.Author.Tests.{leb-false, eqb-true, eqb-false, eq-eqb, ne_eqb, lt-ltb, not-false}
use lib.Dec.{leb, eqb}
use lib.ListN.{length, get_or}
use Rattle.numbers.proofs.Choice.{test_cases, cond_map}
use Rattle.std.proofs.Common.{Result, Ok, Err}
use Rattle.refusals.specs.declared.Refusal.{Refusal}
use Rattle.refusals.specs.declared.Refused.{Refused}
use Rattle.refusals.specs.Outcome.{done, refused, number, number_of, tested, Call, leaving}
use Rattle.swap_list.specs.SwapList.{pairs_of, with_pair, good_pair, good_list}
use Rattle.swap_list.specs.Appending.{appending_refusal, Listed, listed, appending, appended, count_of}
use Rattle.refusals.proofs.Outcomes.{first_none, never_0, tested_none, tested_some, tested_map}
use Rattle.refusals.proofs.Tests.{neither, inside}
use Rattle.swap_list.proofs.SwapList.{pairs_same, length_with, pairs_with, good, good_unread, good_with}

-- ---- no refusal

module _ (d i j pairs : ℕ) (store : List ℕ) where
  -- what holds of a list that is not refused
  pub record Accepted : Type 0 where
    pub most : d ≤ 64
    pub size : length store ≡ 128
    pub list : good_list store pairs 64 d ≡ true
    pub first : i < 64
    pub second : j < 64
    pub space : (i ≡ j → ⊥) → pairs < d

  pub accepted : appending_refusal store pairs d i j ≡ 0 → Accepted
  unfolding appending_refusal
  accepted e =
      let none = first_none _ (search rules) e in
      let list : good_list store pairs 64 d ≡ true = not-false _ none.1.1.0 in
      let below = neither (leb 64 i) (leb 64 j) none.1.1.1.0 in
      record {
        most = (inside 1 d none.0).at_most;
        size = eqb-true (length store) 128 (not-false _ none.1.0);
        list = list;
        first = leb-false 64 i below.0;
        second = leb-false 64 j below.1;
        space = λ n.
            let other : pairs ≡ d → ⊥ = eqb-false pairs d (rw (ne_eqb i j n) at none.1.1.1.1.0) in
            let few : pairs ≤ d = (good 64 d pairs store list).few in
            omega arith;
      }

  -- the next pair has its place
  pub room : appending_refusal store pairs d i j ≡ 0 → (i ≡ j → ⊥) → 2 * pairs + 1 < length store
  room e n = let a = accepted e in omega (arith, a.space n)

  -- ---- the call, by its tests

  -- what it promises of the answer r and the store s
  abbrev pub Promised : Result ℕ (Refused ℕ) → List ℕ → Type 0
  Promised r s =
      let o = appending store pairs d i j in
      (appended r ≡ o.answer) × ((count_of r ≡ o.left.pairs) × (s ≡ o.left.store))

  -- it is refused, or adds nothing, or adds the pair
  refusing : (appending_refusal store pairs d i j ≡ 0 → ⊥)
      → appending store pairs d i j ≡ leaving (listed pairs store) (appending_refusal store pairs d i j)
  unfolding appending
  refusing n = tested_some (appending_refusal store pairs d i j) (leaving (listed pairs store)) _ n

  same : appending_refusal store pairs d i j ≡ 0 → i ≡ j → appending store pairs d i j ≡ record { answer = done tt; left = listed pairs store }
  unfolding appending
  same e s = tested_none (appending_refusal store pairs d i j) (leaving (listed pairs store)) _ e ∙ rw (eq-eqb i j s)

  adding : appending_refusal store pairs d i j ≡ 0 → (i ≡ j → ⊥)
      → appending store pairs d i j ≡ record { answer = done tt; left = listed (pairs + 1) (with_pair pairs i j store) }
  unfolding appending
  adding e n = tested_none (appending_refusal store pairs d i j) (leaving (listed pairs store)) _ e ∙ rw (ne_eqb i j n)

  pub outcome_refused : (r : Refusal) → number r ≡ appending_refusal store pairs d i j → Promised (Err (record { refusal = r; old = pairs })) store
  outcome_refused r e = rw (refusing (λ z. never_0 r (e ∙ z))) (ap refused e, (refl, refl))

  pub outcome_same : appending_refusal store pairs d i j ≡ 0 → i ≡ j → Promised (Ok pairs) store
  outcome_same e s = rw (same e s) (refl, (refl, refl))

  pub outcome_pair : appending_refusal store pairs d i j ≡ 0 → (i ≡ j → ⊥) → Promised (Ok (pairs + 1)) (with_pair pairs i j store)
  outcome_pair e n = rw (adding e n) (refl, (refl, refl))

  -- ---- the theorems

  -- what holds at each of the three ends holds of the call
  appending_cases : (P : Call (Unit {0}) Listed → Type 0)
      → ((appending_refusal store pairs d i j ≡ 0 → ⊥) → P (leaving (listed pairs store) (appending_refusal store pairs d i j)))
      → (appending_refusal store pairs d i j ≡ 0 → i ≡ j → P (record { answer = done tt; left = listed pairs store }))
      → (appending_refusal store pairs d i j ≡ 0 → (i ≡ j → ⊥) → P (record { answer = done tt; left = listed (pairs + 1) (with_pair pairs i j store) }))
      → P (appending store pairs d i j)
  appending_cases P refuses stays adds =
      test_cases (eqb (appending_refusal store pairs d i j) 0)
      (λ t. let e = eqb-true _ 0 t in
      test_cases (eqb i j) (λ u. let s = eqb-true i j u in rw (same e s) (stays e s)) (λ u. let n = eqb-false i j u in rw (adding e n) (adds e n)))
      (λ t. let n = eqb-false _ 0 t in rw (refusing n) (refuses n))

  -- the pair that is added is the new last pair, and the others are as they were
  pub appended_pairs : pairs_of (appending store pairs d i j).left.pairs (appending store pairs d i j).left.store
      ≡ cond (eqb (appending_refusal store pairs d i j) 0 && not (eqb i j)) (pairs_of pairs store ++ (i, j) ∷ []) (pairs_of pairs store)
  appended_pairs =
      appending_cases
      (λ o. pairs_of o.left.pairs o.left.store
      ≡ cond (eqb (appending_refusal store pairs d i j) 0 && not (eqb i j)) (pairs_of pairs store ++ (i, j) ∷ []) (pairs_of pairs store))
      (λ n. rw (ne_eqb _ 0 n))
      (λ e s. rw (e, eq-eqb i j s))
      (λ e n. rw (e, ne_eqb i j n) (pairs_with pairs i j store (room e n)))

  -- a list that was appended to is a good list again, in a store as long
  pub appended_good : number_of (appending store pairs d i j).answer ≡ 0
      → good_list (appending store pairs d i j).left.store (appending store pairs d i j).left.pairs 64 d ≡ true
  unfolding good_pair
  appended_good =
      appending_cases (λ o. number_of o.answer ≡ 0 → good_list o.left.store o.left.pairs 64 d ≡ true)
      (λ n h. absurd (n h))
      (λ e s h. (accepted e).list)
      (λ e n h.
      let a = accepted e in
      good_with 64 d pairs i j store a.list (a.space n) (room e n) (rw (ne_eqb i j n, lt-ltb i 64 a.first, lt-ltb j 64 a.second)))

  pub appended_length : length (appending store pairs d i j).left.store ≡ length store
  appended_length = appending_cases (λ o. length o.left.store ≡ length store) (λ n. refl) (λ e s. refl) (λ e n. length_with pairs i j store)

  -- its answer and its count, by the refusal alone
  answer_is : (appending store pairs d i j).answer ≡ tested (appending_refusal store pairs d i j) refused (done tt)
  unfolding appending
  answer_is = tested_map (λ o. o.answer) (appending_refusal store pairs d i j) (leaving (listed pairs store)) _

  count_is : (appending store pairs d i j).left.pairs ≡ tested (appending_refusal store pairs d i j) (λ k. pairs) (cond (eqb i j) pairs (pairs + 1))
  unfolding appending
  count_is =
      tested_map (λ o. o.left.pairs) (appending_refusal store pairs d i j) (leaving (listed pairs store)) _
      ∙ ap (tested (appending_refusal store pairs d i j) (λ k. pairs))
      (sym (cond_map (λ (l : Listed). l.pairs) (eqb i j) (listed pairs store) (listed (pairs + 1) (with_pair pairs i j store))))

-- two stores that agree on their pairs are refused alike, and their lists are alike afterwards
module _ (d i j pairs : ℕ) (a b : List ℕ) (long : length a ≡ length b) (same : (k : ℕ) → k < 2 * pairs → get_or a k 0 ≡ get_or b k 0) where
  refusal_unread : appending_refusal a pairs d i j ≡ appending_refusal b pairs d i j
  unfolding appending_refusal
  refusal_unread = rw (long, good_unread 64 d pairs a b long same)

  pub appending_unread : ((appending a pairs d i j).answer ≡ (appending b pairs d i j).answer)
      × ((appending a pairs d i j).left.pairs ≡ (appending b pairs d i j).left.pairs)
      × (pairs_of (appending a pairs d i j).left.pairs (appending a pairs d i j).left.store
      ≡ pairs_of (appending b pairs d i j).left.pairs (appending b pairs d i j).left.store)
  appending_unread = (
    rw (answer_is d i j pairs a, answer_is d i j pairs b, refusal_unread),
    rw (count_is d i j pairs a, count_is d i j pairs b, refusal_unread),
    rw (appended_pairs d i j pairs a, appended_pairs d i j pairs b, refusal_unread, pairs_same pairs a b same),
  )
