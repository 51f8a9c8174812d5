-- Of any choice of pads the call gives the one list that document 01 and request 9 ask for: each chosen one of the pads 1 to n once, any two of them in order
-- (`ranking_ranked`), and no other list is so (`only_ranking`). A pad put among pads in order leaves all in order; of two lists in order with the same pads,
-- the first pads are one, since each would be ahead of the other. Assumes nothing.
use mathlib.Core.Path.{◌≡◌, refl, sym, ap, ap₂, ◌∙◌}
use mathlib.Core.Bool.{Bool, true, false, cond, ◌&&◌, true≢false}
use mathlib.Core.List.{List, [], ◌∷◌}
use Prim.Native.Nat.{ℕ, zero, suc, ◌+◌, ◌-◌, ◌≤◌, ◌<◌}
use native.Mathlib.Nat.{le_of_suc-le-suc, not-suc-le-zero, zero-add}
use native.Mathlib.Omega.{arith}
use borrow.Author.Tests.{eqb-true, eqb-false, eq-eqb, ne_eqb, leb-true, le-leb, lt-leb}
use lib.Dec.{eqb, leb}
use lib.ListN.{length, get_or, take, drop, replicate}
use lib.Seq.{take-append_seam, drop-append_seam}
use Rattle.numbers.specs.Column.{Column}
use Rattle.finite.specs.Finite.{all_finite}
use Rattle.numbers.proofs.Choice.{test_cases, cond_cases, same_test}
use Rattle.refusals.specs.Outcome.{done, Call}
use Rattle.ranking.specs.Ranking.{IsPad, ahead, Choice, occurrences, Ranked, insert_pad, ranked, pads_to, chosen, listing, ranking_refusal, ranking}
use Rattle.ranking.proofs.Inserting.{Every, every_at, insert_every, ranked_every}
use Rattle.ranking.proofs.Listing.{chosen_every, pads_every}
use Rattle.ranking.proofs.Order.{ahead_asym, ahead_total, ahead_trans}
use Rattle.ranking.proofs.Calls.{accepted, ranking_accepted}

every_map : {P Q : ℕ → Type 0} (s : List ℕ) → ((q : ℕ) → P q → Q q) → Every P s → Every Q s
every_map [] f e = tt
every_map (q ∷ s) f e = (f q e.0, every_map s f e.1)

every_both : (P Q : ℕ → Type 0) (s : List ℕ) → Every P s → Every Q s → Every (λ q. P q × Q q) s
every_both P Q [] e d = tt
every_both P Q (q ∷ s) e d = ((e.0, d.0), every_both P Q s e.1 d.1)

every_of : (P : ℕ → Type 0) (s : List ℕ) → ((i : ℕ) → i < length s → P (get_or s i 0)) → Every P s
every_of P [] f = tt
every_of P (q ∷ s) f = (f 0 (omega arith), every_of P s (λ i h. f (suc i) (omega arith)))

-- ---- how often a pad stands there
module _ (loads : Column) (p : ℕ) where
  insert_occurrences : (q : ℕ) (s : List ℕ) → occurrences p (insert_pad loads q s) ≡ cond (eqb p q) 1 0 + occurrences p s
  unfolding insert_pad occurrences
  insert_occurrences q [] = refl
  insert_occurrences q (r ∷ s) =
      cond_cases (λ t. occurrences p t ≡ cond (eqb p q) 1 0 + (cond (eqb p r) 1 0 + occurrences p s)) (ahead loads q r)
      (λ e. ap (λ (k : ℕ). cond (eqb p q) 1 0 + k) (insert_occurrences r s))
      (λ e. omega (arith, insert_occurrences q s))

  ranked_occurrences : (s : List ℕ) → occurrences p (ranked loads s) ≡ occurrences p s
  unfolding ranked occurrences
  ranked_occurrences [] = refl
  ranked_occurrences (q ∷ s) = insert_occurrences q (ranked loads s) ∙ ap (λ (k : ℕ). cond (eqb p q) 1 0 + k) (ranked_occurrences s)

pads_occurrences : (p n : ℕ) → occurrences p (pads_to n) ≡ cond (leb 1 p && leb p n) 1 0
unfolding pads_to occurrences
pads_occurrences zero zero = refl
pads_occurrences (suc p) zero = rw (lt-leb (suc p) 0 (omega arith), le-leb 1 (suc p) (omega arith))
pads_occurrences p (suc n) =
    test_cases (eqb p (suc n))
    (λ e. let d = eqb-true p (suc n) e in
    rw (e, pads_occurrences p n, lt-leb p n (omega arith), le-leb 1 p (omega arith), le-leb p (suc n) (omega arith)))
    (λ e. let d = eqb-false p (suc n) e in
    let up : leb p n ≡ true → leb p (suc n) ≡ true = λ h. le-leb p (suc n) (omega (arith, leb-true p n h)) in
    let down : leb p (suc n) ≡ true → leb p n ≡ true = λ h. le-leb p n (omega (arith, leb-true p (suc n) h, d)) in
    let same : leb p n ≡ leb p (suc n) = same_test _ _ up down in
    rw (e, pads_occurrences p n, same) (zero-add _))

pub both_tests : (t u : Bool) → cond u (cond t 1 0) 0 ≡ cond {A = ℕ} (t && u) 1 0
both_tests true true = refl
both_tests true false = refl
both_tests false true = refl
both_tests false false = refl

module _ (choice : Choice) (p : ℕ) where
  -- of those that are chosen, p stands there as often as before, or not at all
  pub chosen_occurrences : (s : List ℕ) → occurrences p (chosen choice s) ≡ cond (choice p) (occurrences p s) 0
  unfolding chosen occurrences
  chosen_occurrences [] = test_cases (choice p) (λ e. rw e) (λ e. rw e)
  chosen_occurrences (q ∷ s) =
      let before = chosen_occurrences s in
      test_cases (choice p)
      (λ t. rw t
      (cond_cases (λ (l : List ℕ). occurrences p l ≡ cond (eqb p q) 1 0 + occurrences p s) (choice q)
      (λ _. ap (λ (k : ℕ). cond (eqb p q) 1 0 + k) (rw t at before))
      (λ f. rw (ne_eqb p q (λ d. true≢false (sym t ∙ ap choice d ∙ f))) ((rw t at before) ∙ sym (zero-add _)))))
      (λ t. rw t
      (cond_cases (λ (l : List ℕ). occurrences p l ≡ 0) (choice q)
      (λ f. rw (ne_eqb p q (λ d. true≢false (sym f ∙ ap choice (sym d) ∙ t))) (zero-add _ ∙ (rw t at before)))
      (λ _. rw t at before)))

  listing_occurrences : (n : ℕ) (loads : Column) → occurrences p (listing choice loads n) ≡ cond (leb 1 p && leb p n && choice p) 1 0
  unfolding listing
  listing_occurrences n loads =
      ranked_occurrences loads p (chosen choice (pads_to n)) ∙ chosen_occurrences (pads_to n)
      ∙ ap (λ (k : ℕ). cond (choice p) k 0) (pads_occurrences p n) ∙ both_tests (leb 1 p && leb p n) (choice p)

-- a pad that stands in a list has a place there
found : {Q : Type 0} (p : ℕ) (s : List ℕ) → 1 ≤ occurrences p s → ((i : ℕ) → i < length s → get_or s i 0 ≡ p → Q) → Q
unfolding occurrences
found p [] h f = absurd (not-suc-le-zero h)
found p (q ∷ s) h f =
    test_cases (eqb p q) (λ e. f 0 (omega arith) (sym (eqb-true p q e)))
    (λ e. found p s (let k : 1 ≤ 0 + occurrences p s = rw e at h in omega arith) (λ i l d. f (suc i) (omega arith) d))

-- ---- lists in which no two pads are one
abbrev Distinct : List ℕ → Type 0
Distinct [] = Unit {0}
Distinct (p ∷ s) = Every (λ q. p ≡ q → ⊥) s × Distinct s

pads_distinct : (n : ℕ) → Distinct (pads_to n)
unfolding pads_to
pads_distinct zero = tt
pads_distinct (suc n) = (every_map (pads_to n) (λ q w d. omega arith) (pads_every n n (omega arith)), pads_distinct n)

chosen_distinct : (choice : Choice) (s : List ℕ) → Distinct s → Distinct (chosen choice s)
unfolding chosen
chosen_distinct choice [] d = tt
chosen_distinct choice (p ∷ s) d =
    let rest = chosen_distinct choice s d.1 in
    cond_cases Distinct (choice p) (λ _. (chosen_every choice (λ q. p ≡ q → ⊥) s d.0, rest)) (λ _. rest)

-- ---- any two in order
module _ (loads : Column) where
  abbrev InOrder : List ℕ → Type 0
  InOrder s = (i j : ℕ) → i < j → j < length s → ahead loads (get_or s i 0) (get_or s j 0) ≡ true

  -- the first ahead of all others, and so on
  abbrev pub Chain : List ℕ → Type 0
  Chain [] = Unit {0}
  Chain (p ∷ s) = Every (λ q. ahead loads p q ≡ true) s × Chain s

  pub chain_order : (s : List ℕ) → Chain s → InOrder s
  chain_order [] c i j h l = absurd (not-suc-le-zero l)
  chain_order (p ∷ s) c zero zero h l = absurd (not-suc-le-zero h)
  chain_order (p ∷ s) c zero (suc j) h l = every_at (λ q. ahead loads p q ≡ true) s j c.0 (le_of_suc-le-suc l)
  chain_order (p ∷ s) c (suc i) zero h l = absurd (not-suc-le-zero h)
  chain_order (p ∷ s) c (suc i) (suc j) h l = chain_order s c.1 i j (le_of_suc-le-suc h) (le_of_suc-le-suc l)

  pub order_chain : (s : List ℕ) → InOrder s → Chain s
  order_chain [] f = tt
  order_chain (p ∷ s) f = (
    every_of (λ q. ahead loads p q ≡ true) s (λ j l. f 0 (suc j) (omega arith) (omega arith)),
    order_chain s (λ i j h l. f (suc i) (suc j) (omega arith) (omega arith)),
  )

  -- of two lists in order with the same pads
  same_list : (a b : List ℕ) → ((p : ℕ) → occurrences p a ≡ occurrences p b) → InOrder a → InOrder b → a ≡ b
  unfolding occurrences
  same_list [] [] e f g = refl
  same_list [] (q ∷ b) e f g = let z : 0 ≡ 1 + occurrences q b = rw (eq-eqb q q refl) at (e q) in absurd (omega arith)
  same_list (p ∷ a) [] e f g = let z : 1 + occurrences p a ≡ 0 = rw (eq-eqb p p refl) at (e p) in absurd (omega arith)
  same_list (p ∷ a) (q ∷ b) e f g =
      test_cases (eqb p q)
      (λ t. let d = eqb-true p q t in
      ap₂ (λ (x : ℕ) (l : List ℕ). x ∷ l) d
      (same_list a b (λ r. (let k : cond (eqb r q) 1 0 + occurrences r a ≡ cond (eqb r q) 1 0 + occurrences r b = rw d at (e r) in omega arith))
      (λ i j h l. f (suc i) (suc j) (omega arith) (omega arith)) (λ i j h l. g (suc i) (suc j) (omega arith) (omega arith))))
      (λ t. let n = eqb-false p q t in
      let in_b : 1 + occurrences p a ≡ 0 + occurrences p b = rw (eq-eqb p p refl, t) at (e p) in
      let in-a : 0 + occurrences q a ≡ 1 + occurrences q b = rw (eq-eqb q q refl, ne_eqb q p (λ d. n (sym d))) at (e q) in
      found p b (omega arith) λ i l d. found q a (omega arith) λ j m c.
      absurd (ahead_asym loads p q (rw c at (f 0 (suc j) (omega arith) (omega arith))) (rw d at (g 0 (suc i) (omega arith) (omega arith)))))

  -- ---- a pad put among pads in order
  module _ (all : all_finite loads ≡ true) where
    insert_chain : (p : ℕ) (s : List ℕ) → IsPad (length loads) p → Every (IsPad (length loads)) s → Every (λ q. p ≡ q → ⊥) s → Chain s
        → Chain (insert_pad loads p s)
    unfolding insert_pad
    insert_chain p [] hp hs n c = (tt, tt)
    insert_chain p (q ∷ s) hp hs n c =
        cond_cases Chain (ahead loads p q)
        (λ e. (
          insert_every loads (λ r. ahead loads p r ≡ true) q s e
              (every_map s (λ r w. ahead_trans loads all p q r hp hs.0 w.0 e w.1)
              (every_both (IsPad (length loads)) (λ r. ahead loads q r ≡ true) s hs.1 c.0)),
          insert_chain q s hs.0 hs.1 (every_map s (λ r w d. (let s : ahead loads r r ≡ true = rw d at w in ahead_asym loads r r s s)) c.0) c.1,
        ))
        (λ e. (insert_every loads (λ r. ahead loads q r ≡ true) p s (ahead_total loads p q n.0 e) c.0, insert_chain p s hp hs.1 n.1 c.1))

    -- any pads of a list in which no two are one
    ranked_chain : (s : List ℕ) → Every (IsPad (length loads)) s → Distinct s → Chain (ranked loads s)
    unfolding ranked
    ranked_chain [] h d = tt
    ranked_chain (p ∷ s) h d =
        insert_chain p (ranked loads s) h.0 (ranked_every loads (IsPad (length loads)) s h.1) (ranked_every loads (λ q. p ≡ q → ⊥) s d.0)
        (ranked_chain s h.1 d.1)

    -- the chosen pads of n finite loads in their order
    pub listing_is : (choice : Choice) (n : ℕ) → n ≤ length loads → Ranked choice loads n (listing choice loads n)
    unfolding listing
    listing_is choice n h =
        record {
          each_once = λ p. listing_occurrences choice p n loads;
          in_order = chain_order (listing choice loads n)
              (ranked_chain (chosen choice (pads_to n)) (chosen_every choice (IsPad (length loads)) (pads_to n) (pads_every (length loads) n h))
              (chosen_distinct choice (pads_to n) (pads_distinct n)));
        }

  -- no two lists are a ranking
  pub only_ranking : (choice : Choice) (n : ℕ) (a b : List ℕ) → Ranked choice loads n a → Ranked choice loads n b → a ≡ b
  only_ranking choice n a b r s = same_list a b (λ p. r.each_once p ∙ sym (s.each_once p)) r.in_order s.in_order

-- ---- what an accepted call answers and leaves
pub record Lists (choice : Choice) (n : ℕ) (loads : Column) (o : Call ℕ (List ℕ)) : Type 0 where
  pub count : ℕ
  pub answered : o.answer ≡ done count
  pub pads : Ranked choice loads n (take count o.left)
  pub behind : drop count o.left ≡ replicate (n - count) 0

pub ranking_ranked : (choice : Choice) (n : ℕ) (loads : Column) (was : List ℕ) → ranking_refusal loads n was ≡ 0
    → Lists choice n loads (ranking choice loads n was)
ranking_ranked choice n loads was e =
    let a = accepted n loads was e in
    let ranks = listing choice loads n in
    rw (ranking_accepted choice n loads was e)
    (record {
      count = length ranks;
      answered = refl;
      pads = rw (take-append_seam ranks (replicate (n - length ranks) 0)) (listing_is loads a.finite choice n (omega (arith, a.loads_length)));
      behind = drop-append_seam ranks (replicate (n - length ranks) 0);
    })
