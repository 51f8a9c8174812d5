-- The call as its tests go: what loads that are not refused are known by, and the outcome. By the tests in their order. Assumes nothing.
use mathlib.Core.Path.{◌≡◌, refl, ap, ◌∙◌}
use mathlib.Core.Bool.{true, ◌&&◌}
use mathlib.Core.List.{List, [], ◌∷◌, ◌++◌, append-nil}
use Prim.Native.Nat.{ℕ, ◌-◌}
use native.Mathlib.Omega.{arith}
use borrow.Author.Rules.{rules}
use borrow.Author.Tests.{eqb-true, eq-eqb, not-false}
use lib.Dec.{eqb}
use lib.ListN.{length, replicate}
use Rattle.numbers.specs.Column.{Column}
use Rattle.finite.specs.Finite.{all_finite}
use Rattle.numbers.proofs.Choice.{and_first, and_second}
use Rattle.std.proofs.Common.{Result, Ok}
use Rattle.std.specs.Result.{IsErrAnd}
use Rattle.refusals.specs.declared.Refusal.{Refusal}
use Rattle.refusals.specs.Outcome.{done, number, first_holding, leaving}
use Rattle.refusals.proofs.Outcomes.{Promise, promise_refused, promise_made, first_none, tested_none}
use Rattle.refusals.proofs.Tests.{Inside, inside, not_outside}
use Rattle.ranking.specs.Ranking.{Choice, every_pad, ranked, pads_to, chosen, listing, ranking_refusal, padded, ranking}
use Rattle.ranking.proofs.Inserting.{length_ranked}
use Rattle.ranking.proofs.Listing.{length_pads}

module _ (n : ℕ) (loads : Column) (was : List ℕ) where
  -- what holds of n loads and a slice for their ranks that are not refused
  pub record Accepted : Type 0 where
    pub size : Inside 1 n
    pub loads_length : length loads ≡ n
    pub ranks_length : length was ≡ n
    pub finite : all_finite loads ≡ true

  pub accepted : ranking_refusal loads n was ≡ 0 → Accepted
  unfolding ranking_refusal
  accepted e =
      let none = first_none _ (search rules) e in
      let lengths : (eqb (length loads) n && eqb (length was) n) ≡ true = not-false _ none.1.0 in
      record {
        size = inside 1 n none.0;
        loads_length = eqb-true (length loads) n (and_first (eqb (length loads) n) (eqb (length was) n) lengths);
        ranks_length = eqb-true (length was) n (and_second (eqb (length loads) n) (eqb (length was) n) lengths);
        finite = not-false _ none.1.1.0;
      }

  -- such loads are not refused
  pub not_refused : Accepted → ranking_refusal loads n was ≡ 0
  unfolding ranking_refusal first_holding
  not_refused a =
      rw (not_outside 1 n a.size.at_least a.size.at_most, eq-eqb (length loads) n a.loads_length, eq-eqb (length was) n a.ranks_length, a.finite)

module _ (choice : Choice) (n : ℕ) (loads : Column) (was : List ℕ) where
  -- the promise on the answer and on the slice, at the call's two ends
  abbrev pub Answers : Result ℕ Refusal → List ℕ → Type 0
  Answers = Promise (ranking choice loads n was)

  pub outcome_refused : (r : Refusal) (answer : Result ℕ Refusal) → number r ≡ ranking_refusal loads n was → IsErrAnd answer (λ e. e ≡ r)
      → Answers answer was
  unfolding ranking
  outcome_refused r answer e h = promise_refused (ranking_refusal loads n was) was _ r answer e h

  pub outcome_ranked : (s : List ℕ) (count : ℕ) → 0 ≡ ranking_refusal loads n was
      → (count ≡ length (listing choice loads n)) × (s ≡ padded n (listing choice loads n)) → Answers (Ok count) s
  unfolding ranking
  outcome_ranked s count e made = promise_made (ranking_refusal loads n was) was _ (Ok count) s e (ap done made.0) made.1

  -- the call where it is not refused
  pub ranking_accepted : ranking_refusal loads n was ≡ 0
      → ranking choice loads n was ≡ record { answer = done (length (listing choice loads n)); left = padded n (listing choice loads n) }
  unfolding ranking
  ranking_accepted e = tested_none (ranking_refusal loads n was) (leaving was) _ e

-- ---- all pads: n of them, and no slot behind
chosen_all : (s : List ℕ) → chosen every_pad s ≡ s
unfolding chosen
chosen_all [] = refl
chosen_all (p ∷ s) = ap (λ (t : List ℕ). p ∷ t) (chosen_all s)

pub listing_all : (n : ℕ) (loads : Column) → listing every_pad loads n ≡ ranked loads (pads_to n)
unfolding listing
listing_all n loads = ap (ranked loads) (chosen_all (pads_to n))

pub length_all : (n : ℕ) (loads : Column) → length (listing every_pad loads n) ≡ n
length_all n loads = ap length (listing_all n loads) ∙ length_ranked loads (pads_to n) ∙ length_pads n

padded_whole : (n : ℕ) (s : List ℕ) → length s ≡ n → padded n s ≡ s
padded_whole n s e =
    let none : n - length s ≡ 0 = omega arith in
    ap (λ (k : ℕ). s ++ replicate k 0) none ∙ append-nil s

pub ranking_all : (n : ℕ) (loads : Column) (was : List ℕ) → ranking_refusal loads n was ≡ 0
    → ranking every_pad loads n was ≡ record { answer = done n; left = listing every_pad loads n }
ranking_all n loads was e =
    let long = length_all n loads in
    ranking_accepted every_pad n loads was e ∙ (λ i. record { answer = done (long i); left = padded_whole n (listing every_pad loads n) long i })
