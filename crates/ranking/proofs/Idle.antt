-- Document 02, request 9: "Order among listed pads is unchanged in either setting". A ranking of all pads from which some are left off is the ranking of the
-- others (`leaving_off`), so the short list is the long one without the idle pads (`short_list`, `without_idle`). By the uniqueness of a ranking.
-- Assumes nothing.
use mathlib.Core.Path.{◌≡◌, sym, ap, ◌∙◌}
use mathlib.Core.Bool.{Bool, true, cond, ◌&&◌}
use mathlib.Core.List.{List, [], ◌∷◌}
use Prim.Native.Nat.{ℕ, ◌≤◌}
use native.Mathlib.Omega.{arith}
use lib.Dec.{leb}
use lib.ListN.{length}
use Rattle.numbers.specs.Column.{Column}
use Rattle.finite.specs.Finite.{all_finite}
use Rattle.numbers.proofs.Choice.{cond_cases, and_true}
use Rattle.refusals.specs.Outcome.{done, Call}
use Rattle.ranking.specs.Ranking.{ahead, Choice, every_pad, Ranked, chosen, listing, ranking_refusal, padded, ranking}
use Rattle.ranking.proofs.Listing.{chosen_every}
use Rattle.ranking.proofs.Calls.{accepted, ranking_accepted, ranking_all}
use Rattle.ranking.proofs.Ranked.{Chain, chain_order, order_chain, both_tests, chosen_occurrences, listing_is, only_ranking}

-- ---- some pads left off
module _ (loads : Column) (choice : Choice) where
  chosen_chain : (s : List ℕ) → Chain loads s → Chain loads (chosen choice s)
  unfolding chosen
  chosen_chain [] c = tt
  chosen_chain (p ∷ s) c =
      let rest = chosen_chain s c.1 in
      cond_cases (Chain loads) (choice p) (λ _. (chosen_every choice (λ q. ahead loads p q ≡ true) s c.0, rest)) (λ _. rest)

  -- THEOREM. A ranking of all pads, without those that are not chosen, is the ranking of the chosen ones.
  pub leaving_off : (n : ℕ) (ranks : List ℕ) → Ranked every_pad loads n ranks → Ranked choice loads n (chosen choice ranks)
  leaving_off n ranks r =
      record {
        each_once = λ p.
            chosen_occurrences choice p ranks
            ∙ ap (λ (k : ℕ). cond (choice p) k 0) (r.each_once p ∙ ap (λ (t : Bool). cond t 1 0) (and_true (leb 1 p && leb p n)))
            ∙ both_tests (leb 1 p && leb p n) (choice p);
        in_order = chain_order loads (chosen choice ranks) (chosen_chain ranks (order_chain loads ranks r.in_order));
      }

  -- THEOREM. The list of the chosen pads is the list of all without the others.
  pub short_list : (n : ℕ) → all_finite loads ≡ true → n ≤ length loads → listing choice loads n ≡ chosen choice (listing every_pad loads n)
  short_list n all h =
      only_ranking loads choice n _ _ (listing_is loads all choice n h) (leaving_off n (listing every_pad loads n) (listing_is loads all every_pad n h))

-- ---- the call
module _ (choice : Choice) (n : ℕ) (loads : Column) (was : List ℕ) where
  -- THEOREM. What the call gives for a choice is what it leaves for all pads, without those that are not chosen: their number, and 0 in the slots behind them.
  -- So `rank` gives what `rank_all` leaves, without the idle pads.
  pub without_idle : ranking_refusal loads n was ≡ 0
      → let ranks = chosen choice (ranking every_pad loads n was).left in
      ranking choice loads n was ≡ record { answer = done (length ranks); left = padded n ranks }
  without_idle e =
      let a = accepted n loads was e in
      let same : listing choice loads n ≡ chosen choice (ranking every_pad loads n was).left =
      short_list loads choice n a.finite (omega (arith, a.loads_length))
      ∙ ap (λ (o : Call ℕ (List ℕ)). chosen choice o.left) (sym (ranking_all n loads was e)) in
      ranking_accepted choice n loads was e
      ∙ ap (λ (ranks : List ℕ). record { answer = done (length ranks); left = padded n ranks }) same
