-- The whole answer as the code puts it together: the factors, then the loads and their ranks. By the case of the outcome.
-- Assumes nothing.
use mathlib.Core.Path.{◌≡◌, refl, sym, ap, ◌∙◌}
use mathlib.Core.Bool.{true, false}
use mathlib.Core.List.{List, ◌++◌}
use Prim.Native.Nat.{ℕ, ◌≤◌}
use native.Mathlib.Omega.{arith}
use lib.ListN.{length, take, drop}
use lib.Seq.{length-take-le}
use Rattle.numbers.specs.Column.{Column}
use Rattle.finite.specs.Finite.{all_finite}
use Rattle.std.proofs.Common.{Result, Err}
use Rattle.std.specs.Result.{IsErrAnd}
use Rattle.refusals.specs.declared.Refusal.{Refusal}
use Rattle.refusals.specs.Outcome.{Outcome, done, refused, number, and_then, Call}
use Rattle.refusals.proofs.Outcomes.{handed_on}
use Rattle.ranking.specs.Ranking.{every_pad, ranked, pads_to, ranking}
use Rattle.ranking.proofs.Calls.{not_refused, listing_all, ranking_all}
use Rattle.factors.specs.declared.Record.{Record}
use Rattle.panel_file.specs.File.{pads_of, readings_of}
use Rattle.refusals.proofs.Cases.{never_both, then_done, then_refused}
use Rattle.crossing.specs.Below.{Packed, packed_in, solution_by, solution_in}
use Rattle.crossing.specs.Factors.{factors_in, toss_ups_in, loads_of, fronted}
use Rattle.crossing.proofs.Loads.{front_done}
use Rattle.crossing_pads.specs.declared.Order.{Order}
use Rattle.crossing_pads.specs.Ordering.{ranks_left, ordering, pads_ordered}

-- ---- the ranking of finite loads, all pads listed

-- what the call leaves of the ranks
abbrev pub ranks_by : ℕ → Column → List ℕ → List ℕ
ranks_by n x was = (ranking every_pad x n was).left

pub ranks_made : (n : ℕ) (x : Column) (was : List ℕ) → 1 ≤ n → n ≤ 64 → length x ≡ n → length was ≡ n → all_finite x ≡ true
    → ranks_by n x was ≡ ranked x (pads_to n)
ranks_made n x was lo hi lx lr finite =
    ap (λ (o : Call ℕ (List ℕ)). o.left)
    (ranking_all n x was
    (not_refused n x was
    (record { size = record { at_least = lo; at_most = hi }; loads_length = lx; ranks_length = lr; finite = finite })))
    ∙ listing_all n x

-- ---- what a solve answers, with the number of pads and of toss-ups in place of nothing: o is what it came to

abbrev pub bare : Outcome Column → Outcome (Unit {0})
bare o = and_then o (λ _. done tt)

module _ (o : Outcome Column) (n tossed : ℕ) where
  abbrev pub counted : Outcome (ℕ × ℕ)
  counted = and_then o (λ _. done (n, tossed))

  pub told_done : done tt ≡ bare o → done (n, tossed) ≡ counted
  told_done e = then_done o (λ _. done tt) tt (sym e) (λ x d _. rw d refl)

  pub not_solved : (r : Refusal) → refused (number r) ≡ bare o → o ≡ refused (number r)
  not_solved r e = then_refused o (λ _. done tt) (number r) (sym e) (λ d. d) (λ _ _ f. never_both tt (number r) f)

  pub told_refused : (r : Refusal) (answer : Result Order Refusal) → refused (number r) ≡ bare o → IsErrAnd answer (λ e. e ≡ r)
      → pads_ordered answer ≡ counted
  told_refused r answer e h = rw (handed_on r answer h, not_solved r e) refl

-- ---- solving, then ranking: o is what the solve came to, of n pads

module _ (n : ℕ) (o : Outcome Column) where
  -- an accepted solve, with `now` in the slice for it: the solution stands in front
  pub record Solved (now : Column) : Type 0 where
    pub x : Column
    pub is : o ≡ done x
    pub size : length x ≡ n
    pub front : take n now ≡ x

  pub solved : (was now : Column) → done tt ≡ bare o → now ≡ fronted n o was → n ≤ length was → length now ≡ length was → Solved now
  solved was now e f h l =
      then_done o (λ _. done tt) tt (sym e) (λ x d _. let q = front_done n o x was now d f h l in record { x = x; is = d; size = q.0; front = q.1 })

  pub ranked_left : (now : Column) → Solved now → ((x : Column) → o ≡ done x → all_finite x ≡ true) → 1 ≤ n → n ≤ 64 → (ranks r : List ℕ)
      → length ranks ≡ 64 → r ≡ ranks_by n (take n now) (take n ranks) → r ++ drop n ranks ≡ ranks_left n o ranks
  unfolding ranks_left
  ranked_left now s finite lo hi ranks r l f =
      let fits : n ≤ length ranks = omega arith in
      let made : r ≡ ranked s.x (pads_to n) =
      f ∙ ap (λ (t : Column). ranks_by n t (take n ranks)) s.front
      ∙ ranks_made n s.x (take n ranks) lo hi s.size (length-take-le n ranks fits) (finite s.x s.is) in
      (λ i. made i ++ drop n ranks) ∙ ap (λ (p : Outcome Column). ranks_left n p ranks) (sym s.is)

pub ranks_kept : (n : ℕ) (o : Outcome Column) (k : ℕ) (ranks : List ℕ) → o ≡ refused k → ranks ≡ ranks_left n o ranks
unfolding ranks_left
ranks_kept n o k ranks e = ap (λ (p : Outcome Column). ranks_left n p ranks) (sym e)

-- ---- a file

module _ (bytes : List ℕ) where
  abbrev n : ℕ
  n = pads_of bytes

  module _ (ranks : List ℕ) (loads : Column) where
    pub ordering_held : (told : Record) (M R : Column) (S : List ℕ) → factors_in bytes ≡ done (packed_in M S told) → told.rows ≡ n
        → take told.rows R ≡ readings_of n bytes
        → (tossed : ℕ) → tossed ≡ toss_ups_in bytes → (answer : Result Order Refusal) (r : List ℕ) (x : Column)
        → pads_ordered answer ≡ and_then (solution_in false M S told R) (λ _. done (told.rows, tossed))
        → r ≡ ranks_left told.rows (solution_in false M S told R) ranks → x ≡ fronted told.rows (solution_in false M S told R) loads
        → (pads_ordered answer ≡ (ordering bytes ranks loads).answer)
        × ((r ≡ (ordering bytes ranks loads).left.ranks) × (x ≡ (ordering bytes ranks loads).left.loads))
    unfolding ordering loads_of
    ordering_held told M R S e d b tossed t answer r x p q f =
        let same : solution_in false M S told R ≡ loads_of bytes =
        ap (solution_by false (packed_in M S told)) b ∙ ap (λ (o : Outcome Packed). and_then o (λ f. solution_by false f (readings_of n bytes))) (sym e) in
        (p ∙ (λ i. and_then (same i) (λ _. done (d i, t i))), (q ∙ (λ i. ranks_left (d i) (same i) ranks), f ∙ (λ i. fronted (d i) (same i) loads)))

    pub ordering_refused : (r : Refusal) (m : ℕ) (answer : Result Order Refusal) (x : Column) → factors_in bytes ≡ refused (number r) → m ≡ n
        → answer ≡ Err r → x ≡ fronted m (refused (number r)) loads
        → (pads_ordered answer ≡ (ordering bytes ranks loads).answer)
        × ((ranks ≡ (ordering bytes ranks loads).left.ranks) × (x ≡ (ordering bytes ranks loads).left.loads))
    unfolding ordering loads_of ranks_left
    ordering_refused r m answer x e d a f =
        let same : refused (number r) ≡ loads_of bytes = ap (λ (o : Outcome Packed). and_then o (λ f. solution_by false f (readings_of n bytes))) (sym e) in (
          ap pads_ordered a ∙ ap (λ (o : Outcome Column). and_then o (λ _. done (n, toss_ups_in bytes))) same,
          (ap (λ (o : Outcome Column). ranks_left n o ranks) same, f ∙ (λ i. fronted (d i) (same i) loads)),
        )
