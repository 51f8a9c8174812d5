-- Adding does not read what follows the last pair: two swap stores that agree on their pairs give the same answer and the same factors, and agree on the pairs
-- of the new record; what follows those stays as it was. By the two ends of the call. Assumes nothing.
use mathlib.Core.Path.{◌≡◌, refl}
use mathlib.Core.List.{List}
use Prim.Native.Nat.{ℕ, ◌*◌, ◌≤◌}
use lib.Dec.{eqb}
use lib.ListN.{get_or}
use Rattle.numbers.specs.Column.{Column}
use Rattle.finite.specs.Finite.{all_finite}
use Rattle.store.specs.Steps.{column}
use Rattle.refusals.specs.Outcome.{tested, leaving}
use Rattle.refusals.proofs.Outcomes.{tested_cases}
use Rattle.numbers.proofs.Choice.{cond_cases, cond_both}
use Rattle.factors.specs.declared.Record.{Record}
use Rattle.factors.specs.Factors.{Factors, slices, Factoring, record_after}
use Rattle.factors.proofs.Unread.{SamePairs, swaps_unread, held_unread, written_behind, written_alike}
use Rattle.elimination.specs.Adding.{add_column}
use Rattle.adding.specs.Adding.{adding_asks, older_in, adding_refusal, older_factors, adding_settled, adding, adding_answer}

-- the same answer, the same factors, and stores that agree on the pairs of the record that is left
pub record Unread (r : Record) (a b : Factoring) : Type 0 where
  pub answer : a.answer ≡ b.answer
  pub factors : a.left.factors ≡ b.left.factors
  pub pairs : SamePairs (record_after r a.answer).pairs a.left.store b.left.store

module _ (r : Record) (s c : Column) (a b : List ℕ) (alike : SamePairs r.pairs a b) where
  refusal_unread : adding_refusal s c a r ≡ adding_refusal s c b r
  unfolding adding_refusal
  refusal_unread = held_unread r a b alike (older_in s r) (adding_asks s c r)

  factors_unread : older_factors s a r ≡ older_factors s b r
  factors_unread = rw (swaps_unread r a b alike)

  leaving_unread : (number : ℕ) → Unread r (leaving (slices s a) number) (leaving (slices s b) number)
  unfolding record_after
  leaving_unread number = record { answer = refl; factors = refl; pairs = alike }

  settled_unread : (g : Factors) → Unread r (adding_settled s a r g) (adding_settled s b r g)
  unfolding adding_settled record_after
  settled_unread g =
      cond_both (Unread r) (all_finite (column g.columns r.columns))
      (λ t. record { answer = refl; factors = refl; pairs = written_alike g.swaps a b alike.long })
      (λ t. record { answer = refl; factors = refl; pairs = alike })

  -- THEOREM. Two swap stores that agree on their pairs give the same answer and the same factors, and agree on the pairs of the record that is left.
  pub adding_unread : Unread r (adding s c a r) (adding s c b r)
  unfolding adding tested
  adding_unread =
      rw (refusal_unread, factors_unread)
      (cond_both (Unread r) (eqb (adding_refusal s c b r) 0)
      (λ t. settled_unread (add_column r.rows (older_factors s b r) c)) (λ t. leaving_unread (adding_refusal s c b r)))

  -- the same with the column's own toss-up
  pub answer_unread : adding_answer s c a r ≡ adding_answer s c b r
  unfolding adding_answer
  answer_unread = rw (factors_unread, adding_unread.answer)

-- THEOREM. What follows the pairs of the record that is left stays as it was.
pub adding_behind : (r : Record) (s c : Column) (store : List ℕ) (k : ℕ) → 2 * (record_after r (adding s c store r).answer).pairs ≤ k
    → get_or (adding s c store r).left.store k 0 ≡ get_or store k 0
unfolding adding adding_settled record_after
adding_behind r s c store k =
    let g = add_column r.rows (older_factors s store r) c in
    tested_cases (adding_refusal s c store r) (leaving (slices s store)) (adding_settled s store r g)
    (λ o. 2 * (record_after r o.answer).pairs ≤ k → get_or o.left.store k 0 ≡ get_or store k 0)
    (λ e. cond_cases (λ (o : Factoring). 2 * (record_after r o.answer).pairs ≤ k → get_or o.left.store k 0 ≡ get_or store k 0)
    (all_finite (column g.columns r.columns)) (λ t h. written_behind g.swaps store k h) (λ t h. refl))
    (λ n h. refl)
