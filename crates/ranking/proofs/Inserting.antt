-- The code of `insert` as the meaning has it: what is left to do at place j, one turn, and the end; and what holds of pads holds of them ranked.
-- By induction on the list. Assumes nothing.
use mathlib.Core.Path.{◌≡◌, refl, ap, ◌∙◌}
use mathlib.Core.Bool.{true, false, cond}
use mathlib.Core.List.{List, [], ◌∷◌, ◌++◌}
use Prim.Native.Nat.{ℕ, zero, suc, ◌+◌, ◌≤◌, ◌<◌}
use native.Mathlib.Nat.{le_of_suc-le-suc, not-suc-le-zero}
use native.Mathlib.Numerals.{add-one}
use native.Mathlib.Omega.{arith}
use borrow.Author.Tests.{eqb-true, eqb-false}
use lib.Dec.{eqb}
use lib.ListN.{length, get_or, set, take, drop, length-set, get_or-append}
use lib.Seq.{get_or-set_same, get_or-set_other}
use Rattle.numbers.specs.Column.{Column}
use Rattle.numbers.proofs.Choice.{test_cases, cond_cases}
use Rattle.ranking.specs.Ranking.{IsPad, ahead, insert_pad, ranked}

-- P holds of each number of the list
abbrev pub Every : (ℕ → Type 0) → List ℕ → Type 0
Every P [] = Unit {0}
Every P (p ∷ ps) = P p × Every P ps

pub every_at : (P : ℕ → Type 0) (s : List ℕ) (i : ℕ) → Every P s → i < length s → P (get_or s i 0)
every_at P [] i f h = absurd (not-suc-le-zero h)
every_at P (p ∷ ps) zero f h = f.0
every_at P (p ∷ ps) (suc i) f h = every_at P ps i f.1 (le_of_suc-le-suc h)

-- also where more stands behind the list
pub every_in_front : (P : ℕ → Type 0) (s behind : List ℕ) (i : ℕ) → Every P s → i < length s → P (get_or (s ++ behind) i 0)
every_in_front P s behind i f h = rw (get_or-append s behind 0 i h) (every_at P s i f h)

-- a place that is written takes what holds of the others
pub set_every : (P : ℕ → Type 0) (s : List ℕ) (j p k : ℕ) → k ≤ length s → P p → ((i : ℕ) → i < k → P (get_or s i 0)) → (i : ℕ) → i < k
    → P (get_or (set s j p) i 0)
set_every P s j p k l h f i hi =
    test_cases (eqb i j)
    (λ e. let d = eqb-true i j e in rw (← d, get_or-set_same s i p 0 (omega arith)) h)
    (λ e. rw (get_or-set_other s j i p 0 (eqb-false i j e)) (f i hi))

module _ (loads : Column) where
  -- the pad in hand is put among the places j to k - 1, and what is carried on at last goes to place k
  unfoldable pub push_from : ℕ → ℕ → ℕ → List ℕ → List ℕ
  push_from pad j k [] = []
  push_from pad zero zero (q ∷ qs) = pad ∷ qs
  push_from pad zero (suc k) (q ∷ qs) = cond (ahead loads pad q) (pad ∷ push_from q zero k qs) (q ∷ push_from pad zero k qs)
  push_from pad (suc j) zero (q ∷ qs) = q ∷ qs
  push_from pad (suc j) (suc k) (q ∷ qs) = q ∷ push_from pad j k qs

  moves_suc : (pad j k : ℕ) (s : List ℕ) → j < k → k < length s → ahead loads pad (get_or s j 0) ≡ true
      → push_from (get_or s j 0) (suc j) k (set s j pad) ≡ push_from pad j k s
  unfolding push_from
  moves_suc pad j k [] h l e = absurd (not-suc-le-zero l)
  moves_suc pad j zero (q ∷ qs) h l e = absurd (not-suc-le-zero h)
  moves_suc pad zero (suc k) (q ∷ qs) h l e = rw e
  moves_suc pad (suc j) (suc k) (q ∷ qs) h l e = ap (λ (t : List ℕ). q ∷ t) (moves_suc pad j k qs (le_of_suc-le-suc h) (le_of_suc-le-suc l) e)

  stays_suc : (pad j k : ℕ) (s : List ℕ) → j < k → k < length s → ahead loads pad (get_or s j 0) ≡ false → push_from pad (suc j) k s ≡ push_from pad j k s
  unfolding push_from
  stays_suc pad j k [] h l e = absurd (not-suc-le-zero l)
  stays_suc pad j zero (q ∷ qs) h l e = absurd (not-suc-le-zero h)
  stays_suc pad zero (suc k) (q ∷ qs) h l e = rw e
  stays_suc pad (suc j) (suc k) (q ∷ qs) h l e = ap (λ (t : List ℕ). q ∷ t) (stays_suc pad j k qs (le_of_suc-le-suc h) (le_of_suc-le-suc l) e)

  -- one turn, by the outcome of its test
  pub push_moves : (pad j k : ℕ) (s : List ℕ) → j < k → k < length s → ahead loads pad (get_or s j 0) ≡ true
      → push_from (get_or s j 0) (j + 1) k (set s j pad) ≡ push_from pad j k s
  push_moves pad j k s h l e = rw add-one (moves_suc pad j k s h l e)

  pub push_stays : (pad j k : ℕ) (s : List ℕ) → j < k → k < length s → ahead loads pad (get_or s j 0) ≡ false → push_from pad (j + 1) k s ≡ push_from pad j k s
  push_stays pad j k s h l e = rw add-one (stays_suc pad j k s h l e)

  pub push_end : (pad j k : ℕ) (s : List ℕ) → j ≡ k → k < length s → set s k pad ≡ push_from pad j k s
  unfolding push_from
  push_end pad j k [] e l = absurd (not-suc-le-zero l)
  push_end pad zero zero (q ∷ qs) e l = refl
  push_end pad zero (suc k) (q ∷ qs) e l = absurd (omega (arith, e))
  push_end pad (suc j) zero (q ∷ qs) e l = absurd (omega (arith, e))
  push_end pad (suc j) (suc k) (q ∷ qs) e l = ap (λ (t : List ℕ). q ∷ t) (push_end pad j k qs (omega (arith, e)) (le_of_suc-le-suc l))

  push_suc : (pad k : ℕ) (s : List ℕ) → k < length s → push_from pad 0 k s ≡ insert_pad loads pad (take k s) ++ drop (suc k) s
  unfolding push_from insert_pad
  push_suc pad k [] l = absurd (not-suc-le-zero l)
  push_suc pad zero (q ∷ qs) l = refl
  push_suc pad (suc k) (q ∷ qs) l =
      test_cases (ahead loads pad q)
      (λ e. rw e (ap (λ (t : List ℕ). pad ∷ t) (push_suc q k qs (le_of_suc-le-suc l))))
      (λ e. rw e (ap (λ (t : List ℕ). q ∷ t) (push_suc pad k qs (le_of_suc-le-suc l))))

  -- the whole of it
  pub push_whole : (pad k : ℕ) (s : List ℕ) → k < length s → push_from pad 0 k s ≡ insert_pad loads pad (take k s) ++ drop (k + 1) s
  push_whole pad k s l = rw add-one (push_suc pad k s l)

  -- the loop of `insert` at place j: what is left to do gives the whole, and the pad in hand and those before k are pads
  pub record Pushing (new : ℕ) (was : List ℕ) (k : ℕ) (s : List ℕ) (pad j : ℕ) : Type 0 where
    pub size : length s ≡ length was
    pub place : j ≤ k
    pub left : push_from pad j k s ≡ push_from new 0 k was
    pub in_hand : IsPad (length loads) pad
    pub held : (i : ℕ) → i < k → IsPad (length loads) (get_or s i 0)

  pub turn_moves : (new : ℕ) (was : List ℕ) (k : ℕ) (s : List ℕ) (pad j : ℕ) → Pushing new was k s pad j → k < length was → j < k
      → ahead loads pad (get_or s j 0) ≡ true → Pushing new was k (set s j pad) (get_or s j 0) (j + 1)
  turn_moves new was k s pad j p l h e =
      let ls : k < length s = rw p.size l in
      record {
        size = simp length-set p.size;
        place = omega arith;
        left = push_moves pad j k s h ls e ∙ p.left;
        in_hand = p.held j h;
        held = set_every (IsPad (length loads)) s j pad k (omega arith) p.in_hand p.held;
      }

  pub turn_stays : (new : ℕ) (was : List ℕ) (k : ℕ) (s : List ℕ) (pad j : ℕ) → Pushing new was k s pad j → k < length was → j < k
      → ahead loads pad (get_or s j 0) ≡ false → Pushing new was k s pad (j + 1)
  turn_stays new was k s pad j p l h e =
      let ls : k < length s = rw p.size l in
      record { size = p.size; place = omega arith; left = push_stays pad j k s h ls e ∙ p.left; in_hand = p.in_hand; held = p.held }

  pub turns_end : (new : ℕ) (was : List ℕ) (k : ℕ) (s : List ℕ) (pad j : ℕ) → Pushing new was k s pad j → k < length was → k ≤ j
      → set s k pad ≡ insert_pad loads new (take k was) ++ drop (k + 1) was
  turns_end new was k s pad j p l h =
      let d : j ≡ k = omega (arith, p.place) in
      push_end pad j k s d (rw p.size l) ∙ p.left ∙ push_whole new k was l

  -- what holds of the pads and of the new one holds of them together
  pub insert_every : (P : ℕ → Type 0) (p : ℕ) (s : List ℕ) → P p → Every P s → Every P (insert_pad loads p s)
  unfolding insert_pad
  insert_every P p [] h f = (h, tt)
  insert_every P p (q ∷ qs) h f =
      cond_cases (Every P) (ahead loads p q) (λ e. (h, insert_every P q qs f.0 f.1)) (λ e. (f.0, insert_every P p qs h f.1))

  pub length_insert : (p : ℕ) (s : List ℕ) → length (insert_pad loads p s) ≡ suc (length s)
  unfolding insert_pad
  length_insert p [] = refl
  length_insert p (q ∷ qs) =
      cond_cases (λ (t : List ℕ). length t ≡ suc (suc (length qs))) (ahead loads p q) (λ e. ap suc (length_insert q qs)) (λ e. ap suc (length_insert p qs))

  pub length_ranked : (s : List ℕ) → length (ranked loads s) ≡ length s
  unfolding ranked
  length_ranked [] = refl
  length_ranked (p ∷ s) = length_insert p (ranked loads s) ∙ ap suc (length_ranked s)

  -- what holds of each pad of a list holds of each where they are ranked
  pub ranked_every : (P : ℕ → Type 0) (s : List ℕ) → Every P s → Every P (ranked loads s)
  unfolding ranked
  ranked_every P [] f = tt
  ranked_every P (p ∷ s) f = insert_every P p (ranked loads s) f.0 (ranked_every P s f.1)
