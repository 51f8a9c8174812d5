-- The loop of `list`: after k pads the first k slots hold the chosen ones of these pads in their order and 0 behind them. A slot that becomes 0, a pad
-- that is not chosen, and one that is put among the others. By the parts of the list. Assumes nothing.
use mathlib.Core.Path.{◌≡◌, refl, sym, ap, ap₂, ◌∙◌}
use mathlib.Core.Bool.{true, false}
use mathlib.Core.List.{List, [], ◌∷◌, ◌++◌, append_assoc}
use Prim.Native.Nat.{ℕ, zero, suc, ◌+◌, ◌-◌, ◌≤◌, ◌<◌}
use native.Mathlib.Numerals.{add-one}
use native.Mathlib.Omega.{arith}
use lib.ListN.{length, get_or, set, take, drop, replicate, length-append, length-replicate, length-set, length-take, length-drop}
use lib.Seq.{drop-cons, set_at, take_at, drop_at, drop-drop}
use Rattle.numbers.specs.Column.{Column}
use Rattle.numbers.proofs.Choice.{cond_cases}
use Rattle.ranking.specs.Ranking.{IsPad, Choice, insert_pad, ranked, pads_to, chosen, listing}
use Rattle.ranking.proofs.Inserting.{Every, every_in_front, length_insert, ranked_every}

-- ---- the chosen pads
module _ (choice : Choice) where
  -- what holds of each number of a list holds of those that are chosen
  pub chosen_every : (P : ℕ → Type 0) (s : List ℕ) → Every P s → Every P (chosen choice s)
  unfolding chosen
  chosen_every P [] f = tt
  chosen_every P (p ∷ s) f = cond_cases (Every P) (choice p) (λ _. (f.0, chosen_every P s f.1)) (λ _. chosen_every P s f.1)

pub length_pads : (n : ℕ) → length (pads_to n) ≡ n
unfolding pads_to
length_pads zero = refl
length_pads (suc n) = ap suc (length_pads n)

pub pads_every : (m n : ℕ) → n ≤ m → Every (IsPad m) (pads_to n)
unfolding pads_to
pads_every m zero h = tt
pads_every m (suc n) h = ((omega arith, h), pads_every m n (omega arith))

-- one 0 more in front
zero_more : (a : ℕ) (s : List ℕ) → replicate a 0 ++ 0 ∷ s ≡ replicate (suc a) 0 ++ s
zero_more zero s = refl
zero_more (suc a) s = ap (λ (t : List ℕ). 0 ∷ t) (zero_more a s)

module _ (choice : Choice) (loads : Column) where
  -- only pads are listed
  pub listing_pads : (m n : ℕ) → n ≤ m → Every (IsPad m) (listing choice loads n)
  unfolding listing
  listing_pads m n h = ranked_every loads (IsPad m) (chosen choice (pads_to n)) (chosen_every choice (IsPad m) (pads_to n) (pads_every m n h))

  -- one pad more, by whether it is chosen
  listing_with : (k : ℕ) → choice (k + 1) ≡ true → listing choice loads (k + 1) ≡ insert_pad loads (k + 1) (listing choice loads k)
  unfolding listing ranked pads_to chosen
  listing_with k e = rw (add-one k, ap choice (sym (add-one k)) ∙ e)

  listing_without : (k : ℕ) → choice (k + 1) ≡ false → listing choice loads (k + 1) ≡ listing choice loads k
  unfolding listing ranked pads_to chosen
  listing_without k e = rw (add-one k, ap choice (sym (add-one k)) ∙ e)

  -- ---- the loop

  -- the slots after k pads
  abbrev pub slots_of : ℕ → ℕ → List ℕ → List ℕ
  slots_of count k was = listing choice loads k ++ (replicate (k - count) 0 ++ drop k was)

  pub record Filling (was s : List ℕ) (count k : ℕ) : Type 0 where
    pub size : length s ≡ length was
    pub few : count ≤ k
    pub counted : count ≡ length (listing choice loads k)
    pub slots : s ≡ slots_of count k was

  -- one slot more becomes 0
  cleared : (was s : List ℕ) (count k : ℕ) → Filling was s count k → k < length was
      → set s k 0 ≡ listing choice loads k ++ (replicate (k + 1 - count) 0 ++ drop (k + 1) was)
  cleared was s count k f h =
      let ranks = listing choice loads k in
      let behind : List ℕ = replicate (k - count) 0 in
      let front : length (ranks ++ behind) ≡ k = omega (arith, length-append ranks behind, length-replicate {A = ℕ} (k - count) 0, f.counted, f.few) in
      let more : suc (k - count) ≡ k + 1 - count = omega (arith, f.few) in
      let next : drop k was ≡ get_or was k 0 ∷ drop (k + 1) was = drop-cons was k 0 h ∙ ap (λ (j : ℕ). get_or was k 0 ∷ drop j was) (sym (add-one k)) in
      ap (λ (t : List ℕ). set t k 0) (f.slots ∙ ap (λ (t : List ℕ). ranks ++ (behind ++ t)) next ∙ sym (append_assoc ranks behind _))
      ∙ set_at (ranks ++ behind) (get_or was k 0) (drop (k + 1) was) 0 k front
      ∙ append_assoc ranks behind _
      ∙ ap (λ (t : List ℕ). ranks ++ t) (zero_more (k - count) (drop (k + 1) was) ∙ ap (λ (j : ℕ). replicate j 0 ++ drop (k + 1) was) more)

  -- the pads before it stand in the slots up to `count`
  pub held_pads : (was s : List ℕ) (count k : ℕ) → Filling was s count k → k < length was → k ≤ length loads
      → (i : ℕ) → i < count → IsPad (length loads) (get_or (set s k 0) i 0)
  held_pads was s count k f h l i hi =
      rw (cleared was s count k f h)
      (every_in_front (IsPad (length loads)) (listing choice loads k) _ i (listing_pads (length loads) k l) (omega (arith, f.counted)))

  pub turn_without : (was s : List ℕ) (count k : ℕ) → Filling was s count k → k < length was → choice (k + 1) ≡ false
      → Filling was (set s k 0) count (k + 1)
  turn_without was s count k f h e =
      let same = listing_without k e in
      record {
        size = simp length-set f.size;
        few = omega (arith, f.few);
        counted = f.counted ∙ ap length (sym same);
        slots = cleared was s count k f h ∙ ap (λ (t : List ℕ). t ++ (replicate (k + 1 - count) 0 ++ drop (k + 1) was)) (sym same);
      }

  pub turn_with : (was s new : List ℕ) (count k : ℕ) → Filling was s count k → k < length was → choice (k + 1) ≡ true
      → new ≡ insert_pad loads (k + 1) (take count (set s k 0)) ++ drop (count + 1) (set s k 0) → Filling was new (count + 1) (k + 1)
  turn_with was s new count k f h e d =
      let more = listing_with k e in
      let ranks = listing choice loads k in
      let is = cleared was s count k f h in
      let rest : List ℕ = replicate (k + 1 - count) 0 ++ drop (k + 1) was in
      let front : take count (set s k 0) ≡ ranks = ap (take count) is ∙ take_at ranks rest count (sym f.counted) in
      let one : k + 1 - count ≡ suc (k + 1 - (count + 1)) = omega (arith, f.few) in
      let back : drop (count + 1) (set s k 0) ≡ replicate (k + 1 - (count + 1)) 0 ++ drop (k + 1) was =
      sym (drop-drop 1 count (set s k 0)) ∙ ap (λ (t : List ℕ). drop 1 (drop count t)) is ∙ ap (drop 1) (drop_at ranks rest count (sym f.counted))
      ∙ ap (λ (j : ℕ). drop 1 (replicate j 0 ++ drop (k + 1) was)) one in
      record {
        size =
            ap length d ∙ length-append (insert_pad loads (k + 1) (take count (set s k 0))) _
            ∙ simp (length_insert, length-take, length-drop, length-set) (omega (arith, f.size, f.few));
        few = omega (arith, f.few);
        counted = omega (arith, f.counted, ap length more, length_insert loads (k + 1) ranks);
        slots = d ∙ ap₂ (λ (a b : List ℕ). a ++ b) (ap (insert_pad loads (k + 1)) front ∙ sym more) back;
      }

  -- before the first pad
  pub filling_begins : (was : List ℕ) → Filling was was 0 0
  unfolding listing ranked pads_to chosen
  filling_begins was = record { size = refl; few = omega arith; counted = refl; slots = refl }
