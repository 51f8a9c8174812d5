-- DEMAND 3, any number of times. Whatever was reached by an accepted factoring and any mix of accepted adding and removing is what factoring its columns
-- afresh gives. By induction on how it was reached (`adding_afresh`, `removing_afresh`). Assumes nothing.
use mathlib.Core.Path.{◌≡◌, refl, sym, ap, ◌∙◌}
use mathlib.Core.List.{List, ◌++◌}
use Prim.Native.Nat.{ℕ, ◌+◌, ◌*◌}
use lib.ListN.{length, take, replicate, length-replicate}
use Rattle.numbers.specs.Column.{Column, zeros}
use Rattle.refusals.specs.Outcome.{done, number_of}
use Rattle.factors.specs.declared.Record.{Record}
use Rattle.factors.specs.Factors.{Factoring}
use Rattle.lu.specs.Factoring.{factoring}
use Rattle.adding.specs.Adding.{adding}
use Rattle.adding.proofs.Afresh.{adding_afresh}
use Rattle.adding.proofs.Front.{same_outcome}
use Rattle.removing.specs.Removing.{removing}
use Rattle.columns.proofs.Restored.{slot_off, removing_reaches}

-- What was reached, with its record, the matrix in the slice a having n columns of m entries: by an accepted factoring, by adding one more column to what
-- was reached before, where that was accepted, or by taking the last column off, the zero slot left aside.
pub data Reached (m : ℕ) : ℕ → Column → Record → Factoring → Type 0 where
  fresh : (n : ℕ) (a out : Column) (store : List ℕ) (r : Record) → (factoring a m n out store).answer ≡ done r → Reached m n a r (factoring a m n out store)
  added : (n : ℕ) (a c z : Column) (r next : Record) (o : Factoring) → Reached m n a r o → length z ≡ m
      → (adding (o.left.factors ++ z) c o.left.store r).answer ≡ done next
      → Reached m (n + 1) (a ++ c) next (adding (o.left.factors ++ z) c o.left.store r)
  removed : (n : ℕ) (a : Column) (r next : Record) (o : Factoring) → Reached m (n + 1) a r o
      → (removing o.left.factors o.left.store r).answer ≡ done next
      → Reached m n (take (n * m) a) next (slot_off m n (removing o.left.factors o.left.store r))

-- that is what factoring those columns afresh gives, accepted, whatever the slices that it fills held
abbrev pub Afresh : ℕ → ℕ → Column → Record → Factoring → Type 0
Afresh m n a r o = (o.answer ≡ done r) × ((out : Column) (store : List ℕ) → length out ≡ n * m → length store ≡ 128 → factoring a m n out store ≡ o)

zeros_long : (k : ℕ) → length (zeros k) ≡ k
zeros_long k = length-replicate k _

-- from stores of zeros
from_zeros : (m n : ℕ) (a : Column) (r : Record) (o : Factoring) → Afresh m n a r o → factoring a m n (zeros (n * m)) (replicate 128 0) ≡ o
from_zeros m n a r o h = h.1 (zeros (n * m)) (replicate 128 0) (zeros_long (n * m)) refl

-- ---- one column more, of what is afresh
module _ (m n : ℕ) (a c z : Column) (r : Record) (o : Factoring) (h : Afresh m n a r o) (lz : length z ≡ m) where
  abbrev more : Factoring
  more = adding (o.left.factors ++ z) c o.left.store r

  pub adding_from : (out : Column) (store : List ℕ) → length out ≡ (n + 1) * m → length store ≡ 128
      → let fresh' = factoring (a ++ c) m (n + 1) out store in (more.answer ≡ fresh'.answer) × (number_of fresh'.answer ≡ 0 → more ≡ fresh')
  adding_from out store lo ls =
      let is = from_zeros m n a r o h in
      let yes : (factoring a m n (zeros (n * m)) (replicate 128 0)).answer ≡ done r = ap (λ (q : Factoring). q.answer) is ∙ h.0 in
      rw is at (adding_afresh m n a (zeros (n * m)) (replicate 128 0) r yes c z out store lz lo ls)

-- THEOREM. What was reached is what factoring those columns afresh gives: accepted, and the same record, factors and swap store.
pub reached : (m n : ℕ) (a : Column) (r : Record) (o : Factoring) → Reached m n a r o → Afresh m n a r o
reached m n a r o (fresh n' a' out₀ store₀ r' good) = (good, λ out store lo ls. same_outcome m n a out₀ store₀ (ap number_of good) out store lo ls)
reached m k b r o (added n a c z was next p how lz good) =
    let before = reached m n a was p how in (
      good,
      λ out store lo ls.
          let both = adding_from m n a c z was p before lz out store lo ls in
          sym (both.1 (ap number_of (sym both.0 ∙ good))),
    )
reached m k b r o (removed n a was next p how good) =
    let before = reached m (n + 1) a was p how in
    let is = from_zeros m (n + 1) a was p before in
    let yes : (factoring a m (n + 1) (zeros ((n + 1) * m)) (replicate 128 0)).answer ≡ done was = ap (λ (q : Factoring). q.answer) is ∙ before.0 in
    let left : (out : Column) (store : List ℕ) → length out ≡ n * m → length store ≡ 128
    → (number_of (factoring (take (n * m) a) m n out store).answer ≡ 0)
    × (slot_off m n (removing p.left.factors p.left.store was) ≡ factoring (take (n * m) a) m n out store) =
    λ out store lo ls. rw is at (removing_reaches m n a (zeros ((n + 1) * m)) (replicate 128 0) was yes out store lo ls) in
    (good, λ out store lo ls. sym (left out store lo ls).1)

-- THEOREM. So adding any column to what was reached, however it was added to and taken from, answers what factoring the widened matrix afresh answers, the
-- refusals too, and where that is accepted leaves the same.
pub adding_reached : (m n : ℕ) (a c z : Column) (r : Record) (o : Factoring) → Reached m n a r o → length z ≡ m
    → (out : Column) (store : List ℕ) → length out ≡ (n + 1) * m → length store ≡ 128
    → let added' = adding (o.left.factors ++ z) c o.left.store r in
    let fresh' = factoring (a ++ c) m (n + 1) out store in
    (added'.answer ≡ fresh'.answer) × (number_of fresh'.answer ≡ 0 → added' ≡ fresh')
adding_reached m n a c z r o how lz = adding_from m n a c z r o (reached m n a r o how) lz

-- THEOREM. Taking the last column off what was reached is accepted.
pub removing_reached : (m n : ℕ) (a : Column) (r : Record) (o : Factoring) → Reached m (n + 1) a r o
    → number_of (removing o.left.factors o.left.store r).answer ≡ 0
removing_reached m n a r o how =
    let before = reached m (n + 1) a r o how in
    let is = from_zeros m (n + 1) a r o before in
    let yes : (factoring a m (n + 1) (zeros ((n + 1) * m)) (replicate 128 0)).answer ≡ done r = ap (λ (q : Factoring). q.answer) is ∙ before.0 in
    let left = removing_reaches m n a (zeros ((n + 1) * m)) (replicate 128 0) r yes (zeros (n * m)) (replicate 128 0) (zeros_long (n * m)) refl in
    rw is at (ap (λ (q : Factoring). number_of q.answer) left.1 ∙ left.0)
