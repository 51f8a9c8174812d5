-- Document 02, request 12, of the calls' own outcomes. In an accepted factoring, and in whatever adding and taking off led to, each multiplier is at most
-- 1 whose pivot is at most 2 ^ 1022. By what stands below the diagonal (`eliminate_below`), the bound on one multiplier (`multiplier_bound`), and demand 3
-- (`reached`). Assumes nothing.
use mathlib.Core.Path.{◌≡◌, refl, ap, ◌∙◌, subst}
use mathlib.Core.Bool.{true, false}
use mathlib.Core.List.{List, ◌++◌}
use Prim.Native.Nat.{ℕ, ◌+◌, ◌-◌, ◌*◌, ◌^◌, ◌≤◌, ◌<◌, min}
use native.Mathlib.Nat.{le_trans, mul-le-mul_left}
use native.Mathlib.Omega.{arith}
use lib.Pow.{pow_mono}
use lib.ListN.{length, take, replicate, length-replicate}
use lib.Dec.{T}
use lib.Ieee.{binary64, fits}
use lib.Ieee.Scale.{finite}
use Rattle.numbers.specs.Column.{Column, zeros}
use Rattle.numbers.proofs.Smaller.{smaller}
use Rattle.finite.proofs.Finite.{finite_entry}
use Rattle.store.specs.Columns.{columns, HasRows}
use Rattle.store.specs.Steps.{Matrix, column}
use Rattle.store.proofs.Columns.{length_columns}
use Rattle.store.proofs.Lasting.{column_finite}
use Rattle.std.proofs.Common.{Ok}
use Rattle.refusals.specs.Outcome.{done}
use Rattle.factors.specs.declared.Record.{Record}
use Rattle.factors.specs.Factors.{Factoring}
use Rattle.elimination.specs.Elimination.{eliminate}
use Rattle.elimination.specs.Reason.{finite_in}
use Rattle.elimination.specs.TossUps.{toss_ups}
use Rattle.elimination.proofs.Step.{length_eliminate, rows_eliminate}
use Rattle.lu.specs.declared.Factored.{Factored}
use Rattle.lu.specs.Factoring.{factoring, factoring_answer}
use Rattle.lu.proofs.Told.{told_accepted, Promise}
use Rattle.lu.proofs.Shape.{shape}
use Rattle.adding.specs.Adding.{adding}
use Rattle.adding.proofs.Afresh.{accepted_given}
use Rattle.building_up.proofs.Build.{outcome_at}
use Rattle.columns.proofs.Reach.{Reached, fresh, added, reached}
use Rattle.from_factors.proofs.Accepted.{accepted_columns}
use Rattle.units.specs.Units.{AtMost, one_units, most_units}
use Rattle.units.proofs.Units.{at_most_smaller, smaller_at_most}
use Rattle.units.proofs.Rounded.{at_most_more}
use Rattle.units.proofs.Bound.{one}
use Rattle.units.proofs.Edge.{one_units_lem, largest, largest_units}
use Rattle.multipliers.specs.Multipliers.{at, WithinOne, MultipliersWithinOne, ZeroBelow, Roomy, GrownAtMost}
use Rattle.multipliers.proofs.Below.{eliminate_below}
use Rattle.multipliers.proofs.Bounded.{bounded, zero_below}
use Rattle.multipliers.proofs.Growth.{eliminate_growth}

-- ---- the elimination
module _ (m : ℕ) (a : Matrix) (rows : HasRows m a) (ok : finite_in (eliminate m a) ≡ true) where
  abbrev cs : Matrix
  cs = (eliminate m a).columns

  finite_at : (j r : ℕ) → j < length a → r < m → finite (at cs r j) ≡ true
  finite_at j r ja rm =
      let wide : j < length cs = rw (length_eliminate m a) ja in
      finite_entry (column cs j) r (column_finite cs ok j) (rw (rows_eliminate m a rows j wide) rm)

  pub eliminate_within : WithinOne most_units m (length a) cs
  eliminate_within j r ja jr rm = bounded (at cs j j) (at cs r j) (eliminate_below m a rows ok j r (omega arith) jr rm) (finite_at j r ja rm)

  pub eliminate_skipped : ZeroBelow m (length a) cs
  eliminate_skipped j r ja jr rm = zero_below (at cs j j) (at cs r j) (eliminate_below m a rows ok j r (omega arith) jr rm)

-- ---- the calls
module _ (m n : ℕ) (a out : Column) (store : List ℕ) (told : Record) (ok : (factoring a m n out store).answer ≡ done told) where
  abbrev b : Matrix
  b = columns m n a

  -- what holds of the elimination's columns holds of those that the call left
  of_call : (P : ℕ → Matrix → Type 0) → (HasRows m b → finite_in (eliminate m b) ≡ true → P (length b) (eliminate m b).columns)
      → P n (columns m n (factoring a m n out store).left.factors)
  of_call P h =
      let given = accepted_given m n a out store told ok in
      rw (accepted_columns m n a out store told ok)
      (subst (λ (k : ℕ). P k (eliminate m b).columns) (length_columns m n a) (h (shape m n a out store given.none) given.finite))

  -- THEOREM. In every accepted factoring each multiplier formed from a pivot of magnitude at most 2 ^ 1022 has magnitude at most 1.
  pub factored_within_one : MultipliersWithinOne m n (factoring a m n out store)
  factored_within_one = of_call (WithinOne most_units m) (eliminate_within m b)

  -- THEOREM. Where a step was skipped, which leaves a zero on the diagonal, all numbers below it are zero.
  pub factored_skipped : ZeroBelow m n (columns m n (factoring a m n out store).left.factors)
  factored_skipped = of_call (ZeroBelow m) (eliminate_skipped m b)

  -- THEOREM. Of a matrix with room to grow, each number in row r of U is at most 2 ^ r times what no number of the matrix passes.
  pub factored_growth : (units : ℕ) → Roomy units m n b → GrownAtMost units m n (columns m n (factoring a m n out store).left.factors)
  factored_growth units = of_call (λ k cs. Roomy units m k b → GrownAtMost units m k cs) (eliminate_growth m units b)

  -- THEOREM. And every multiplier is within one, since every pivot is at most 2 ^ 1022.
  pub all_within_one : (units : ℕ) → Roomy units m n b → (j r : ℕ) → j < n → j < r → r < m
      → AtMost one_units (at (columns m n (factoring a m n out store).left.factors) r j)
  all_within_one units room j r jn jr rm =
      let steps : j ≤ min m n - 1 = omega arith in
      let rows : j < m = omega arith in
      factored_within_one j r jn jr rm
      (at_most_more (units * 2 ^ j) most_units _ (le_trans (mul-le-mul_left units (pow_mono steps)) room.low)
      (factored_growth units room j j jn rows (omega (arith, steps))))

-- THEOREM. So it is by the contract of `factor`, of `factor_mut` and of `build_up`, which is one: where the answer is accepted, of the slice that is left.
pub promised_within_one : (m n : ℕ) (a out : Column) (store : List ℕ) (made : Factored) (s : Column) (store' : List ℕ)
    → Promise m n a out store (Ok made) s store' → WithinOne most_units m n (columns m n s)
unfolding factoring_answer
promised_within_one m n a out store made s store' kept =
    let took = told_accepted (toss_ups m (columns m n a)) (factoring a m n out store).answer made.told made.toss_ups kept.0 in
    rw kept.1.0 (factored_within_one m n a out store made.told took.0)

-- ---- whatever an accepted factoring and any mix of accepted adding and taking off led to
module _ (m n : ℕ) (a : Column) (r : Record) (o : Factoring) (how : Reached m n a r o) where
  -- what holds of accepted factorings holds of it
  of_reached : (P : Factoring → Type 0) → ((out : Column) (store : List ℕ) → (factoring a m n out store).answer ≡ done r → P (factoring a m n out store)) → P o
  of_reached P h =
      let afresh = reached m n a r o how in
      let is = afresh.1 (zeros (n * m)) (replicate 128 0) (length-replicate (n * m) _) refl in
      subst P is (h (zeros (n * m)) (replicate 128 0) (ap (λ (q : Factoring). q.answer) is ∙ afresh.0))

  -- THEOREM. The same of its multipliers, and of its growth.
  pub reached_within_one : MultipliersWithinOne m n o
  reached_within_one = of_reached (MultipliersWithinOne m n) (λ out store. factored_within_one m n a out store r)

  pub reached_growth : (units : ℕ) → Roomy units m n (columns m n a) → GrownAtMost units m n (columns m n o.left.factors)
  reached_growth units room =
      of_reached (λ q. GrownAtMost units m n (columns m n q.left.factors)) (λ out store ok. factored_growth m n a out store r ok units room)

-- THEOREM. The same of a column that is added to an accepted factoring: of the older columns, whose rows adding may exchange, and of the new one.
pub added_within_one : (m n : ℕ) (a out : Column) (store : List ℕ) (told : Record) → (factoring a m n out store).answer ≡ done told
    → (c z : Column) (next : Record) → length z ≡ m
    → let o = factoring a m n out store in
    let more = adding (o.left.factors ++ z) c o.left.store told in
    more.answer ≡ done next → MultipliersWithinOne m (n + 1) more
added_within_one m n a out store told ok c z next lz good =
    reached_within_one m (n + 1) (a ++ c) next _ (added n a c z told next _ (fresh n a out store told ok) lz good)

-- THEOREM. The same of building up column by column: of what k columns led to, for each k.
pub built_within_one : (m k : ℕ) (a : Column) (told : Record) → (outcome_at m k a).answer ≡ done told → MultipliersWithinOne m k (outcome_at m k a)
built_within_one m k a told = factored_within_one m k (take (k * m) a) (zeros (k * m)) (replicate 128 0) told

-- THEOREM. All of these by the machine's own comparison: where the pivot, a finite double, is not above 2 ^ 1022 in magnitude, no multiplier of its column is
-- above 1.
pub compared : (m n : ℕ) (cs : Matrix) → WithinOne most_units m n cs → (j r : ℕ) → j < n → j < r → r < m → T (fits binary64 (at cs j j))
    → finite (at cs j j) ≡ true → smaller largest (at cs j j) ≡ false → smaller one (at cs r j) ≡ false
compared m n cs within j r jn jr rm double fin low =
    at_most_smaller one_units one (at cs r j) one_units_lem
    (within j r jn jr rm (smaller_at_most most_units largest (at cs j j) largest_units double fin low))
