-- Building up column by column: after each accepted adding the slices hold the outcome of factoring the front of the matrix, and an adding that is refused
-- means that factoring the whole is. At the level of the calls' outcomes, by `adding_afresh` and `finite_front`. Assumes nothing.
use mathlib.Core.Path.{◌≡◌, refl, sym, ap, ap₂, subst, ◌∙◌}
use mathlib.Core.Bool.{Bool, true, false, cond, false≢true}
use mathlib.Core.List.{List, [], ◌++◌}
use Prim.Native.Nat.{ℕ, ◌+◌, ◌-◌, ◌*◌, ◌≤◌, ◌<◌}
use native.Mathlib.Nat.{suc-mul, zero-mul, min-zero, mul-le-mul_right, add-sub_cancel_left}
use native.Mathlib.Numerals.{add-one}
use native.Mathlib.Omega.{arith}
use lib.ListN.{length, take, drop, replicate, length-replicate, length-drop, take-append-drop}
use lib.Seq.{take-add, take_at, take_all, length-take-le}
use Rattle.numbers.specs.Each.{turns_from}
use Rattle.numbers.specs.Column.{Column, zeros}
use Rattle.finite.specs.Finite.{all_finite}
use Rattle.numbers.proofs.Choice.{test_cases, and_first}
use Rattle.finite.proofs.Finite.{finite_append}
use Rattle.store.specs.Columns.{columns, flat, HasRows}
use Rattle.store.specs.Steps.{Matrix}
use Rattle.store.proofs.Columns.{sized, is_matrix_lem, columns_rows, columns_split}
use Rattle.dead_columns.proofs.Dead.{dead_none}
use Rattle.std.proofs.Common.{Result, Ok, Err}
use Rattle.std.specs.Result.{is_err}
use Rattle.refusals.specs.declared.Refusal.{Refusal}
use Rattle.refusals.specs.declared.Refused.{Refused}
use Rattle.refusals.specs.declared.Refusal.TheVariants.{Overflow}
use Rattle.refusals.specs.Outcome.{done, refused, number, number_of}
use Rattle.refusals.proofs.Cases.{never_both}
use Rattle.factors.specs.declared.Record.{Record}
use Rattle.factors.specs.Factors.{numbers_of, store_of, record_of, record_for, Factoring}
use Rattle.elimination.specs.Elimination.{unfactored, eliminate}
use Rattle.elimination.specs.TossUps.{toss_ups, own_toss_up}
use Rattle.elimination.proofs.Tossing.{toss_most, toss_empty}
use Rattle.lu.specs.declared.Factored.{Factored}
use Rattle.lu.specs.Factoring.{factoring_refusal, accepted_as, settled, factoring, factored, with_toss_ups, factoring_answer}
use Rattle.lu.proofs.Told.{Passed, passed, passes, worked, told_accepted, told_refused, Promise}
use Rattle.lu.proofs.Shape.{factors_of, size_f, accepted_is, settled_number}
use Rattle.adding.specs.Adding.{adding, added, adding_answer}
use Rattle.adding.proofs.Afresh.{accepted_given, adding_afresh}
use Rattle.adding.proofs.Front.{finite_front}
use Rattle.adding.proofs.Tossed.{toss_added}
use Rattle.building_up.specs.Inner.{AllAdded}

-- the outcome of factoring the first k columns of the m by n matrix in the slice a, from stores of zeros
abbrev pub outcome_at : ℕ → ℕ → Column → Factoring
outcome_at m k a = factoring (take (k * m) a) m k (zeros (k * m)) (replicate 128 0)

-- the outcome for k + 1 columns was reached: the record x, the factors at the front of s, the swap store, and own toss-ups more than for k columns
pub record Grown (m k : ℕ) (a : Column) (x : Record) (own : ℕ) (s : Column) (store : List ℕ) : Type 0 where
  pub accepted : (outcome_at m (k + 1) a).answer ≡ done x
  pub front_is : take ((k + 1) * m) s ≡ (outcome_at m (k + 1) a).left.factors
  pub store_is : store ≡ (outcome_at m (k + 1) a).left.store
  pub counted : toss_ups m (columns m (k + 1) (take ((k + 1) * m) a)) ≡ toss_ups m (columns m k (take (k * m) a)) + own
  pub at_most_one : own ≤ 1

-- after k columns: the slices have their sizes, and the outcome of factoring the first k was reached, its toss-ups counted
pub record Building (m n : ℕ) (a out : Column) (store : List ℕ) (told : Record) (tossed k : ℕ) : Type 0 where
  pub whole : length a ≡ n * m
  pub long : length out ≡ n * m
  pub accepted : (outcome_at m k a).answer ≡ done told
  pub front_is : take (k * m) out ≡ (outcome_at m k a).left.factors
  pub store_is : store ≡ (outcome_at m k a).left.store
  pub counted : tossed ≡ toss_ups m (columns m k (take (k * m) a))
  pub few : tossed ≤ k

module _ (m n : ℕ) (a out : Column) (store : List ℕ) (none : factoring_refusal a m n out store ≡ 0) where
  abbrev p : Passed m n a out store
  p = passed m n a out store none

  len_a : length a ≡ n * m
  len_a = (sized m n a p.matrix).size

  -- the front of k columns
  module _ (k : ℕ) (h : k ≤ n) where
    fits : k * m ≤ length a
    fits = rw len_a (mul-le-mul_right m h)

    pub front_long : length (take (k * m) a) ≡ k * m
    front_long = length-take-le (k * m) a fits

    front_finite : all_finite (take (k * m) a) ≡ true
    front_finite =
        and_first (all_finite (take (k * m) a)) (all_finite (drop (k * m) a))
        (sym (finite_append (take (k * m) a) (drop (k * m) a)) ∙ ap all_finite (take-append-drop (k * m) a) ∙ p.numbers)

    pub front_none : factoring_refusal (take (k * m) a) m k (zeros (k * m)) (replicate 128 0) ≡ 0
    front_none =
        let rows = p.rows.at_most in
        let cols : k ≤ 64 = omega (arith, p.cols.at_most) in
        passes m k (take (k * m) a) (zeros (k * m)) (replicate 128 0)
        (record {
          rows = p.rows;
          cols = record { at_least = omega arith; at_most = cols };
          matrix = is_matrix_lem m k (take (k * m) a) rows cols front_long;
          slice = is_matrix_lem m k (zeros (k * m)) rows cols (length-replicate (k * m) _);
          room = refl;
          numbers = front_finite;
        })

    -- where the whole is accepted, so is its front
    whole_front : all_finite (flat (factors_of m n a).columns) ≡ true → all_finite (flat (factors_of m k (take (k * m) a)).columns) ≡ true
    whole_front fin =
        let cs = columns m k (take (k * m) a) in
        let ds = columns m (n - k) (drop (k * m) a) in
        let sum : k + (n - k) ≡ n = omega arith in
        let all : columns m n a ≡ cs ++ ds =
        ap₂ (λ (i : ℕ) (s : Column). columns m i s) (sym sum) (sym (take-append-drop (k * m) a))
        ∙ columns_split m k (n - k) (take (k * m) a) (drop (k * m) a) front_long in
        finite_front m cs ds (subst (λ (b : Matrix). HasRows m b) all (columns_rows m n a len_a))
        (ap (λ (b : Matrix). all_finite (flat (eliminate m b).columns)) (sym all) ∙ fin)

    -- THEOREM. Every front of an accepted matrix is accepted.
    pub front_accepted : number_of (factoring a m n out store).answer ≡ 0 → number_of (outcome_at m k a).answer ≡ 0
    front_accepted e =
        settled_number m k (take (k * m) a) (zeros (k * m)) (replicate 128 0) front_none
        ∙ ap (λ (t : Bool). cond t 0 7) (whole_front (accepted_is m n a out store none e).1)

    -- so a front that is not accepted means refusal 7 for the whole
    pub front_refused : (number_of (outcome_at m k a).answer ≡ 0 → ⊥) → all_finite (flat (factors_of m n a).columns) ≡ false
    front_refused bad =
        test_cases (all_finite (flat (factors_of m n a).columns))
        (λ t. absurd (bad (front_accepted (settled_number m n a out store none ∙ ap (λ (b : Bool). cond b 0 7) t)))) (λ t. t)

    outcome_long : (x : Record) → (outcome_at m k a).answer ≡ done x → length (outcome_at m k a).left.factors ≡ k * m
    outcome_long x e =
        let given = accepted_given m k (take (k * m) a) (zeros (k * m)) (replicate 128 0) x e in
        ap (λ (o : Factoring). length o.left.factors) given.is ∙ size_f m k (take (k * m) a) (zeros (k * m)) (replicate 128 0) front_none

  -- no columns
  pub start_built : outcome_at m 0 a ≡ accepted_as m 0 (unfactored [])
  unfolding settled eliminate columns turns_from flat all_finite
  start_built = worked m 0 (take (0 * m) a) (zeros (0 * m)) (replicate 128 0) (front_none 0 (omega arith)) ∙ rw (min-zero m)

  pub building_none : (swaps : List ℕ) (told : Record) → swaps ≡ store_of [] → told ≡ record_of m 0 0 0 → Building m n a out swaps told 0 0
  unfolding flat
  building_none swaps told empty is =
      let e = start_built in
      record {
        whole = len_a;
        long = (sized m n out p.slice).size;
        accepted = ap (λ (o : Factoring). o.answer) e ∙ (λ i. done (record_of m 0 0 (dead_none m i))) ∙ ap done (sym is);
        front_is = ap (λ k. take k out) (zero-mul m) ∙ sym (ap (λ (o : Factoring). o.left.factors) e);
        store_is = empty ∙ sym (ap (λ (o : Factoring). o.left.store) e);
        counted = sym (toss_empty m (take (0 * m) a));
        few = omega arith;
      }

  -- one column more: column k of a, and a slot of any contents
  module _ (k : ℕ) (h : k < n) (z : Column) (lz : length z ≡ m) (x : Record) (good : (outcome_at m k a).answer ≡ done x) where
    abbrev next : Column
    next = take m (drop (k * m) a)

    more : (k + 1) * m ≡ k * m + m
    more = ap (λ (i : ℕ). i * m) (add-one k) ∙ suc-mul k m

    grown : take ((k + 1) * m) a ≡ take (k * m) a ++ next
    grown = ap (λ (i : ℕ). take i a) more ∙ take-add (k * m) m a

    next_long : length next ≡ m
    next_long =
        let room = fits (k + 1) (omega arith) in
        length-take-le m (drop (k * m) a) (omega (arith, length-drop (k * m) a, more))

    -- THEOREM. Adding the next column to the outcome for k columns answers what factoring k + 1 columns answers, and where that is accepted leaves the same.
    pub next_built : let o = outcome_at m k a in
        let factored = adding (o.left.factors ++ z) next o.left.store x in
        (factored.answer ≡ (outcome_at m (k + 1) a).answer) × (number_of (outcome_at m (k + 1) a).answer ≡ 0 → factored ≡ outcome_at m (k + 1) a)
    next_built =
        rw grown
        (adding_afresh m k (take (k * m) a) (zeros (k * m)) (replicate 128 0) x good next z (zeros ((k + 1) * m)) (replicate 128 0) lz
        (length-replicate ((k + 1) * m) _) refl)

    -- ---- from what the call gives: s is the slice for the factors, lent up to the end of its column k
    module _ (s : Column) (store' : List ℕ) (t : Column) (store'' : List ℕ) (answer : Result Factored (Refused Record)) (room : k * m + m ≤ length s)
        (front_is : take (k * m) s ≡ (outcome_at m k a).left.factors) (store_is : store' ≡ (outcome_at m k a).left.store)
        (z-is : z ≡ take m (drop (k * m) s))
        (called : added answer ≡ adding_answer (take (k * m + m) s) (take (k * m + m - k * m) (drop (k * m) a)) store' x)
        (t-is : t ≡ (adding (take (k * m + m) s) (take (k * m + m - k * m) (drop (k * m) a)) store' x).left.factors)
        (store''-is : store'' ≡ (adding (take (k * m + m) s) (take (k * m + m - k * m) (drop (k * m) a)) store' x).left.store) where
      abbrev o : Factoring
      o = outcome_at m k a

      abbrev whole : Column
      whole = o.left.factors ++ z

      part_is : take (k * m + m) s ≡ whole
      part_is = take-add (k * m) m s ∙ ap₂ (λ (x y : Column). x ++ y) front_is (sym z-is)

      -- the call, on the outcome for k columns
      same : adding (take (k * m + m) s) (take (k * m + m - k * m) (drop (k * m) a)) store' x ≡ adding whole next o.left.store x
      same = λ i. adding (part_is i) (take (add-sub_cancel_left (k * m) m i) (drop (k * m) a)) (store_is i) x

      answer_is : added answer ≡ adding_answer whole next o.left.store x
      answer_is = called ∙ (λ i. adding_answer (part_is i) (take (add-sub_cancel_left (k * m) m i) (drop (k * m) a)) (store_is i) x)

      -- the call answered a record: the outcome for one column more, and its toss-ups
      pub went_on : (f : Factored) → answer ≡ Ok f → Grown m k a f.told f.toss_ups (t ++ drop (k * m + m) s) store''
      unfolding adding_answer own_toss_up
      went_on f e =
          let y = f.told in
          let took = told_accepted _ _ y f.toss_ups (sym (ap added e) ∙ answer_is) in
          let reached : (outcome_at m (k + 1) a).answer ≡ done y = sym next_built.0 ∙ took.0 in
          let all = same ∙ next_built.1 (ap number_of reached) in
          let long : length t ≡ (k + 1) * m = ap length (t-is ∙ ap (λ (q : Factoring). q.left.factors) all) ∙ outcome_long (k + 1) (omega arith) y reached in
          let tosses = toss_added m k (take (k * m) a) (zeros (k * m)) (replicate 128 0) x good next z next_long in
          record {
            accepted = reached;
            front_is = take_at t (drop (k * m + m) s) ((k + 1) * m) long ∙ t-is ∙ ap (λ (q : Factoring). q.left.factors) all;
            store_is = store''-is ∙ ap (λ (q : Factoring). q.left.store) all;
            counted =
                ap (λ (b : Column). toss_ups m (columns m (k + 1) b)) grown ∙ tosses
                ∙ ap (λ (j : ℕ). toss_ups m (columns m k (take (k * m) a)) + j) (sym took.1);
            at_most_one = rw took.1 (toss_most _ _);
          }

      -- it refused: the whole is refused with 7
      pub gave_up : (r : Refused Record) → answer ≡ Err r → all_finite (flat (factors_of m n a).columns) ≡ false
      unfolding adding_answer
      gave_up r e =
          let told = told_refused _ _ (number r.refusal) (sym (ap added e) ∙ answer_is) in
          let given : (outcome_at m (k + 1) a).answer ≡ refused (number r.refusal) = sym next_built.0 ∙ told in
          front_refused (k + 1) (omega arith) (λ zero.
          let acc = accepted_is m (k + 1) (take ((k + 1) * m) a) (zeros ((k + 1) * m)) (replicate 128 0) (front_none (k + 1) (omega arith)) zero in
          never_both _ (number r.refusal) (sym (ap (λ (q : Factoring). q.answer) acc.0) ∙ given))

-- ---- an answer that is a refusal, or none, is that of no other outcome
not_refused : (r : Result Factored Refusal) (x : Record × ℕ) → is_err r ≡ true → factored r ≡ done x → ⊥
not_refused (Ok f) x e d = false≢true e
not_refused (Err refusal) x e d = never_both x (number refusal) (sym d)

not_made : (r : Result Factored Refusal) (k : ℕ) → is_err r ≡ false → factored r ≡ refused k → ⊥
not_made (Ok f) k e d = never_both (f.told, f.toss_ups) k d
not_made (Err refusal) k e d = false≢true (sym e)

-- ---- the two ends
module _ (m n : ℕ) (a out : Column) (store : List ℕ) (none : factoring_refusal a m n out store ≡ 0) where
  whole_a : take (n * m) a ≡ a
  whole_a = take_all (n * m) a (omega (arith, (sized m n a (passed m n a out store none).matrix).size))

  -- all columns were factored
  pub all_added : (s : Column) (store' : List ℕ) (r : Record) (tossed : ℕ) → tossed ≡ toss_ups m (columns m n (take (n * m) a)) → length s ≡ n * m
      → (outcome_at m n a).answer ≡ done r → take (n * m) s ≡ (outcome_at m n a).left.factors → store' ≡ (outcome_at m n a).left.store
      → AllAdded a m n (Ok (record { told = r; toss_ups = tossed })) s store'
  unfolding settled with_toss_ups
  all_added s store' r tossed counted len good s-is store_is =
      let given = accepted_given m n (take (n * m) a) (zeros (n * m)) (replicate 128 0) r good in
      let fin : all_finite (flat (factors_of m n a).columns) ≡ true = rw whole_a at given.finite in
      let is : outcome_at m n a ≡ accepted_as m n (factors_of m n a) = given.is ∙ ap (λ (b : Column). accepted_as m n (factors_of m n b)) whole_a in
      let told_is = given.told_is ∙ ap (λ (b : Column). record_for m n (factors_of m n b)) whole_a in
      record {
        answer = rw fin (ap₂ (λ (x : Record) (j : ℕ). done (x, j)) told_is (counted ∙ ap (λ (b : Column). toss_ups m (columns m n b)) whole_a));
        held = λ _. (
          sym (take_all (n * m) s (omega arith)) ∙ s-is ∙ ap (λ (q : Factoring). q.left.factors) is,
          store_is ∙ ap (λ (q : Factoring). q.left.store) is,
        );
      }

  -- some column was not
  pub not_added : (s : Column) (store' : List ℕ) → all_finite (flat (factors_of m n a).columns) ≡ false → AllAdded a m n (Err Overflow) s store'
  unfolding settled with_toss_ups
  not_added s store' bad = record { answer = rw bad refl; held = λ fin. absurd (false≢true (sym bad ∙ fin)) }

  -- ---- the promise of building up, which is that of factoring

  -- the store counts by its length alone
  pub cleared_refusal : (store' : List ℕ) → length store' ≡ length store → factoring_refusal a m n out store' ≡ 0
  unfolding factoring_refusal
  cleared_refusal store' len = rw len none

  module _ (r : Result Factored Refusal) (s : Column) (store' : List ℕ) (built : AllAdded a m n r s store') where
    -- the answer is a refusal: it is 7, and zeros are left
    pub built_seven : is_err r ≡ true → (zeroed : Column) (cleared : List ℕ) → length s ≡ n * m → zeroed ≡ zeros (length s)
        → cleared ≡ replicate (length store') 0 → length store' ≡ 128 → Promise m n a out store r zeroed cleared
    unfolding settled factoring_answer with_toss_ups store_of numbers_of
    built_seven e zeroed cleared len z-is c-is room =
        let w = worked m n a out store none in
        test_cases (all_finite (flat (factors_of m n a).columns))
        (λ t. absurd (not_refused r _ e (rw t at built.answer)))
        (λ t. rw (w, t) (rw t at built.answer, (z-is ∙ ap zeros len, c-is ∙ ap (λ (k : ℕ). replicate {A = ℕ} k 0) room)))

    -- it is a record: the outcome is factoring's
    pub built_all : is_err r ≡ false → Promise m n a out store r s store'
    unfolding settled factoring_answer with_toss_ups
    built_all e =
        let w = worked m n a out store none in
        test_cases (all_finite (flat (factors_of m n a).columns))
        (λ t. let h = built.held t in rw (w, t) (rw t at built.answer, (h.0, h.1)))
        (λ t. absurd (not_made r 7 e (rw t at built.answer)))
