-- Adding's outcomes, each from what the code found and left on the way to it; and what an accepted adding changes. Assumes nothing.
use mathlib.Core.Path.{◌≡◌, refl, sym, ap, ap₂, ◌∙◌}
use mathlib.Core.Bool.{Bool, true, false, not, cond, ◌&&◌, ◌||◌}
use mathlib.Core.List.{List, [], ◌∷◌, ◌++◌}
use Prim.Native.Nat.{ℕ, ◌+◌, ◌-◌, ◌*◌, ◌<◌, min}
use native.Mathlib.Omega.{arith}
use borrow.Author.Tests.{eqb-true, leb-true, ltb-true, ltb-false, lt-leb, le-leb, le-ltb}
use borrow.Rule.Slice.PartMut.{mid_of, put_mid, same_len_mid}
use lib.Dec.{eqb, ltb, leb}
use lib.ListN.{length, take}
use lib.Seq.{length-take-le, get_or_at}
use Rattle.numbers.specs.Column.{Column, zeros}
use Rattle.finite.specs.Finite.{all_finite}
use Rattle.min_max.specs.TossUp.{toss_up}
use Rattle.numbers.proofs.Choice.{test_cases, and_first, and_second, and_true}
use Rattle.store.specs.Columns.{columns, flat, is_matrix}
use Rattle.store.specs.Steps.{column, swap_in_all}
use Rattle.store.proofs.Columns.{sized, is_matrix_lem, column_within, same_matrix, length_columns, column_length, flat_columns, flat_snoc}
use Rattle.store.proofs.Steps.{length_swap_in_all}
use Rattle.dead_columns.specs.Dead.{dead_at, dead_in, dead_of}
use Rattle.dead_columns.proofs.Dead.{dead_most, dead_snoc, dead_swapped}
use Rattle.std.proofs.Common.{Ok, Err}
use Rattle.refusals.specs.declared.Refusal.{Refusal}
use Rattle.refusals.specs.declared.Refusal.TheVariants.{Overflow}
use Rattle.refusals.specs.Outcome.{done, refused, number, number_of, first_holding, leaving}
use Rattle.refusals.specs.Refusals.{outside}
use Rattle.refusals.proofs.Outcomes.{tested_none, tested_some, none_given, never_0}
use Rattle.swap_list.specs.SwapList.{pairs_of, with_pair, good_list}
use Rattle.swap_list.proofs.SwapList.{good}
use Rattle.factors.specs.declared.Record.{Record}
use Rattle.factors.specs.Factors.{Factors, record_swap, written, record_of, slices, record_after}
use Rattle.factors.specs.Held.{held_refusal}
use Rattle.factors.proofs.Held.{passed}
use Rattle.factors.proofs.Swaps.{Recorded, recorded, written_record, count_held}
use Rattle.elimination.specs.Adding.{reduced, add_column}
use Rattle.elimination.specs.Own.{own_row, own_column}
use Rattle.elimination.specs.TossUps.{toss_at, own_toss_up}
use Rattle.elimination.proofs.Own.{joined, own_from, length_own, length_reduced, adding_joins}
use Rattle.lu.specs.Factoring.{with_toss_ups}
use Rattle.adding.specs.Adding.{adding_asks, older_in, adding_refusal, older_factors, adding_settled, adding, adding_answer}
use Rattle.adding.specs.Inner.{Ready, with_reduced, Joined, AddedTo}
use Rattle.adding.proofs.Slot.{older, older_flat, slot_lent, slot_part, older_exchanged}

or_same : (t u : Bool) → (t || true) ≡ (t || u || true)
or_same true u = refl
or_same false true = refl
or_same false false = refl

and_none : (t : Bool) → (t && false) ≡ false
and_none true = refl
and_none false = refl

or_none : (t : Bool) → (t || false) ≡ (t || (false || false) || false)
or_none true = refl
or_none false = refl

module _ (r : Record) (s c : Column) (store : List ℕ) where
  abbrev m : ℕ
  m = r.rows

  abbrev n : ℕ
  n = r.columns

  -- past the tests
  pub ready : adding_refusal s c store r ≡ 0 → Ready s c store r
  unfolding adding_refusal
  ready e =
      let p = passed (older_in s r) store r (adding_asks s c r) e in
      let both = p.lengths in
      let room = is_matrix s m (n + 1) in
      let fits = and_first room (eqb (length c) m) both in
      let dead : r.dead ≡ dead_in m (columns m n s) = p.dead ∙ ap (dead_in m) (older m n s (sized m (n + 1) s fits).size) in
      record {
        none = e;
        few_rows = p.rows.at_most;
        few = leb-true n 63 p.sizes;
        room = fits;
        within = column_within m (n + 1) n s (omega arith) (sized m (n + 1) s fits).size;
        long = eqb-true (length c) m (and_second room (eqb (length c) m) both);
        store_room = p.room;
        list = p.list;
        dead = dead;
        few_dead = let rows = p.rows.at_most in omega (arith, dead, dead_most m (columns m n s));
      }

  -- The tests of held factors as the code makes them, in one expression: with room for the new column the older ones are a matrix and few, so that half of them
  -- are made already; without it the older ones are not looked at (`unread`).
  abbrev tested_as : Bool → Bool → Bool → ℕ → ℕ
  tested_as room list numbers dead =
      cond (outside 1 m || ltb 63 n) 1
      (cond (not (room && eqb (length store) 128 && eqb (length c) m)) 3 (cond (not list) 4 (cond (not numbers) 5 (cond (not (eqb r.dead dead)) 9 0))))

  sizes_same : (outside 1 m || ltb 63 n) ≡ (outside 1 m || outside 0 n || not (leb n 63))
  unfolding outside
  sizes_same =
      test_cases (ltb 63 n)
      (λ t. let more = ltb-true 63 n t in rw (t, lt-leb n 63 more) (or_same (outside 1 m) (outside 0 n)))
      (λ t. let few = ltb-false 63 n t in rw (t, le-leb n 63 few, le-ltb 64 n (omega arith), le-ltb n 0 (omega arith)) (or_none (outside 1 m)))

  with_room : is_matrix s m (n + 1) ≡ true
      → tested_as true (good_list store r.pairs m (min m n)) (all_finite (take (n * m) s) && all_finite c) (dead_of (take (n * m) s) m n)
      ≡ adding_refusal s c store r
  unfolding adding_refusal held_refusal first_holding
  with_room t =
      let w = sized m (n + 1) s t in
      let front = is_matrix_lem m n (take (n * m) s) w.rows_most (omega (arith, w.columns_most)) (length-take-le (n * m) s (omega (arith, w.size))) in
      rw (sizes_same, t, front, and_true (good_list store r.pairs m (min m n))) refl

  without_room : is_matrix s m (n + 1) ≡ false → (list numbers : Bool) (dead : ℕ) → tested_as false list numbers dead ≡ adding_refusal s c store r
  unfolding adding_refusal held_refusal first_holding
  without_room t list numbers dead = rw (sizes_same, t, and_none (is_matrix (take (n * m) s) m n && eqb (length store) 128)) refl

  -- from what the tests gave
  pub refusal_found : (room : Bool) (a number : ℕ) → room ≡ is_matrix s m (n + 1) → a ≡ cond room (n * m) 0
      → number ≡ tested_as room (good_list store r.pairs m (min m n)) (all_finite (take a s) && all_finite c) (dead_of (take a s) m n)
      → number ≡ adding_refusal s c store r
  refusal_found room a number fits is e = e ∙ test_cases (is_matrix s m (n + 1)) yes no
    where
      yes : is_matrix s m (n + 1) ≡ true
          → tested_as room (good_list store r.pairs m (min m n)) (all_finite (take a s) && all_finite c) (dead_of (take a s) m n) ≡ adding_refusal s c store r
      yes t = rw (is, fits ∙ t) (with_room t)

      no : is_matrix s m (n + 1) ≡ false
          → tested_as room (good_list store r.pairs m (min m n)) (all_finite (take a s) && all_finite c) (dead_of (take a s) m n) ≡ adding_refusal s c store r
      no t = rw (fits ∙ t) (without_room t (good_list store r.pairs m (min m n)) (all_finite (take a s) && all_finite c) (dead_of (take a s) m n))

  pub refused_by : (refusal : Refusal) → number refusal ≡ adding_refusal s c store r
      → AddedTo s c store r (Err (record { refusal = refusal; old = r })) s store
  unfolding adding adding_answer with_toss_ups record_after
  refused_by refusal e =
      let w = tested_some (adding_refusal s c store r) (leaving (slices s store)) (adding_settled s store r (add_column m (older_factors s store r) c))
      (λ z. never_0 refusal (e ∙ z)) in
      record { answer = rw w (ap refused e); told = rw w refl; factors = rw w refl; pairs = rw w refl }

  -- ---- the factors, the reduced column, and its own step
  module _ (go : Ready s c store r) where
    abbrev f : Factors
    f = older_factors s store r

    abbrev x : Column
    x = reduced m f c

    wide : length f.columns ≡ n
    wide = length_columns m n s

    size : length s ≡ (n + 1) * m
    size = (sized m (n + 1) s go.room).size

    added_is : add_column m f c ≡ joined n (own_row n x) f (own_column n x)
    added_is = rw wide at (adding_joins m f c go.long)

    pub worked : adding s c store r ≡ adding_settled s store r (joined n (own_row n x) f (own_column n x))
    unfolding adding
    worked = tested_none _ _ _ go.none ∙ ap (adding_settled s store r) added_is

    last_is : column (swap_in_all n (own_row n x) f.columns ++ own_column n x ∷ []) n ≡ own_column n x
    last_is = get_or_at (swap_in_all n (own_row n x) f.columns) (own_column n x) [] [] n (length_swap_in_all n (own_row n x) f.columns ∙ wide)

    pub next : 2 * r.pairs + 1 < length store
    next =
        let few = (good m (min m n) r.pairs store go.list).few in
        let rows = go.few_rows in
        let cols = go.few in
        let len = go.store_room in
        omega arith

    -- the exchange of rows reaches no older diagonal, so the new column's own is all that is counted anew
    added_dead : dead_in m (swap_in_all n (own_row n x) f.columns ++ own_column n x ∷ []) ≡ r.dead + dead_at n (own_column n x)
    added_dead =
        let p = own_row n x in
        let tall : length (own_column n x) ≡ m = length_own n x ∙ length_reduced m f c ∙ go.long in
        dead_snoc m (swap_in_all n p f.columns) (own_column n x) tall
        ∙ ap₂ (λ (k j : ℕ). k + dead_at j (own_column n x)) (dead_swapped m n p f.columns (omega (arith, wide)) (omega (arith, wide, own_from n x)))
        (length_swap_in_all n p f.columns ∙ wide)
        ∙ ap (λ (k : ℕ). k + dead_at n (own_column n x)) (sym go.dead)

    -- the new column is not finite: the slot holds zeros
    promise_seven : (y s' : Column) → y ≡ own_column n x → all_finite y ≡ false → length s' ≡ length s → columns m (n + 1) s' ≡ columns m n s ++ zeros m ∷ []
        → AddedTo s c store r (Err (record { refusal = Overflow; old = r })) s' store
    unfolding adding_settled adding_answer with_toss_ups record_after
    promise_seven y s' is bad kept zeroed =
        let not_finite : all_finite (column (swap_in_all n (own_row n x) f.columns ++ own_column n x ∷ []) n) ≡ false =
        ap all_finite (last_is ∙ sym is) ∙ bad in
        let s-is : s' ≡ take (n * m) s ++ zeros m =
        sym (flat_columns m (n + 1) s' (kept ∙ size)) ∙ ap flat zeroed ∙ flat_snoc (columns m n s) (zeros m)
        ∙ ap (λ (l : Column). l ++ zeros m) (older_flat m n s size) in
        record {
          answer = rw (worked, not_finite) refl;
          told = rw (worked, not_finite) refl;
          factors = rw (worked, not_finite) s-is;
          pairs = rw (worked, not_finite) refl;
        }

    -- it is: the older columns have their two rows exchanged, and the swap is recorded
    promise_added : (y s' : Column) (p pairs' own dead : ℕ) (store' : List ℕ) → own ≡ own_toss_up m f c → p ≡ own_row n x → y ≡ own_column n x
        → all_finite y ≡ true
        → dead ≡ r.dead + dead_at n y → length s' ≡ length s → columns m (n + 1) s' ≡ swap_in_all n p (columns m n s) ++ y ∷ []
        → Recorded n p r.pairs pairs' store store'
        → AddedTo s c store r (Ok (record { told = record_of m (n + 1) pairs' dead; toss_ups = own })) s' store'
    unfolding adding_settled adding_answer with_toss_ups record_after
    promise_added y s' p pairs' own dead store' counted row is ok died kept made rec =
        let finite-there : all_finite (column (swap_in_all n (own_row n x) f.columns ++ own_column n x ∷ []) n) ≡ true =
        ap all_finite (last_is ∙ sym is) ∙ ok in
        let s-is : s' ≡ flat (swap_in_all n (own_row n x) (columns m n s) ++ own_column n x ∷ []) =
        sym (flat_columns m (n + 1) s' (kept ∙ size)) ∙ ap flat made ∙ (λ i. flat (swap_in_all n (row i) (columns m n s) ++ is i ∷ [])) in
        let count_is : pairs' ≡ length (record_swap n (own_row n x) (pairs_of r.pairs store)) =
        rec.count ∙ sym (count_held r.pairs n p store next) ∙ ap (λ (k : ℕ). length (record_swap n k (pairs_of r.pairs store))) row in
        let store_is : store' ≡ written (record_swap n (own_row n x) (pairs_of r.pairs store)) store =
        rec.store ∙ sym (written_record r.pairs n p store next) ∙ ap (λ (k : ℕ). written (record_swap n k (pairs_of r.pairs store)) store) row in
        let dead_is = died ∙ ap (λ (z : Column). r.dead + dead_at n z) is ∙ sym added_dead in
        record {
          answer = rw (worked, finite-there) (λ i. done (record_of m (n + 1) (count_is i) (dead_is i), counted i));
          told = rw (worked, finite-there) (λ i. record_of m (n + 1) (count_is i) (dead_is i));
          factors = rw (worked, finite-there) s-is;
          pairs = rw (worked, finite-there) store_is;
        }

    -- ---- from what the code left: t has the reduced column in its slot, and y is that column after its own step
    module _ (t y : Column) (p : ℕ) (same : length t ≡ length s) (red : columns m (n + 1) t ≡ with_reduced s m n c store r.pairs)
        (kept : length y ≡ length (mid_of (n * m) (n * m + m - n * m) t)) (row : p ≡ own_row n (mid_of (n * m) (n * m + m - n * m) t))
        (own : y ≡ own_column n (mid_of (n * m) (n * m + m - n * m) t)) where
      abbrev u : Column
      u = put_mid (n * m) (n * m + m - n * m) t y

      behind : columns m (n + 1) t ≡ columns m n s ++ x ∷ []
      unfolding with_reduced
      behind = red

      in_slot : mid_of (n * m) (n * m + m - n * m) t ≡ x
      in_slot = slot_part m n t x (columns m n s) wide behind

      stepped : columns m (n + 1) u ≡ columns m n s ++ own_column n x ∷ []
      stepped = slot_lent (own_column n) m n t y x (columns m n s) (same ∙ size) wide behind kept own

      pub long : length u ≡ length s
      long = same_len_mid (n * m) (n * m + m - n * m) t y kept ∙ same

      its_slot : mid_of (n * m) (n * m + m - n * m) u ≡ own_column n x
      its_slot = slot_part m n u (own_column n x) (columns m n s) wide stepped

      pub overflows : (z : Column) → all_finite (mid_of (n * m) (n * m + m - n * m) u) ≡ false → length z ≡ length (mid_of (n * m) (n * m + m - n * m) u)
          → z ≡ zeros (length (mid_of (n * m) (n * m + m - n * m) u))
          → AddedTo s c store r (Err (record { refusal = Overflow; old = r })) (put_mid (n * m) (n * m + m - n * m) u z) store
      overflows z bad kz zeroed =
          let m-long = column_length m (n + 1) n u (omega arith) (long ∙ size) in
          promise_seven (own_column n x) (put_mid (n * m) (n * m + m - n * m) u z) refl (ap all_finite (sym its_slot) ∙ bad)
          (same_len_mid (n * m) (n * m + m - n * m) u z kz ∙ long)
          (slot_lent (λ _. zeros m) m n u z (own_column n x) (columns m n s) (long ∙ size) wide stepped kz (zeroed ∙ ap zeros m-long))

      pub joins : (v : Column) (new : Record) (own dead : ℕ) (tossed : Bool) (store' : List ℕ) → tossed ≡ toss_up n (mid_of (n * m) (n * m + m - n * m) t)
          → own ≡ cond tossed 1 0 → dead ≡ r.dead + dead_at n (mid_of (n * m) (n * m + m - n * m) u)
          → all_finite (mid_of (n * m) (n * m + m - n * m) u) ≡ true → length v ≡ length u → Joined u store r p dead new v store'
          → AddedTo s c store r (Ok (record { told = new; toss_ups = own })) v store'
      unfolding own_toss_up toss_at
      joins v new own dead tossed store' toss counted died ok kv made =
          let fits : is_matrix u m (n + 1) ≡ true = same_matrix m (n + 1) s u long ∙ go.room in
          let swapped : columns m (n + 1) v ≡ swap_in_all n p (columns m n s) ++ own_column n x ∷ [] =
          older_exchanged m n p u v (columns m n s) (own_column n x) wide fits stepped made.rows in
          let own_is : own ≡ own_toss_up m f c =
          counted ∙ ap (λ (b : Bool). cond b 1 0) (toss ∙ ap (toss_up n) in_slot) ∙ ap (λ (k : ℕ). cond (toss_up k x) 1 0) (sym wide) in
          let few = go.store_room in
          let rec = recorded n p r.pairs _ store store' (omega (arith, next)) few refl made.pairs in
          let it = promise_added (own_column n x) v p _ own dead store' own_is (row ∙ ap (own_row n) in_slot) refl (ap all_finite (sym its_slot) ∙ ok)
          (died ∙ ap (λ (z : Column). r.dead + dead_at n z) its_slot) (kv ∙ long) swapped rec in
          rw made.told it

-- an outcome that gives no number has no refusal before the work
pub no_refusal : (r : Record) (s c : Column) (store : List ℕ) → number_of (adding s c store r).answer ≡ 0 → adding_refusal s c store r ≡ 0
unfolding adding
no_refusal r s c store = none_given (adding_refusal s c store r) (slices s store) (adding_settled s store r (add_column r.rows (older_factors s store r) c))

-- ---- what adding changes

-- THEOREM. Accepted adding changes the new column and, where row n is exchanged with another row p, those two rows of the older columns and the next
-- pair; nothing else. For any factors that pass the tests.
pub adding_changes : (r : Record) (s c : Column) (store : List ℕ) → number_of (adding s c store r).answer ≡ 0
    → let m = r.rows in
    let n = r.columns in
    let x = reduced m (older_factors s store r) c in
    let p = own_row n x in
    ((adding s c store r).left.factors ≡ flat (swap_in_all n p (columns m n s)) ++ own_column n x)
    × ((adding s c store r).left.store ≡ cond (eqb p n) store (with_pair r.pairs n p store))
unfolding adding_settled
adding_changes r s c store e =
    let m = r.rows in
    let n = r.columns in
    let x = reduced m (older_factors s store r) c in
    let p = own_row n x in
    let go = ready r s c store (no_refusal r s c store e) in
    let w = worked r s c store go in
    test_cases (all_finite (column (swap_in_all n p (columns m n s) ++ own_column n x ∷ []) n))
    (λ b. rw (w, b) (flat_snoc (swap_in_all n p (columns m n s)) (own_column n x), written_record r.pairs n p store (next r s c store go)))
    (λ b. absurd (let seven : 7 ≡ 0 = (rw (w, b) at e) in omega arith))

-- THEOREM. And the new column is finite.
pub adding_finite : (r : Record) (s c : Column) (store : List ℕ) → number_of (adding s c store r).answer ≡ 0
    → all_finite (own_column r.columns (reduced r.rows (older_factors s store r) c)) ≡ true
unfolding adding_settled
adding_finite r s c store e =
    let go = ready r s c store (no_refusal r s c store e) in
    test_cases (all_finite (own_column r.columns (reduced r.rows (older_factors s store r) c))) (λ t. t)
    (λ t. absurd (let seven : 7 ≡ 0 = (rw (worked r s c store go, last_is r s c store go, t) at e) in omega arith))
