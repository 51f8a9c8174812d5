-- DEMAND 3 for removing. The factors of an accepted factoring are those of its front with the last column joined to them (`adding_joins`), and removing
-- undoes that (`removed_joined`). So taking the last column off is accepted, and gives what factoring the columns that remain gives; and adding a
-- column and taking it off restores record, older columns and swap store. About the calls' own outcomes. Assumes nothing.
use mathlib.Core.Path.{◌≡◌, refl, sym, ap, ◌∙◌}
use mathlib.Core.Bool.{true, false}
use mathlib.Core.List.{List, ◌++◌}
use Prim.Native.Nat.{ℕ, ◌+◌, ◌-◌, ◌*◌, ◌≤◌, min}
use native.Mathlib.Nat.{suc-mul}
use native.Mathlib.Numerals.{add-one}
use native.Mathlib.Omega.{arith}
use borrow.Author.Tests.{le-leb}
use lib.ListN.{length, take, drop, replicate, length-replicate, length-drop, take-append-drop}
use lib.Seq.{take_at}
use Rattle.numbers.specs.Column.{Column, zeros}
use Rattle.store.specs.Columns.{columns, flat}
use Rattle.store.proofs.Columns.{sized, is_matrix_lem, columns_rows, columns_flat, columns_snoc}
use Rattle.dead_columns.specs.Dead.{dead_in}
use Rattle.refusals.specs.Outcome.{done, number_of}
use Rattle.refusals.proofs.Outcomes.{tested_none}
use Rattle.swap_list.specs.SwapList.{Swaps, pairs_of}
use Rattle.factors.specs.declared.Record.{Record}
use Rattle.factors.specs.Factors.{Factors, record_swap, store_of, record_for, factors_in, slices, Factoring}
use Rattle.factors.proofs.Held.{passes}
use Rattle.elimination.specs.Elimination.{eliminate}
use Rattle.lu.specs.Factoring.{factoring_refusal, accepted_as, factoring}
use Rattle.elimination.specs.Adding.{reduced}
use Rattle.adding.specs.Adding.{adding}
use Rattle.elimination.specs.Own.{own_row, own_column}
use Rattle.elimination.specs.Removing.{undoes, remove_column}
use Rattle.removing.specs.Removing.{good_undoing, removing_asks, removing_refusal, erased, removing_made, removing}
use Rattle.adding.proofs.Afresh.{Given, accepted_given, adding_afresh}
use Rattle.building_up.proofs.Build.{outcome_at, front_long, front_none, front_accepted}
use Rattle.adding.proofs.Front.{same_outcome}
use Rattle.elimination.proofs.Own.{joined, own_from, adding_joins}
use Rattle.elimination.proofs.Recorded.{rising_few, rising_good}
use Rattle.lu.proofs.Shape.{factors_of, no_refusal, ok, size, wide, shape_f, size_f, rising, few, accepted_is}
use Rattle.factors.proofs.Swaps.{length_store, pairs_store}
use Rattle.lu.proofs.Told.{Passed}
use Rattle.removing.proofs.Undone.{rising_kept, erased_recorded, undoing_recorded, removed_joined}
use Rattle.elimination.proofs.Widen.{widened}

-- an outcome with a zero slot behind its factors, and with the slot left aside
abbrev pub slotted : ℕ → Factoring → Factoring
slotted m o = record { answer = o.answer; left = slices (o.left.factors ++ zeros m) o.left.store }

abbrev pub slot_off : ℕ → ℕ → Factoring → Factoring
slot_off m n o = record { answer = o.answer; left = slices (take (n * m) o.left.factors) o.left.store }

slot_taken_off : (m n : ℕ) (o : Factoring) → length o.left.factors ≡ n * m → slot_off m n (slotted m o) ≡ o
slot_taken_off m n o len = λ i. record { answer = o.answer; left = slices (take_at o.left.factors (zeros m) (n * m) len i) o.left.store }

module _ (m n : ℕ) (a out : Column) (store : List ℕ) (told : Record) (good : (factoring a m (n + 1) out store).answer ≡ done told) where
  abbrev given : Given m (n + 1) a out store told
  given = accepted_given m (n + 1) a out store told good

  abbrev none : factoring_refusal a m (n + 1) out store ≡ 0
  none = given.none

  its : Passed m (n + 1) a out store
  its = ok m (n + 1) a out store none

  within : n ≤ n + 1
  within = omega arith

  -- ---- the front, its factors, and those of the whole
  abbrev front : Column
  front = take (n * m) a

  abbrev last : Column
  last = drop (n * m) a

  abbrev f : Factors
  f = factors_of m n front

  abbrev g : Factors
  g = factors_of m (n + 1) a

  abbrev x : Column
  x = reduced m f last

  fits : factoring_refusal front m n (zeros (n * m)) (replicate 128 0) ≡ 0
  fits = front_none m (n + 1) a out store none n within

  long : length front ≡ n * m
  long = front_long m (n + 1) a out store none n within

  last_long : length last ≡ m
  last_long = length-drop (n * m) a ∙ omega (arith, size m (n + 1) a out store none, suc-mul n m, ap (λ (k : ℕ). k * m) (add-one n))

  wide_f : length f.columns ≡ n
  wide_f = wide m n front (zeros (n * m)) (replicate 128 0) fits

  joins : g ≡ joined n (own_row n x) f (own_column n x)
  joins =
      ap (λ (b : Column). eliminate m (columns m (n + 1) b)) (sym (take-append-drop (n * m) a))
      ∙ ap (eliminate m) (columns_snoc m n front last long last_long)
      ∙ widened m (columns m n front) last (columns_rows m n front long)
      ∙ (rw wide_f at (adding_joins m f last last_long))

  swaps_are : g.swaps ≡ record_swap n (own_row n x) f.swaps
  swaps_are = ap (λ (h : Factors). h.swaps) joins

  -- ---- the pairs of the front
  kept : undoes n f.swaps ≡ false
  kept = rising_kept m (min m n) n f.swaps (omega arith) (rising m n front (zeros (n * m)) (replicate 128 0) fits)

  few_f : length f.swaps ≤ min m n
  few_f = rising_few m (min m n) f.swaps (rising m n front (zeros (n * m)) (replicate 128 0) fits)

  removed_is : remove_column n g ≡ f
  removed_is = ap (remove_column n) joins ∙ (rw wide_f at (removed_joined (own_row n x) f (own_column n x) (rw wide_f kept)))

  undoing : good_undoing m n g.swaps ≡ true
  undoing = ap (good_undoing m n) swaps_are ∙ undoing_recorded n (own_row n x) f.swaps kept m few_f (own_from n x)

  store_left : erased n g.swaps (store_of g.swaps) ≡ store_of f.swaps
  store_left =
      ap (λ (s : Swaps). erased n s (store_of s)) swaps_are
      ∙ erased_recorded n (own_row n x) f.swaps kept (omega (arith, few_f, its.cols.at_most))

  -- ---- the call
  abbrev r : Record
  r = record_for m (n + 1) g

  abbrev s : Column
  s = flat g.columns

  abbrev w : List ℕ
  w = store_of g.swaps

  less : n + 1 - 1 ≡ n
  less = omega arith

  held_columns : columns m (n + 1) s ≡ g.columns
  held_columns = ap (λ (k : ℕ). columns m k s) (sym (wide m (n + 1) a out store none)) ∙ columns_flat m g.columns (shape_f m (n + 1) a out store none)

  passes_tests : removing_refusal s w r ≡ 0
  unfolding removing_refusal
  passes_tests =
      let rows = its.rows in
      let most : min m (n + 1) ≤ 64 = omega (arith, rows.at_most) in
      passes s w r (removing_asks r (good_undoing m (n + 1 - 1) (pairs_of (length g.swaps) w)))
      (record {
        rows = rows;
        cols = its.cols;
        sizes = le-leb 1 (n + 1) (omega arith);
        shape = refl;
        matrix = is_matrix_lem m (n + 1) s rows.at_most its.cols.at_most (size_f m (n + 1) a out store none);
        room = length_store g.swaps (few m (n + 1) a out store none);
        lengths = refl;
        list = rising_good m (min m (n + 1)) g.swaps most (rising m (n + 1) a out store none);
        list_asked = rw (pairs_store g.swaps, less) undoing;
        finite = given.finite;
        numbers = refl;
        dead = ap (dead_in m) (sym held_columns);
        solvable = refl;
      })

  held : factors_in s m (n + 1) w (length g.swaps) ≡ g
  held = λ i. record { columns = held_columns i; swaps = pairs_store g.swaps i }

  made : removing s w r ≡ slotted m (accepted_as m n f)
  unfolding removing removing_made
  made =
      tested_none _ _ _ passes_tests
      ∙ rw (held, less, pairs_store g.swaps)
      (λ i. record {
        answer = done (record_for m n (removed_is i));
        left = slices (flat (removed_is i).columns ++ zeros m) (store_left i);
      })

  -- THEOREM. Taking the last column off what an accepted factoring gave is accepted and gives what factoring the columns that remain gives: the same record,
  -- factors and swap store, with zeros in the slot behind them. The slices that factoring fills may hold anything.
  pub removing_afresh : (out' : Column) (store' : List ℕ) → length out' ≡ n * m → length store' ≡ 128
      → let o = factoring a m (n + 1) out store in
      let left = factoring (take (n * m) a) m n out' store' in
      (number_of left.answer ≡ 0) × (removing o.left.factors o.left.store told ≡ slotted m left)
  removing_afresh out' store' lo ls =
      let yes : number_of (outcome_at m n a).answer ≡ 0 = front_accepted m (n + 1) a out store none n within (ap number_of good) in
      let left_is : factoring front m n out' store' ≡ accepted_as m n f =
      same_outcome m n front (zeros (n * m)) (replicate 128 0) yes out' store' lo ls ∙ (accepted_is m n front (zeros (n * m)) (replicate 128 0) fits yes).0 in (
        ap (λ (q : Factoring). number_of q.answer) left_is,
        rw (given.told_is, given.is) (made ∙ ap (slotted m) (sym left_is)),
      )

  -- the same with the slot left aside
  pub removing_reaches : (out' : Column) (store' : List ℕ) → length out' ≡ n * m → length store' ≡ 128
      → let o = factoring a m (n + 1) out store in
      let left = factoring (take (n * m) a) m n out' store' in
      (number_of left.answer ≡ 0) × (slot_off m n (removing o.left.factors o.left.store told) ≡ left)
  removing_reaches out' store' lo ls =
      let both = removing_afresh out' store' lo ls in
      let left = factoring (take (n * m) a) m n out' store' in
      let none' = no_refusal m n front out' store' both.0 in
      let len : length left.left.factors ≡ n * m =
      ap (λ (q : Factoring). length q.left.factors) (accepted_is m n front out' store' none' both.0).0 ∙ size_f m n front out' store' none' in
      (both.0, ap (slot_off m n) both.1 ∙ slot_taken_off m n left len)

-- THEOREM. Where a column was added to what an accepted factoring gave, taking it off restores record, older columns and swap store; the slot holds zeros.
pub removing_added : (m n : ℕ) (a out : Column) (store : List ℕ) (told : Record) → (factoring a m n out store).answer ≡ done told
    → (c z : Column) → length z ≡ m
    → let o = factoring a m n out store in
    let added = adding (o.left.factors ++ z) c o.left.store told in
    (next : Record) → added.answer ≡ done next → removing added.left.factors added.left.store next ≡ slotted m o
removing_added m n a out store told good c z lz next accepted =
    let given = accepted_given m n a out store told good in
    let p = ok m n a out store given.none in
    let out' = zeros ((n + 1) * m) in
    let store' : List ℕ = replicate 128 0 in
    let both = adding_afresh m n a out store told good c z out' store' lz (length-replicate ((n + 1) * m) _) refl in
    let fresh_ok : (factoring (a ++ c) m (n + 1) out' store').answer ≡ done next = sym both.0 ∙ accepted in
    let undone = (removing_afresh m n (a ++ c) out' store' next fresh_ok out store (sized m n out p.slice).size p.room).1 in
    rw (both.1 (ap number_of fresh_ok))
    (undone ∙ ap (λ (b : Column). slotted m (factoring b m n out store)) (take_at a c (n * m) (size m n a out store given.none)))
