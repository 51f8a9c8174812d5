-- DEMAND 3. Adding a column to the factors of an accepted factoring answers what factoring the widened matrix afresh answers, refusals too, and where it is
-- accepted leaves the same factors and swap store, bit for bit: about the calls' own outcomes. The tests of the two agree; the eliminations are one
-- (`widened`); of the widened factors only the new column can fail to be finite; and the store takes the next pair over two of its zeros. Assumes nothing.
use mathlib.Core.Path.{◌≡◌, refl, sym, ap, ap₂, ◌∙◌}
use mathlib.Core.Bool.{Bool, true, false, ◌&&◌}
use mathlib.Core.List.{List, [], ◌++◌}
use Prim.Native.Nat.{ℕ, ◌+◌, ◌*◌, ◌≤◌, min}
use native.Mathlib.Nat.{suc-mul}
use native.Mathlib.Numerals.{add-one}
use native.Mathlib.Omega.{arith}
use borrow.Author.Tests.{eqb-true, eqb-false, eq-eqb, ne_eqb, leb-true, leb-false, le-leb, lt-ltb, le-ltb}
use lib.Dec.{eqb, leb}
use lib.ListN.{length, length-append}
use lib.Seq.{take_at, get_or_at}
use Rattle.numbers.specs.Column.{Column}
use Rattle.finite.specs.Finite.{all_finite}
use Rattle.numbers.proofs.Choice.{test_cases}
use Rattle.finite.proofs.Finite.{finite_append}
use Rattle.store.specs.Columns.{columns, flat, is_matrix}
use Rattle.store.specs.Steps.{column, swap_in_all}
use Rattle.store.proofs.Columns.{sized, is_matrix_lem, columns_flat, columns_front, columns_snoc, flat_snoc}
use Rattle.store.proofs.Steps.{length_swap_in_all}
use Rattle.dead_columns.specs.Dead.{dead_in, dead_of}
use Rattle.dead_columns.proofs.Dead.{held_dead}
use Rattle.refusals.specs.Outcome.{done, refused, number_of, first_holding, leaving}
use Rattle.refusals.specs.Refusals.{outside}
use Rattle.refusals.proofs.Outcomes.{tested_none, tested_some}
use Rattle.refusals.proofs.Tests.{not_outside}
use Rattle.swap_list.specs.SwapList.{good_list}
use Rattle.exchanges.proofs.Finite.{exchange_finite}
use Rattle.factors.specs.declared.Record.{Record}
use Rattle.factors.specs.Factors.{Factors, store_of, written, record_for, factors_in, slices, Factoring}
use Rattle.factors.specs.Held.{held_refusal}
use Rattle.factors.proofs.Swaps.{length_store, pairs_store, written_store, record_more}
use Rattle.elimination.specs.Elimination.{eliminate}
use Rattle.elimination.specs.Adding.{reduced, add_column}
use Rattle.elimination.specs.Own.{own_row, own_column}
use Rattle.elimination.proofs.Own.{adding_joins}
use Rattle.elimination.proofs.Recorded.{rising_good}
use Rattle.elimination.proofs.Widen.{widened}
use Rattle.lu.specs.Factoring.{factoring_refusal, accepted_as, settled, factoring}
use Rattle.lu.proofs.Told.{Passed, passed}
use Rattle.lu.proofs.Shape.{factors_of, no_refusal, ok, size, shape, wide, shape_f, size_f, rising, few, accepted_is}
use Rattle.adding.specs.Adding.{adding_refusal, older_factors, adding_settled, adding}

-- ---- the widened factors are finite where the older ones and the new column are
module _ (m : ℕ) (f : Factors) (c : Column) (len : length c ≡ m) where
  new_column : column (add_column m f c).columns (length f.columns) ≡ own_column (length f.columns) (reduced m f c)
  new_column =
      let n = length f.columns in
      let x = reduced m f c in
      ap (λ (g : Factors). column g.columns n) (adding_joins m f c len)
      ∙ get_or_at (swap_in_all n (own_row n x) f.columns) (own_column n x) [] [] n (length_swap_in_all n (own_row n x) f.columns)

  pub finite_added : all_finite (flat (add_column m f c).columns)
      ≡ (all_finite (flat f.columns) && all_finite (column (add_column m f c).columns (length f.columns)))
  finite_added =
      let n = length f.columns in
      let x = reduced m f c in
      let cs = swap_in_all n (own_row n x) f.columns in
      ap (λ (g : Factors). all_finite (flat g.columns)) (adding_joins m f c len)
      ∙ ap all_finite (flat_snoc cs (own_column n x))
      ∙ finite_append (flat cs) (own_column n x)
      ∙ ap₂ (λ (s t : Bool). s && t) (exchange_finite false n (own_row n x) f.columns) (ap all_finite (sym new_column))

-- ---- an accepted factoring, by its answer
pub record Given (m n : ℕ) (a out : Column) (store : List ℕ) (told : Record) : Type 0 where
  pub none : factoring_refusal a m n out store ≡ 0
  pub is : factoring a m n out store ≡ accepted_as m n (factors_of m n a)
  pub finite : all_finite (flat (factors_of m n a).columns) ≡ true
  pub told_is : told ≡ record_for m n (factors_of m n a)

pub accepted_given : (m n : ℕ) (a out : Column) (store : List ℕ) (told : Record) → (factoring a m n out store).answer ≡ done told → Given m n a out store told
accepted_given m n a out store told e =
    let zero : number_of (factoring a m n out store).answer ≡ 0 = ap number_of e in
    let none = no_refusal m n a out store zero in
    let acc = accepted_is m n a out store none zero in
    let same : done told ≡ done (record_for m n (factors_of m n a)) = sym e ∙ ap (λ (o : Factoring). o.answer) acc.0 in
    record { none = none; is = acc.0; finite = acc.1; told_is = cc }

-- ---- an accepted factoring, and one more column
module _ (m n : ℕ) (a out : Column) (store : List ℕ) (none : factoring_refusal a m n out store ≡ 0) where
  abbrev f : Factors
  f = factors_of m n a

  abbrev its : Passed m n a out store
  its = ok m n a out store none

  abbrev wide' : length f.columns ≡ n
  wide' = wide m n a out store none

  abbrev long : length (flat f.columns) ≡ n * m
  long = size_f m n a out store none

  -- the factors as the slices hold them, a slot of any contents behind
  pub held : (z : Column) → factors_in (flat f.columns ++ z) m n (store_of f.swaps) (length f.swaps) ≡ f
  held z =
      let cs : columns m n (flat f.columns ++ z) ≡ f.columns =
      columns_front m n (flat f.columns) z long
      ∙ ap (λ (k : ℕ). columns m k (flat f.columns)) (sym wide')
      ∙ columns_flat m f.columns (shape_f m n a out store none) in
      λ i. record { columns = cs i; swaps = pairs_store f.swaps i }

  -- one more column's numbers
  more : (n + 1) * m ≡ n * m + m
  more = ap (λ (k : ℕ). k * m) (add-one n) ∙ suc-mul n m

  -- c is the raw column, z lies in the slot, and the slices for factoring afresh have the lengths that the widened matrix asks for
  module _ (c z out' : Column) (store' : List ℕ) (lz : length z ≡ m) (lo : length out' ≡ (n + 1) * m) (ls : length store' ≡ 128)
      (fin : all_finite (flat f.columns) ≡ true) where
    abbrev r : Record
    r = record_for m n f

    abbrev s : Column
    s = flat f.columns ++ z

    abbrev w : List ℕ
    w = store_of f.swaps

    abbrev refusal : ℕ
    refusal = factoring_refusal (a ++ c) m (n + 1) out' store'

    -- the widened matrix has its length exactly where the raw column has m entries
    widened_long : length (a ++ c) ≡ n * m + length c
    widened_long = length-append a c ∙ ap (λ (k : ℕ). k + length c) (size m n a out store none)

    widened_fits : n ≤ 63 → is_matrix (a ++ c) m (n + 1) ≡ eqb (length c) m
    unfolding is_matrix
    widened_fits h =
        let rows = le-leb m 64 its.rows.at_most in
        let cols = le-leb (n + 1) 64 (omega arith) in
        test_cases (eqb (length c) m)
        (λ t. rw (rows, cols, eq-eqb (length (a ++ c)) ((n + 1) * m) (omega (arith, widened_long, more, eqb-true (length c) m t)), t))
        (λ t.
        let other = eqb-false (length c) m t in
        rw (rows, cols, ne_eqb (length (a ++ c)) ((n + 1) * m) (λ e. other (omega (arith, widened_long, more, e))), t))

    older_fits : is_matrix (flat f.columns) m n ≡ true
    older_fits = is_matrix_lem m n (flat f.columns) its.rows.at_most its.cols.at_most long

    slot_fits : n ≤ 63 → is_matrix s m (n + 1) ≡ true
    slot_fits h = is_matrix_lem m (n + 1) s its.rows.at_most (omega arith) (length-append (flat f.columns) z ∙ omega (arith, long, lz, more))

    list_good : good_list w (length f.swaps) m (min m n) ≡ true
    list_good = let h = its.rows.at_most in rising_good m (min m n) f.swaps (omega arith) (rising m n a out store none)

    -- the record's dead columns are those of the factors: "9" is not met
    dead_good : eqb r.dead (dead_of (flat f.columns) m n) ≡ true
    dead_good =
        let cs = ap (λ (k : ℕ). columns m k (flat f.columns)) (sym wide') ∙ columns_flat m f.columns (shape_f m n a out store none) in
        eq-eqb _ _ (sym (held_dead m n (flat f.columns) older_fits ∙ ap (dead_in m) cs))

    -- THEOREM. The tests of adding and those of factoring the widened matrix give the same number.
    pub same_refusal : adding_refusal s c w r ≡ refusal
    unfolding adding_refusal held_refusal factoring_refusal first_holding outside
    same_refusal =
        let rows = not_outside 1 m its.rows.at_least its.rows.at_most in
        let cols = not_outside 0 n (omega arith) its.cols.at_most in
        let older = take_at (flat f.columns) z (n * m) long in
        let room = eq-eqb (length w) 128 (length_store f.swaps (few m n a out store none)) in
        let room' = eq-eqb (length store') 128 ls in
        test_cases (leb n 63)
        (λ t.
        let h = leb-true n 63 t in
        let fits' = is_matrix_lem m (n + 1) out' its.rows.at_most (omega arith) lo in
        let cols' = not_outside 0 (n + 1) (omega arith) (omega arith) in
        test_cases (eqb (length c) m)
        (λ l. rw (
          rows,
          cols,
          t,
          older,
          older_fits,
          room,
          slot_fits h,
          l,
          list_good,
          fin,
          dead_good,
          cols',
          widened_fits h,
          l,
          fits',
          room',
          finite_append a c,
          its.numbers,
        ))
        (λ l. rw (rows, cols, t, older, older_fits, room, slot_fits h, l, cols', widened_fits h, l)))
        (λ t. let h = leb-false n 63 t in rw (rows, cols, t, le-ltb (n + 1) 0 (omega arith), lt-ltb 64 (n + 1) (omega arith)))

    -- the factors of the widened matrix
    module _ (lc : length c ≡ m) where
      abbrev g : Factors
      g = add_column m f c

      afresh_is : eliminate m (columns m (n + 1) (a ++ c)) ≡ g
      afresh_is = ap (eliminate m) (columns_snoc m n a c (size m n a out store none) lc) ∙ widened m (columns m n a) c (shape m n a out store none)

      -- only the new column can fail to be finite
      finite_is : all_finite (flat g.columns) ≡ all_finite (column g.columns n)
      finite_is = finite_added m f c lc ∙ ap₂ (λ (t : Bool) (k : ℕ). t && all_finite (column g.columns k)) fin wide'

      store_is : written g.swaps w ≡ store_of g.swaps
      store_is =
          let k = length f.columns in
          written_store f.swaps g.swaps
          (rw (ap (λ (h : Factors). h.swaps) (adding_joins m f c lc)) (record_more k (own_row k (reduced m f c)) f.swaps))

      settle_alike : (t : Bool) → all_finite (column g.columns n) ≡ t → all_finite (flat g.columns) ≡ t
          → ((adding_settled s w r g).answer ≡ (settled m (n + 1) g).answer)
          × (number_of (settled m (n + 1) g).answer ≡ 0 → adding_settled s w r g ≡ settled m (n + 1) g)
      unfolding adding_settled settled
      settle_alike true e d =
          rw (e, d) (
            refl,
            λ _. ap (λ (x : List ℕ). record { answer = done (record_for m (n + 1) g); left = slices (flat g.columns) x })
                store_is,
          )
      settle_alike false e d = rw (e, d) (refl, λ h. absurd (omega (arith, h)))

    -- the two outcomes
    abbrev added : Factoring
    added = adding s c w r

    abbrev fresh : Factoring
    fresh = factoring (a ++ c) m (n + 1) out' store'

    abbrev pub Same : Factoring → Factoring → Type 0
    Same x y = (x.answer ≡ y.answer) × (number_of y.answer ≡ 0 → x ≡ y)

    worked_alike : refusal ≡ 0 → Same added fresh
    unfolding adding factoring
    worked_alike e =
        let p = passed m (n + 1) (a ++ c) out' store' e in
        let lc : length c ≡ m = omega (arith, widened_long, more, (sized m (n + 1) (a ++ c) p.matrix).size) in
        let one = tested_none (adding_refusal s c w r) (leaving (slices s w)) (adding_settled s w r (add_column m (older_factors s w r) c)) (same_refusal
        ∙ e) in
        let two = tested_none refusal (leaving (slices out' store')) (settled m (n + 1) (eliminate m (columns m (n + 1) (a ++ c)))) e in
        rw (one, two, held z, afresh_is lc) (settle_alike lc (all_finite (column (g lc).columns n)) refl (finite_is lc))

    refused_alike : (refusal ≡ 0 → ⊥) → Same added fresh
    unfolding adding factoring
    refused_alike h =
        let one = tested_some (adding_refusal s c w r) (leaving (slices s w)) (adding_settled s w r (add_column m (older_factors s w r) c))
        (λ z. h (sym same_refusal ∙ z)) in
        let two = tested_some refusal (leaving (slices out' store')) (settled m (n + 1) (eliminate m (columns m (n + 1) (a ++ c)))) h in
        rw (one, two) (ap refused same_refusal, λ z. absurd (h z))

    pub alike : Same added fresh
    alike = test_cases (eqb refusal 0) (λ t. worked_alike (eqb-true refusal 0 t)) (λ t. refused_alike (eqb-false refusal 0 t))

-- THEOREM. Adding a column to the factors of an accepted factoring answers what factoring the widened matrix afresh answers: the same refusal (1, 3, 5 or
-- 7), or the same record, and then the same factors and swap store. For any column; what lies in the slot, and in the slices that factoring fills, does not
-- matter.
pub adding_afresh : (m n : ℕ) (a out : Column) (store : List ℕ) (told : Record) → (factoring a m n out store).answer ≡ done told
    → (c z out' : Column) (store' : List ℕ) → length z ≡ m → length out' ≡ (n + 1) * m → length store' ≡ 128
    → let o = factoring a m n out store in
    let added = adding (o.left.factors ++ z) c o.left.store told in
    let fresh = factoring (a ++ c) m (n + 1) out' store' in
    (added.answer ≡ fresh.answer) × (number_of fresh.answer ≡ 0 → added ≡ fresh)
adding_afresh m n a out store told e c z out' store' lz lo ls =
    let given = accepted_given m n a out store told e in
    rw (given.is, given.told_is) (alike m n a out store given.none c z out' store' lz lo ls given.finite)
