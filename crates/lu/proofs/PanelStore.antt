-- A panel in the slices: the front columns lent as a matrix of their own, the rest as another, and then the whole. From what each call gives, the whole
-- holds what the steps make of it (`panel_steps`). Assumes nothing.
use mathlib.Core.Path.{◌≡◌, refl, sym, ap, ap₂, subst, ◌∙◌}
use mathlib.Core.Bool.{true, false}
use mathlib.Core.List.{List, [], ◌∷◌, ◌++◌, append-nil}
use Prim.Native.Nat.{ℕ, zero, suc, ◌+◌, ◌-◌, ◌*◌, ◌≤◌}
use native.Mathlib.Nat.{sub-zero, mul-le-mul_right, add-mul}
use native.Mathlib.Omega.{arith}
use borrow.Rule.Slice.PartMut.{mid_of, put_mid, same_len_mid}
use lib.ListN.{length, take, drop, length-drop, length-append, take-append-drop, drop_of_length-le, get_or-append}
use lib.Seq.{take_all, take_at, drop_at, drop-drop, length-take-le}
use Rattle.numbers.specs.Each.{each_from, turns_from}
use Rattle.numbers.specs.Column.{Column}
use Rattle.numbers.proofs.Each.{length_each, each_each, each_same}
use Rattle.store.specs.Columns.{columns, HasRows, is_matrix, on_columns}
use Rattle.store.specs.Steps.{Matrix}
use Rattle.store.proofs.Columns.{sized, is_matrix_lem, length_columns, columns_rows, columns_split, on_columns_lem, each_rows}
use Rattle.swap_list.specs.SwapList.{Swaps, pairs_of, held}
use Rattle.exchanges.specs.Permute.{permute, rows_permuted, in_order}
use Rattle.exchanges.proofs.Permute.{rows_each, length_permute}
use Rattle.swap_list.proofs.SwapList.{held_all}
use Rattle.lu.specs.declared.Counts.{Counts}
use Rattle.factors.specs.Factors.{Factors, store_of}
use Rattle.elimination.specs.Elimination.{step}
use Rattle.elimination.specs.Adding.{update}
use Rattle.lu.specs.Inner.{Held, Stepped}
use Rattle.updates.specs.Updates.{after_panel}
use Rattle.elimination.specs.TossUps.{toss_from}
use Rattle.lu.proofs.Panels.{extend, passed, panel_steps, panel_toss}
use Rattle.elimination.proofs.Step.{swaps_turns}
use Rattle.factors.proofs.Swaps.{length_store, pairs_store}
use Rattle.updates.proofs.Updates.{updates_same}
use Rattle.elimination.proofs.Widen.{updates, after_steps}

-- ---- the pairs behind the first h
pairs_drop : (h p : ℕ) (store : List ℕ) → h ≤ p → drop h (pairs_of p store) ≡ pairs_of (p - h) (drop (2 * h) store)
unfolding pairs_of
pairs_drop zero p store l = ap (λ (k : ℕ). pairs_of k store) (sym (sub-zero p))
pairs_drop (suc h) zero store l = absurd (omega arith)
pairs_drop (suc h) (suc p) store l =
    let less : p - h ≡ suc p - suc h = omega arith in
    let two : 2 + 2 * h ≡ 2 * suc h = omega arith in
    pairs_drop h p (drop 2 store) (omega arith) ∙ ap (pairs_of (p - h)) (drop-drop (2 * h) 2 store) ∙ ap₂ (λ (k j : ℕ). pairs_of k (drop j store)) less two

-- a part from a place on
part_from : {A : Type 0} (a : ℕ) (l : List A) → mid_of a (length l - a) l ≡ drop a l
part_from a l = take_all (length l - a) (drop a l) (omega (arith, length-drop a l))

-- what is lent of the store are the pairs that the panel recorded
pub new_pairs : (swaps : Swaps) (h : ℕ) (store : List ℕ) → store ≡ store_of swaps → h ≤ length swaps → length swaps ≤ 64
    → held (length swaps - h) (mid_of (2 * h) (length store - 2 * h) store) ≡ drop h swaps
new_pairs swaps h store is l few =
    let room : length store ≡ 128 = ap length is ∙ length_store swaps few in
    ap (held (length swaps - h)) (part_from (2 * h) store)
    ∙ held_all (length swaps - h) (drop (2 * h) store) (omega (arith, length-drop (2 * h) store))
    ∙ ap (λ (st : List ℕ). pairs_of (length swaps - h) (drop (2 * h) st)) is
    ∙ sym (pairs_drop h (length swaps) (store_of swaps) l)
    ∙ ap (drop h) (pairs_store swaps)

-- ---- work on the entries of a list behind a front
each_behind : {A : Type 0} (f : A → A) (xs ys : List A) → each_from (λ j c. f c) (length xs) (xs ++ ys) ≡ xs ++ each_from (λ j c. f c) 0 ys
unfolding each_from
each_behind f [] ys = refl
each_behind f (x ∷ xs) ys = ap (λ (l : List _). x ∷ l) (each_behind f xs ys)

-- ---- the slices
module _ (m n i : ℕ) (s : Column) (store : List ℕ) (counts r : Counts) (fits : is_matrix s m n ≡ true) (hm : i + 4 ≤ m) (hn : i + 4 ≤ n) where
  abbrev e : ℕ
  e = i + 4

  abbrev z : ℕ
  z = e * m

  pub front_ends : z ≤ length s
  front_ends = rw (sized m n s fits).size (mul-le-mul_right m hn)

  front_long : length (take z s) ≡ z
  front_long = length-take-le z s front_ends

  pub front_fits : is_matrix (take z s) m e ≡ true
  front_fits = let most = (sized m n s fits).columns_most in is_matrix_lem m e (take z s) (sized m n s fits).rows_most (omega arith) front_long

  behind_long : length (drop z s) ≡ (n - e) * m
  behind_long =
      let parts : e * m + (n - e) * m ≡ n * m = sym (add-mul e (n - e) m) ∙ ap (λ (k : ℕ). k * m) (omega arith) in
      omega (arith, length-drop z s, (sized m n s fits).size, front_ends)

  -- the columns of the front and those behind it
  abbrev rest : Matrix
  rest = columns m (n - e) (drop z s)

  two_parts : (x y : Column) → length x ≡ z → columns m n (x ++ y) ≡ columns m e x ++ columns m (n - e) y
  two_parts x y l = let all : n ≡ e + (n - e) = omega arith in ap (λ (k : ℕ). columns m k (x ++ y)) all ∙ columns_split m e (n - e) x y l

  whole : columns m n s ≡ columns m e (take z s) ++ rest
  whole = ap (columns m n) (sym (take-append-drop z s)) ∙ two_parts (take z s) (drop z s) front_long

  -- the front after its steps, and the store with it
  module _ (s1 : Column) (store1 : List ℕ) (l1 : length s1 ≡ length (take z s)) (st : Stepped (take z s) m e i e store counts r s1 store1) where
    abbrev t : Column
    t = s1 ++ drop z s

    long1 : length s1 ≡ z
    long1 = l1 ∙ front_long

    pub same_long : length t ≡ length s
    same_long = omega (arith, long1, length-append s1 (drop z s), length-drop z s, front_ends)

    behind : mid_of z (length t - z) t ≡ drop z s
    behind = part_from z t ∙ drop_at s1 (drop z s) z long1

    -- the rest with the panel's swaps, and the whole with it
    module _ (c1 u : Column) (lc : length c1 ≡ length (mid_of z (length t - z) t))
        (e1 : c1 ≡ on_columns m (n - e)
        (rows_permuted (in_order false (held (r.pairs - counts.pairs) (mid_of (2 * counts.pairs) (length store1 - 2 * counts.pairs) store1))))
        (mid_of z (length t - z) t))
        (lu : length u ≡ length (put_mid z (length t - z) t c1)) (eu : columns m n u
        ≡ after_panel i (e - i) e (columns m n (put_mid z (length t - z) t c1))) where
      abbrev v : Column
      v = put_mid z (length t - z) t c1

      -- nothing is behind the rest
      v_is : v ≡ s1 ++ c1
      v_is =
          ap₂ (λ (x y : Column). x ++ (c1 ++ y)) (take_at s1 (drop z s) z long1)
          (drop_of_length-le (drop z t) {i = length t - z} (omega (arith, length-drop z t)))
          ∙ ap (λ (y : Column). s1 ++ y) (append-nil c1)

      pub v_long : length v ≡ length s
      v_long = same_len_mid z (length t - z) t c1 lc ∙ same_long

      module _ (f : Factors) (h : Held s m n store counts.pairs f) where
        front : Factors
        front = record { columns = columns m e (take z s); swaps = f.swaps }

        g : Factors
        g = turns_from step i 4 front

        f_is : f ≡ extend front rest
        unfolding front
        f_is = ap (λ (cs : Matrix). record { columns = cs; swaps = f.swaps }) (sym h.is_columns ∙ whole)

        held_front : Held (take z s) m e store counts.pairs front
        unfolding front
        held_front = record { size = front_long; is_columns = refl; is_store = h.is_store; is_pairs = h.is_pairs }

        four : e - i ≡ 4
        four = omega arith

        held_g : Held s1 m e store1 r.pairs g
        unfolding g
        held_g = subst (λ (k : ℕ). Held s1 m e store1 r.pairs (turns_from step i k front)) four (st.steps front held_front)

        abbrev before : ℕ
        before = length f.swaps

        -- the pairs that the panel recorded
        swaps_new : held (r.pairs - counts.pairs) (mid_of (2 * counts.pairs) (length store1 - 2 * counts.pairs) store1) ≡ drop before g.swaps
        unfolding g front
        swaps_new =
            let few : length g.swaps ≤ 64 = let most = (sized m n s fits).columns_most in omega (arith, held_g.is_pairs, st.few.0) in
            rw (held_g.is_pairs, h.is_pairs) (new_pairs g.swaps before store1 held_g.is_store (swaps_turns i 4 front) few)

        abbrev swapped : Matrix
        swapped = each_from (λ j c. permute (drop before g.swaps) c) 0 rest

        rest_rows : HasRows m rest
        rest_rows = columns_rows m (n - e) (drop z s) behind_long

        c1_columns : columns m (n - e) c1 ≡ swapped
        unfolding in_order
        c1_columns =
            let new = drop before g.swaps in
            let fit : is_matrix (drop z s) m (n - e) ≡ true = let most =
            (sized m n s fits).columns_most in is_matrix_lem m (n - e) (drop z s) (sized m n s fits).rows_most (omega arith) behind_long in
            let done = rows_each new rest in
            ap (columns m (n - e)) (e1 ∙ ap₂ (λ (p : Swaps) (x : Column). on_columns m (n - e) (rows_permuted p) x) swaps_new behind)
            ∙ on_columns_lem m (n - e) (rows_permuted new) (drop z s) fit (ap length done ∙ length_each _ 0 rest ∙ length_columns m (n - e) (drop z s))
            (subst (HasRows m) (sym done) (each_rows m (λ j c. permute new c) 0 rest (λ j c l. length_permute new c ∙ l) rest_rows))
            ∙ done

        v_columns : columns m n v ≡ g.columns ++ swapped
        v_columns = ap (columns m n) v_is ∙ two_parts s1 c1 long1 ∙ ap₂ (λ (x y : Matrix). x ++ y) held_g.is_columns c1_columns

        wide : length g.columns ≡ e
        wide = ap length (sym held_g.is_columns) ∙ length_columns m e s1

        u_columns : columns m n u ≡ g.columns ++ passed i 4 before g rest
        unfolding after_panel after_steps updates
        u_columns =
            let ds = g.columns ++ swapped in
            eu
            ∙ ap (λ (k : ℕ). after_panel i k e (columns m n v)) four
            ∙ ap (after_panel i 4 e) v_columns
            ∙ ap (λ (k : ℕ). each_from (λ j c. turns_from (update ds) i 4 c) k ds) (sym wide)
            ∙ each_same _ (λ j c. turns_from (update g.columns) i 4 c) (length g.columns) ds
            (λ j c l x. updates_same ds g.columns i 4 c (λ q y. get_or-append g.columns swapped [] q (rw wide y)))
            ∙ each_behind (turns_from (update g.columns) i 4) g.columns swapped
            ∙ ap (λ (cs : Matrix). g.columns ++ cs) (each_each (λ j c. turns_from (update g.columns) i 4 c)
            (λ j c. permute (drop before g.swaps) c) 0 rest)

        stepped : turns_from step i (e - i) f ≡ extend g (passed i 4 before g rest)
        unfolding g front
        stepped =
            ap₂ (λ (k : ℕ) (x : Factors). turns_from step i k x) four f_is
            ∙ panel_steps m i 4 front rest hm (rw length_columns (omega arith)) (columns_rows m e (take z s) front_long) rest_rows

        pub held_after : Held u m n store1 r.pairs (turns_from step i (e - i) f)
        held_after =
            rw stepped
            (record { size = lu ∙ v_long ∙ (sized m n s fits).size; is_columns = u_columns; is_store = held_g.is_store; is_pairs = held_g.is_pairs })

        pub toss_after : r.tossed ≡ counts.tossed + toss_from i (e - i) f
        unfolding front
        toss_after =
            st.toss front held_front
            ∙ ap (λ (k : ℕ). counts.tossed + k)
            (sym (ap (toss_from i (e - i)) f_is ∙ panel_toss i (e - i) front rest (rw length_columns (omega arith))))

      pub panel_done : Stepped s m n i e store counts r u store1
      panel_done = record { steps = held_after; toss = toss_after; few = st.few }
