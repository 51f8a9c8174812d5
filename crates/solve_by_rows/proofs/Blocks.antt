-- A block of rows, as the code solves it: first the sums of its rows over the turns before it, then its own rows by each other, column by column. After p of
-- its own turns its rows hold what the solve row by row has: the solved numbers of these turns, and of the others the sums so far. Assumes nothing.
use mathlib.Core.Path.{◌≡◌, refl, sym, ap, ap₂, subst, ◌∙◌}
use mathlib.Core.Bool.{Bool, true, false, cond}
use mathlib.Core.List.{[], ◌++◌}
use Prim.Native.Nat.{ℕ, zero, suc, ◌+◌, ◌-◌, ◌*◌, ◌≤◌, ◌<◌}
use native.Mathlib.Nat.{not-suc-le-zero}
use native.Mathlib.Numerals.{add-one}
use native.Mathlib.Omega.{arith}
use borrow.Author.Tests.{ltb-true, ltb-false}
use borrow.Rule.Slice.PartMut.{mid_of, put_mid, put_same}
use lib.Dec.{ltb}
use lib.ListN.{length, set, take, drop, length-set, length-drop}
use lib.Seq.{ext_get_or, length-take-le, get_or-set_same, get_or-set_other, get_or-take, get_or-drop, take-take, take-set-le, drop-set-lt, drop-drop}
use lib.Ieee.{Float, nan, binary64, neg, div}
use Rattle.numbers.specs.Each.{turns_from, list_of}
use Rattle.numbers.specs.Numbers.{plus_product}
use Rattle.numbers.specs.Column.{Column, entry}
use Rattle.blas.specs.Blas.{axpy_from, copied}
use Rattle.numbers.proofs.Choice.{test_cases}
use Rattle.numbers.proofs.Each.{length_list, list_at}
use Rattle.blas.proofs.Rows.{length_axpy, entry_axpy_at, copied_whole}
use Rattle.store.specs.Columns.{columns}
use Rattle.store.specs.Steps.{Matrix, column}
use Rattle.one_step.specs.OneStep.{step_column}
use Rattle.store.proofs.Columns.{column_within, length_columns, columns_rows, entry_at}
use Rattle.triangular_passes.specs.Triangular.{upper_row, solved_row, turn}
use Rattle.triangular_passes.proofs.Lengths.{length_turns}
use Rattle.solve_by_rows.specs.Rows.{row_of, with_turn, row_sum, finished, row_done, row_sums, block_of, column_turn, solved_within}
use Rattle.solve_by_rows.proofs.Rows.{row_below, row_apart, row_row, sum_next, turns_snoc, turns_last}
use Rattle.solve_by_rows.proofs.Same.{Turns, up_turns, down_turns}

-- ---- a part of a column
part_long : (r s : ℕ) (l : Column) → r + s ≤ length l → length (mid_of r s l) ≡ s
part_long r s l h = length-take-le s (drop r l) (omega (arith, length-drop r l))

part_entry : (r s : ℕ) (l : Column) (q : ℕ) → q < s → entry (mid_of r s l) q ≡ entry l (r + q)
part_entry r s l q h = get_or-take s (drop r l) q nan h ∙ get_or-drop r l q nan

-- ---- the turns of a block, column by column in the block, and row by row in the whole
turns_of_lem : (upward : Bool) (n : ℕ) (cs : Matrix) → ((k : ℕ) → k < n → length (column cs k) ≡ n) → Turns upward n cs (column_turn upward n cs)
turns_of_lem true n cs full = up_turns n cs full
turns_of_lem false n cs full = down_turns n cs full

module _ (cs : Matrix) (r w : ℕ) where
  block_column : (p : ℕ) → p < w → column (block_of cs r w) p ≡ mid_of r w (column cs (r + p))
  unfolding block_of
  block_column p h = list_at w (λ p. mid_of r w (column cs (r + p))) p [] h

  block_entry : (p q : ℕ) → p < w → q < w → entry (column (block_of cs r w) p) q ≡ entry (column cs (r + p)) (r + q)
  block_entry p q h hq = ap (λ (l : Column). entry l q) (block_column p h) ∙ part_entry r w (column cs (r + p)) q hq

pub length_sums : (upward : Bool) (n : ℕ) (cs : Matrix) (b : Column) (r turns w : ℕ) → length (row_sums upward n cs b r turns w) ≡ w
unfolding row_sums
length_sums upward n cs b r turns w = length_list w _

-- where the rows of the turns k to k + w - 1 begin
abbrev pub first_row : Bool → ℕ → ℕ → ℕ → ℕ
first_row upward n k w = cond upward (n - k - w) k

first_low : (upward : Bool) (n k w r : ℕ) → k + w ≤ n → r ≡ first_row upward n k w → r + w ≤ n
first_low true n k w r fits first = omega (arith, first)
first_low false n k w r fits first = omega (arith, first)

-- from there on, they have the order of a matrix of their own
row_placed : (upward : Bool) (n k w r j : ℕ) → k + w ≤ n → r ≡ first_row upward n k w → j < w → row_of upward n (k + j) ≡ r + row_of upward w j
unfolding row_of
row_placed true n k w r j fits first h = omega (arith, first)
row_placed false n k w r j fits first h = omega (arith, first)

-- the block of these turns
module _ (upward : Bool) (n : ℕ) (cs : Matrix) (full : (k : ℕ) → k < n → length (column cs k) ≡ n) (b : Column) (len : length b ≡ n)
    (k w r : ℕ) (fits : k + w ≤ n) (first : r ≡ first_row upward n k w) where
  low : r + w ≤ n
  low = first_low upward n k w r fits first

  placed : (j : ℕ) → j < w → row_of upward n (k + j) ≡ r + row_of upward w j
  placed j h = row_placed upward n k w r j fits first h

  abbrev row : ℕ → ℕ
  row j = row_of upward n (k + j)

  abbrev own : ℕ → ℕ
  own j = row_of upward w j

  abbrev block : Matrix
  block = block_of cs r w

  -- the column after p turns row by row, and the block after p turns column by column
  abbrev done : ℕ → Column
  done p = turns_from (row_done upward n cs) k p b

  abbrev held : ℕ → Column
  held p = turns_from (column_turn upward w block) 0 p (row_sums upward n cs b r k w)

  abbrev number : ℕ → Float
  number p = finished upward cs (row p) (row_sum upward n cs (done p) (row p) (k + p))

  turns : Turns upward w block (column_turn upward w block)
  turns =
      turns_of_lem upward w block
      (λ p h. ap length (block_column cs r w p h) ∙ part_long r w (column cs (r + p)) (omega (arith, low, full (r + p) (omega (arith, low)))))

  long_held : (p : ℕ) → length (held p) ≡ w
  long_held p = length_turns (column_turn upward w block) turns.long 0 p _ ∙ length_sums upward n cs b r k w

  done_next : (p : ℕ) → done (p + 1) ≡ set (done p) (row p) (number p)
  unfolding row_done
  done_next p = turns_snoc (row_done upward n cs) k p b

  -- what a turn leaves alone
  done_apart : {A : Type 0} (f : Column → A) → ((c : Column) (p : ℕ) (x : Float) → p < w → f (set c (row p) x) ≡ f c) → (p : ℕ) → p ≤ w → f (done p) ≡ f b
  unfolding turns_from
  done_apart f same zero h = refl
  done_apart f same (suc p) h = ap f (ap done (sym (add-one p)) ∙ done_next p) ∙ same (done p) p (number p) h ∙ done_apart f same p (omega arith)

  long_done : (p : ℕ) → p ≤ w → length (done p) ≡ n
  long_done p h = done_apart length (λ c p x h. length-set c (row p) x) p h ∙ len

  -- a row of the block is finished as its row of the whole
  finished_same : (p : ℕ) (v : Float) → p < w → finished upward block (own p) v ≡ finished upward cs (row p) v
  unfolding finished
  finished_same p v h =
      let hp : own p < w = row_below upward w p h in
      ap (λ (d : Float). cond upward (div binary64 v d) v) (block_entry cs r w (own p) (own p) hp hp)
      ∙ ap (λ (i : ℕ). cond upward (div binary64 v (entry (column cs i) i)) v) (sym (placed p h))

  record Held (p : ℕ) : Type 0 where
    solved : (j : ℕ) → j < p → entry (held p) (own j) ≡ entry (done p) (row j)
    summed : (j : ℕ) → p ≤ j → j < w → entry (held p) (own j) ≡ row_sum upward n cs (done p) (row j) (k + p)

  next : (p : ℕ) → p < w → Held p → Held (p + 1)
  next p h so_far =
      record {
        solved = λ j g. test_cases (ltb j p)
            (λ t. let l = ltb-true j p t in
            held_is (own j) ∙ turns.older j p (held p) l h (long_held p) ∙ so_far.solved j l
            ∙ sym (done_is (row j) ∙ get_or-set_other (done p) (row p) (row j) (number p) nan
            (row_apart upward n (k + j) (k + p) (omega (arith, l)) (omega arith))))
            (λ t. let e : j ≡ p = omega (arith, g, ltb-false j p t) in rw e (own_held ∙ sym own_done));
        summed = λ j g l. held_is (own j)
            ∙ turns.later p j (held p) (omega (arith, g)) l (long_held p)
            ∙ (λ i. plus_product (neg ((sym (held_is (own p)) ∙ own_held) i)) (entry_same j l i) (so_far.summed j (omega (arith, g)) l i))
            ∙ sym (sum_next upward n cs (done p) (k + p) (k + (p + 1)) (k + j) (number p) (omega arith) (omega (arith, g)) (omega (arith, l))
            (long_done p (omega arith)))
            ∙ ap (λ (c : Column). row_sum upward n cs c (row j) (k + (p + 1))) (sym (done_next p));
      }
    where
      held_is : (i : ℕ) → entry (held (p + 1)) i ≡ entry (column_turn upward w block p (held p)) i
      held_is i = ap (λ (c : Column). entry c i) (turns_last (column_turn upward w block) p _)

      done_is : (i : ℕ) → entry (done (p + 1)) i ≡ entry (set (done p) (row p) (number p)) i
      done_is i = ap (λ (c : Column). entry c i) (done_next p)

      own_held : entry (held (p + 1)) (own p) ≡ number p
      own_held =
          held_is (own p)
          ∙ turns.own p (held p) h (long_held p)
          ∙ finished_same p _ h
          ∙ ap (finished upward cs (row p)) (so_far.summed p (omega arith) h)

      own_done : entry (done (p + 1)) (row p) ≡ number p
      own_done = done_is (row p) ∙ get_or-set_same (done p) (row p) (number p) nan (rw (long_done p (omega arith)) (row_below upward n (k + p) (omega arith)))

      entry_same : (j : ℕ) → j < w → entry (column block (own p)) (own j) ≡ entry (column cs (row p)) (row j)
      entry_same j l =
          block_entry cs r w (own p) (own j) (row_below upward w p h) (row_below upward w j l)
          ∙ ap₂ (λ (c i : ℕ). entry (column cs c) i) (sym (placed p h)) (sym (placed j l))

  begin : Held 0
  unfolding turns_from row_sums
  begin = record {
    solved = λ j g. absurd (not-suc-le-zero g);
    summed = λ j g l. let same : k ≡ k + 0 = omega arith in
        list_at w (λ q. row_sum upward n cs b (r + q) k) (own j) nan (row_below upward w j l)
        ∙ ap₂ (λ (i m : ℕ). row_sum upward n cs b i m) (sym (placed j l)) same;
  }

  all : (p : ℕ) → p ≤ w → Held p
  all zero h = begin
  all (suc p) h = subst Held (add-one p) (next p h (all p (omega arith)))

  -- the block put back in its place gives the turns row by row
  block_done : put_mid r w b (held w) ≡ done w
  block_done = sym (λ i. before i ++ (inside i ++ after i)) ∙ put_same r w (done w)
    where
      before : take r (done w) ≡ take r b
      before = done_apart (take r) (λ c p x h. take-set-le r c (row p) x (rw (placed p h) (omega arith))) w (omega arith)

      after : drop w (drop r (done w)) ≡ drop w (drop r b)
      after =
          drop-drop w r (done w)
          ∙ done_apart (drop (r + w)) (λ c p x h. drop-set-lt (r + w) c (row p) x (rw (placed p h) (omega (arith, row_below upward w p h)))) w (omega arith)
          ∙ sym (drop-drop w r b)

      inside : mid_of r w (done w) ≡ held w
      inside =
          let long : length (mid_of r w (done w)) ≡ w = part_long r w (done w) (omega (arith, low, long_done w (omega arith))) in
          ext_get_or nan (mid_of r w (done w)) (held w) (long ∙ sym (long_held w))
          (λ q g. let hq : q < w = rw long at g in
          let j : ℕ = own q in
          let hj : j < w = row_below upward w q hq in
          let back : own j ≡ q = row_row upward w q hq in
          part_entry r w (done w) q hq
          ∙ ap (entry (done w)) (sym (placed j hj ∙ ap (λ (i : ℕ). r + i) back))
          ∙ sym ((all w (omega arith)).solved j hj)
          ∙ ap (entry (held w)) back)

  -- THEOREM. The block's sums, solved by each other and put back in their place, are its turns row by row.
  pub block_made : (s : ℕ) (sums solved last : Column) → s ≡ w → sums ≡ row_sums upward n cs b r k w → solved ≡ solved_within upward cs r sums
      → last ≡ copied solved (mid_of r s b) → put_mid r s b last ≡ turns_from (row_done upward n cs) k w b
  unfolding solved_within
  block_made s sums solved last wide summed within copy =
      let long : length sums ≡ w = ap length summed ∙ length_sums upward n cs b r k w in
      let same : solved ≡ held w = within ∙ ap₂ (λ (i : ℕ) (v : Column). turns_from (column_turn upward i (block_of cs r i)) 0 i v) long summed in
      let room : length solved ≡ length (mid_of r w b) = ap length same ∙ long_held w ∙ sym (part_long r w b (omega (arith, low, len))) in
      ap₂ (λ (i : ℕ) (v : Column). put_mid r i b v) wide
      (copy ∙ ap (λ (i : ℕ). copied solved (mid_of r i b)) wide ∙ copied_whole solved (mid_of r w b) room ∙ same)
      ∙ block_done

-- ---- what the code makes of the numbers of the slice t, which holds the matrix
module _ (n : ℕ) (t : Column) (size : length t ≡ n * n) where
  abbrev cs : Matrix
  cs = columns n n t

  pub full : (k : ℕ) → k < n → length (column cs k) ≡ n
  full k h = columns_rows n n t size k (rw length_columns h)

  -- s rows of column c, from row r on, by their place in the slice
  part_rows : (c r s : ℕ) → c < n → r + s ≤ n → mid_of (c * n + r) s t ≡ mid_of r s (column cs c)
  part_rows c r s h l =
      let long : length (mid_of (c * n + r) s t) ≡ s = part_long (c * n + r) s t (omega (arith, column_within n n c t h size)) in
      let same : length (mid_of r s (column cs c)) ≡ s = part_long r s (column cs c) (omega (arith, full c h)) in
      ext_get_or nan (mid_of (c * n + r) s t) (mid_of r s (column cs c)) (long ∙ sym same)
      (λ q g. let hq : q < s = rw long at g in
      let on : c * n + r + q ≡ c * n + (r + q) = omega arith in
      part_entry (c * n + r) s t q hq ∙ ap (entry t) on ∙ entry_at n n c (r + q) t nan h (omega arith) ∙ sym (part_entry r s (column cs c) q hq))

  -- the loop that adds the products to the rows: before its first turn, and one turn
  pub sums_begin : (upward : Bool) (b v : Column) (r w : ℕ) → length b ≡ n → w ≡ length v → r + w ≤ n → copied (mid_of r w b) v ≡ row_sums upward n cs b r 0 w
  unfolding row_sums row_sum turns_from
  sums_begin upward b v r w len wide l =
      let long : length (mid_of r w b) ≡ w = part_long r w b (omega (arith, len)) in
      copied_whole (mid_of r w b) v (long ∙ wide)
      ∙ ext_get_or nan (mid_of r w b) (list_of w (λ q. entry b (r + q))) (long ∙ sym (length_list w _))
      (λ q g. let hq : q < w = rw long at g in
      part_entry r w b q hq ∙ sym (list_at w (λ q. entry b (r + q)) q nan hq))

  pub sums_next : (upward : Bool) (b v : Column) (r k w c e : ℕ) → v ≡ row_sums upward n cs b r k w → c ≡ row_of upward n k → k < n → e ≡ r + w → e ≤ n
      → axpy_from 0 (neg (entry b c)) (mid_of (c * n + r) (c * n + e - (c * n + r)) t) v ≡ row_sums upward n cs b r (k + 1) w
  unfolding row_sums row_sum with_turn plus_product
  sums_next upward b v r k w c e sums row h end l =
      let x : Column = mid_of r w (column cs c) in
      let hc : c < n = rw row (row_below upward n k h) in
      let wide : c * n + e - (c * n + r) ≡ w = omega (arith, end) in
      let part : mid_of (c * n + r) (c * n + e - (c * n + r)) t ≡ x = ap (λ (s : ℕ). mid_of (c * n + r) s t) wide ∙ part_rows c r w hc (omega (arith, end)) in
      let long : length v ≡ w = ap length sums ∙ length_sums upward n cs b r k w in
      let same : length x ≡ w = part_long r w (column cs c) (omega (arith, end, full c hc)) in
      let made : length (axpy_from 0 (neg (entry b c)) x v) ≡ w = length_axpy 0 (neg (entry b c)) x v ∙ long in
      ap (λ (y : Column). axpy_from 0 (neg (entry b c)) y v) part
      ∙ ext_get_or nan (axpy_from 0 (neg (entry b c)) x v) (row_sums upward n cs b r (k + 1) w) (made ∙ sym (length_sums upward n cs b r (k + 1) w))
      (λ q g. let hq : q < w = rw made at g in
      entry_axpy_at 0 (neg (entry b c)) x v q (same ∙ sym long) (omega arith) (rw long hq)
      ∙ ap₂ (plus_product (neg (entry b c))) (part_entry r w (column cs c) q hq)
      (ap (λ (l : Column). entry l q) sums ∙ list_at w (λ q. row_sum upward n cs b (r + q) k) q nan hq)
      ∙ ap (λ (i : ℕ). plus_product (neg (entry b i)) (entry (column cs i) (r + q)) (row_sum upward n cs b (r + q) k)) row
      ∙ sym (turns_last (with_turn upward n cs b (r + q)) k (entry b (r + q)))
      ∙ sym (list_at w (λ q. row_sum upward n cs b (r + q) (k + 1)) q nan hq))

  -- one turn of the loops within a block: downward, and upward
  pub down_turn : (r w p e : ℕ) (v : Column) → p < w → e ≡ r + w → e ≤ n →
      let a = (r + p) * n in
      axpy_from (p + 1) (neg (entry v p)) (mid_of (a + r) (a + e - (a + r)) t) v ≡ column_turn false w (block_of cs r w) p v
  unfolding step_column
  down_turn r w p e v h end l =
      let a = (r + p) * n in
      let wide : a + e - (a + r) ≡ w = omega (arith, end) in
      ap (λ (x : Column). axpy_from (p + 1) (neg (entry v p)) x v)
      (ap (λ (s : ℕ). mid_of (a + r) s t) wide ∙ part_rows (r + p) r w (omega (arith, end)) (omega (arith, end)) ∙ sym (block_column cs r w p h))

  pub up_turn : (r w k p : ℕ) (v last : Column) → k < w → p ≡ w - 1 - k → r + w ≤ n →
      let a = (r + p) * n + r in
      let x = div binary64 (entry v p) (entry t (a + p)) in
      last ≡ axpy_from 0 (neg x) (mid_of a (a + p - a) t) (take p (set v p x)) → last ++ drop p (set v p x) ≡ column_turn true w (block_of cs r w) k v
  unfolding turn solved_row upper_row
  up_turn r w k p v last h place l made =
      let a = (r + p) * n + r in
      let block : Matrix = block_of cs r w in
      let hp : p < w = omega (arith, place) in
      let on : a + p ≡ (r + p) * n + (r + p) = omega arith in
      let short : a + p - a ≡ p = omega arith in
      let diagonal : entry t (a + p) ≡ entry (column block p) p = ap (entry t) on ∙ entry_at n n (r + p) (r + p) t nan (omega arith) (omega arith)
      ∙ sym (block_entry cs r w p p hp hp) in
      let above : mid_of a (a + p - a) t ≡ take p (column block p) =
      ap (λ (s : ℕ). mid_of a s t) short
      ∙ part_rows (r + p) r p (omega arith) (omega arith)
      ∙ sym (ap (take p) (block_column cs r w p hp) ∙ take-take p w (drop r (column cs (r + p))) (omega arith)) in
      ap (λ (c : Column). c ++ drop p (set v p (div binary64 (entry v p) (entry t (a + p))))) made
      ∙ ap₂ (λ (d : Float) (c : Column). let x = div binary64 (entry v p) d in axpy_from 0 (neg x) c (take p (set v p x)) ++ drop p (set v p x)) diagonal above
      ∙ ap (λ (i : ℕ). upper_row (entry (column block i) i) (column block i) i v) place
