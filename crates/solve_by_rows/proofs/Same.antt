-- A column solved row by row is the column solved column by column. After the first i turns of both, the rows of these turns are the same; a later row
-- is as it was in the one, and has in the other the sum of its products so far, which are those that it takes at its own turn. Assumes nothing.
use mathlib.Core.Path.{◌≡◌, refl, sym, ap, ap₂, subst, ◌∙◌}
use mathlib.Core.Bool.{Bool, true, false}
use mathlib.Core.List.{◌++◌}
use Prim.Native.Nat.{ℕ, zero, suc, ◌+◌, ◌-◌, ◌≤◌, ◌<◌}
use native.Mathlib.Nat.{not-suc-le-zero}
use native.Mathlib.Numerals.{add-one}
use native.Mathlib.Omega.{arith}
use borrow.Author.Tests.{ltb-true, ltb-false}
use lib.Dec.{ltb}
use lib.ListN.{length, set, take, drop, length-set, length-take, get_or-append}
use lib.Seq.{ext_get_or, get_or-set_same, get_or-set_other, get_or-append-add, get_or-take, get_or-drop}
use lib.Ieee.{Float, nan, binary64, neg, div}
use Rattle.numbers.specs.Each.{turns_from}
use Rattle.numbers.specs.Numbers.{one64, plus_product}
use Rattle.numbers.specs.Column.{Column, entry}
use Rattle.blas.specs.Blas.{axpy_from}
use Rattle.numbers.proofs.Choice.{test_cases}
use Rattle.numbers.proofs.One.{div_one64}
use Rattle.blas.proofs.Rows.{length_axpy, entry_axpy_at, entry_axpy_before}
use Rattle.store.specs.Steps.{Matrix, column}
use Rattle.one_step.specs.OneStep.{step_column}
use Rattle.one_step.proofs.Shape.{length_step_column}
use Rattle.triangular_passes.specs.declared.Pass.TheVariants.{Upper, GivenDiagonal}
use Rattle.triangular_passes.specs.Triangular.{upper_row, kept_row, solved_row, turn, solved_column}
use Rattle.triangular_passes.proofs.Lengths.{length_turns, length_row}
use Rattle.solve.proofs.Corrected.{Doubles, kept, kept_doubles, last_turn, same_column}
use Rattle.solve_by_rows.specs.Rows.{pass_of, row_of, with_turn, row_sum, finished, row_done}
use Rattle.solve_by_rows.proofs.Rows.{row_below, row_apart, row_row, sum_same, turns_last}

-- ---- what a turn column by column does to the rows, and that this is enough
module _ (upward : Bool) (n : ℕ) (cs : Matrix) where
  abbrev row : ℕ → ℕ
  row k = row_of upward n k

  pub record Turns (step : ℕ → Column → Column) : Type 0 where
    -- how many rows there are stays
    pub long : (k : ℕ) (s : Column) → length (step k s) ≡ length s
    -- its own row is finished
    pub own : (k : ℕ) (s : Column) → k < n → length s ≡ n → entry (step k s) (row k) ≡ finished upward cs (row k) (entry s (row k))
    -- the rows of older turns stay
    pub older : (q k : ℕ) (s : Column) → q < k → k < n → length s ≡ n → entry (step k s) (row q) ≡ entry s (row q)
    -- those of later turns take its product
    pub later : (k q : ℕ) (s : Column) → k < q → q < n → length s ≡ n
        → entry (step k s) (row q) ≡ plus_product (neg (entry (step k s) (row k))) (entry (column cs (row k)) (row q)) (entry s (row q))

  module _ (step : ℕ → Column → Column) (w : Turns step) (b : Column) (len : length b ≡ n) where
    -- after i turns of both
    abbrev by_columns : ℕ → Column
    by_columns i = turns_from step 0 i b

    abbrev by_rows : ℕ → Column
    by_rows i = turns_from (row_done upward n cs) 0 i b

    long_columns : (i : ℕ) → length (by_columns i) ≡ n
    long_columns i = length_turns step w.long 0 i b ∙ len

    done_long : (k : ℕ) (s : Column) → length (row_done upward n cs k s) ≡ length s
    unfolding row_done
    done_long k s = length-set s (row k) _

    long_rows : (i : ℕ) → length (by_rows i) ≡ n
    long_rows i = length_turns (row_done upward n cs) done_long 0 i b ∙ len

    done_own : (i : ℕ) (s : Column) → i < n → length s ≡ n
        → entry (row_done upward n cs i s) (row i) ≡ finished upward cs (row i) (row_sum upward n cs s (row i) i)
    unfolding row_done
    done_own i s h l = get_or-set_same s (row i) _ nan (rw l (row_below upward n i h))

    done_other : (i q : ℕ) (s : Column) → (row q ≡ row i → ⊥) → entry (row_done upward n cs i s) (row q) ≡ entry s (row q)
    unfolding row_done
    done_other i q s apart = get_or-set_other s (row i) (row q) _ nan apart

    record Half (i : ℕ) : Type 0 where
      same : (q : ℕ) → q < i → entry (by_rows i) (row q) ≡ entry (by_columns i) (row q)
      kept_still : (q : ℕ) → i ≤ q → q < n → entry (by_rows i) (row q) ≡ entry b (row q)
      summed : (q : ℕ) → i ≤ q → q < n → entry (by_columns i) (row q) ≡ turns_from (with_turn upward n cs (by_rows i) (row q)) 0 i (entry b (row q))

    next_columns : (i : ℕ) → by_columns (i + 1) ≡ step i (by_columns i)
    next_columns i = turns_last step i b

    next_rows : (i : ℕ) → by_rows (i + 1) ≡ row_done upward n cs i (by_rows i)
    next_rows i = turns_last (row_done upward n cs) i b

    next_half : (i : ℕ) → i < n → Half i → Half (i + 1)
    unfolding with_turn row_sum
    next_half i h p =
        record {
          same =
              λ q l. test_cases (ltb q i) (λ t. let g = ltb-true q i t in rows_older q g ∙ p.same q g ∙ sym
              (columns_are (row q) ∙ w.older q i (by_columns i) g h (long_columns i)))
              (λ t. let e : q ≡ i = omega (arith, l, ltb-false q i t) in rw e own_same);
          kept_still = λ q g l. rows_later q (omega (arith, g)) l ∙ p.kept_still q (omega (arith, g)) l;
          summed = λ q g l. columns_are (row q)
              ∙ w.later i q (by_columns i) (omega (arith, g)) l (long_columns i)
              ∙ ap₂ (λ (x v : Float). plus_product (neg x) (entry (column cs (row i)) (row q)) v) (sym (columns_are (row i)) ∙ sym own_same)
              (p.summed q (omega (arith, g)) l ∙ sum_same upward n cs (by_rows i) (by_rows (i + 1)) (row q) i (entry b (row q)) (λ r m. sym (rows_older r m)))
              ∙ sym (turns_last (with_turn upward n cs (by_rows (i + 1)) (row q)) i (entry b (row q)));
        }
      where
        columns_are : (r : ℕ) → entry (by_columns (i + 1)) r ≡ entry (step i (by_columns i)) r
        columns_are r = ap (λ (s : Column). entry s r) (next_columns i)

        rows_are : (r : ℕ) → entry (by_rows (i + 1)) r ≡ entry (row_done upward n cs i (by_rows i)) r
        rows_are r = ap (λ (s : Column). entry s r) (next_rows i)

        rows_older : (q : ℕ) → q < i → entry (by_rows (i + 1)) (row q) ≡ entry (by_rows i) (row q)
        rows_older q g = rows_are (row q) ∙ done_other i q (by_rows i) (λ e. row_apart upward n q i g h e)

        rows_later : (q : ℕ) → i < q → q < n → entry (by_rows (i + 1)) (row q) ≡ entry (by_rows i) (row q)
        rows_later q g l = rows_are (row q) ∙ done_other i q (by_rows i) (λ e. row_apart upward n i q g l (sym e))

        own_same : entry (by_rows (i + 1)) (row i) ≡ entry (by_columns (i + 1)) (row i)
        own_same =
            rows_are (row i)
            ∙ done_own i (by_rows i) h (long_rows i)
            ∙ ap (finished upward cs (row i))
            (ap (turns_from (with_turn upward n cs (by_rows i) (row i)) 0 i) (p.kept_still i (omega arith) h) ∙ sym (p.summed i (omega arith) h))
            ∙ sym (columns_are (row i) ∙ w.own i (by_columns i) h (long_columns i))

    half : (i : ℕ) → i ≤ n → Half i
    unfolding turns_from
    half zero h = record { same = λ q l. absurd (not-suc-le-zero l); kept_still = λ q g l. refl; summed = λ q g l. refl }
    half (suc i) h = subst Half (add-one i) (next_half i h (half i (omega arith)))

    pub by_rows_lem : by_rows n ≡ by_columns n
    by_rows_lem =
        ext_get_or nan (by_rows n) (by_columns n) (long_rows n ∙ sym (long_columns n))
        (λ i h. let hi : i < n = rw (long_rows n) at h in
        ap (entry (by_rows n)) (sym (row_row upward n i hi)) ∙ (half n (omega arith)).same (row i) (row_below upward n i hi)
        ∙ ap (entry (by_columns n)) (row_row upward n i hi))

-- ---- the upper solve

-- one row of it: its own number, the rows above, and those below
module _ (d : Float) (l : Column) (i : ℕ) (b : Column) (e : length l ≡ length b) (h : i < length b) where
  abbrev x : Float
  x = div binary64 (entry b i) d

  abbrev c : Column
  c = set b i x

  above : Column
  above = axpy_from 0 (neg x) (take i l) (take i c)

  short : length (take i l) ≡ i
  short = length-take i l ∙ omega (arith, e)

  short_c : length (take i c) ≡ i
  short_c = length-take i c ∙ omega (arith, length-set b i x)

  long_above : length above ≡ i
  unfolding above
  long_above = length_axpy 0 (neg x) (take i l) (take i c) ∙ short_c

  upper_from : (m : ℕ) → entry (upper_row d l i b) (i + m) ≡ entry c (i + m)
  unfolding upper_row above
  upper_from m = ap (λ (j : ℕ). entry (above ++ drop i c) (j + m)) (sym long_above) ∙ get_or-append-add above (drop i c) m nan ∙ get_or-drop i c m nan

  upper_above : (r : ℕ) → r < i → entry (upper_row d l i b) r ≡ plus_product (neg x) (entry l r) (entry b r)
  unfolding upper_row above plus_product
  upper_above r g =
      get_or-append above (drop i c) nan r (rw long_above g)
      ∙ entry_axpy_at 0 (neg x) (take i l) (take i c) r (short ∙ sym short_c) (omega arith) (rw short_c g)
      ∙ ap₂ (plus_product (neg x)) (get_or-take i l r nan g) (get_or-take i c r nan g ∙ get_or-set_other b i r x nan (λ e. omega (arith, e)))

  upper_own : entry (upper_row d l i b) i ≡ x
  upper_own =
      let own : i + 0 ≡ i = omega arith in
      ap (entry (upper_row d l i b)) (sym own) ∙ upper_from 0 ∙ ap (entry c) own ∙ get_or-set_same b i x nan h

  upper_below : (r : ℕ) → i < r → entry (upper_row d l i b) r ≡ entry b r
  upper_below r g =
      let at : i + (r - i) ≡ r = omega arith in
      ap (entry (upper_row d l i b)) (sym at) ∙ upper_from (r - i) ∙ ap (entry c) at ∙ get_or-set_other b i r x nan (λ e. omega (arith, e))

module _ (n : ℕ) (cs : Matrix) (full : (k : ℕ) → k < n → length (column cs k) ≡ n) where
  pub up_turns : Turns true n cs (turn Upper n cs)
  unfolding turn solved_row row_of finished
  up_turns = record {
    long = λ k s. length_row Upper _ _ _ s;
    own = λ k s h len. upper_own _ (column cs (n - 1 - k)) (n - 1 - k) s (full (n - 1 - k) (omega arith) ∙ sym len) (rw len (omega arith));
    older = λ q k s g h len. upper_below _ (column cs (n - 1 - k)) (n - 1 - k) s (full (n - 1 - k) (omega arith) ∙ sym len) (rw len (omega arith))
        (n - 1 - q) (omega arith);
    later = λ k q s g h len. let same = full (n - 1 - k) (omega arith) ∙ sym len in
        upper_above _ (column cs (n - 1 - k)) (n - 1 - k) s same (rw len (omega arith)) (n - 1 - q) (omega arith)
        ∙ ap (λ (v : Float). plus_product (neg v) (entry (column cs (n - 1 - k)) (n - 1 - q)) (entry s (n - 1 - q)))
        (sym (upper_own _ (column cs (n - 1 - k)) (n - 1 - k) s same (rw len (omega arith))));
  }

  -- ---- the unit lower solve, without the division by one
  abbrev step : ℕ → Column → Column
  step k s = step_column k (column cs k) s

  step_before : (k r : ℕ) (s : Column) → r < k + 1 → entry (step k s) r ≡ entry s r
  unfolding step_column
  step_before k r s h = entry_axpy_before (k + 1) (neg (entry s k)) (column cs k) s r h

  pub down_turns : Turns false n cs step
  unfolding step_column row_of finished plus_product
  down_turns = record {
    long = λ k s. length_step_column k (column cs k) s;
    own = λ k s h len. step_before k k s (omega arith);
    older = λ q k s g h len. step_before k q s (omega arith);
    later = λ k q s g h len. entry_axpy_at (k + 1) (neg (entry s k)) (column cs k) s q (full k (omega arith) ∙ sym len) (omega arith) (rw len h)
        ∙ ap (λ (v : Float). plus_product (neg v) (entry (column cs k) q) (entry s q)) (sym (step_before k k s (omega arith)));
  }

  steps_kept : (k c : ℕ) (b : Column) → Doubles b → turns_from step k c b ≡ turns_from (kept one64 n cs) k c b
  unfolding turns_from step_column turn solved_row kept_row
  steps_kept k zero b all = refl
  steps_kept k (suc c) b all =
      ap (turns_from step (k + 1) c) (ap (λ (v : Float). axpy_from (k + 1) (neg v) (column cs k) b) (sym (div_one64 (entry b k) (all k))))
      ∙ steps_kept (k + 1) c (kept one64 n cs k b) (kept_doubles one64 n cs k b all)

-- the turn for the last row, which the Rust leaves out, changes nothing
kept_all : (n : ℕ) (cs : Matrix) (b : Column) → length b ≡ n → turns_from (kept one64 n cs) 0 n b ≡ solved_column (GivenDiagonal one64) n cs b
unfolding solved_column
kept_all zero cs b e = refl
kept_all (suc n) cs b e =
    let fewer : n ≡ suc n - 1 = omega arith in
    last_turn one64 (suc n) cs 0 n b (omega (arith, e)) ∙ ap (λ (c : ℕ). turns_from (kept one64 (suc n) cs) 0 c b) fewer

-- THEOREM. Row by row gives the solved column, of the same bits, whatever doubles the right-hand side holds.
pub rows_solve : (upward : Bool) (n : ℕ) (cs : Matrix) (b : Column) → ((k : ℕ) → k < n → length (column cs k) ≡ n) → length b ≡ n → Doubles b
    → turns_from (row_done upward n cs) 0 n b ≡ solved_column (pass_of upward) n cs b
unfolding solved_column
rows_solve true n cs b full len all = by_rows_lem true n cs (turn Upper n cs) (up_turns n cs full) b len
rows_solve false n cs b full len all =
    by_rows_lem false n cs (step n cs full) (down_turns n cs full) b len ∙ steps_kept n cs full 0 n b all ∙ kept_all n cs b len
    ∙ sym (same_column n cs b len all)
