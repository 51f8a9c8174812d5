-- How far the numbers grow, where every multiplier is within one: a step makes no number more than twice as large, and the numbers of row r are changed by
-- r steps. So row r of U is at most 2 ^ r times the greatest number of the matrix, with every rounding counted in. By induction on the steps. Assumes nothing.
use mathlib.Core.Path.{◌≡◌, sym, ap, ◌∙◌, subst}
use mathlib.Core.Bool.{true}
use mathlib.Core.Logic.{inl, inr}
use Prim.Native.Nat.{ℕ, zero, suc, ◌+◌, ◌-◌, ◌*◌, ◌^◌, ◌≤◌, ◌<◌, min}
use native.Mathlib.Nat.{eq-or-lt_of_le, le_of_suc-le-suc, not-suc-le-zero, le_trans, lt_of_le_of_lt, mul-one, mul_assoc, mul_comm, mul-le-mul_left, pow-succ'}
use native.Mathlib.Omega.{arith}
use borrow.Author.Tests.{ltb-true, ltb-false}
use lib.Dec.{ltb}
use lib.Pow.{pow_mono, pow-lt, pow-add}
use lib.ListN.{length}
use lib.Ieee.{nan, binary64, add, mul, neg}
use lib.Ieee.Scale.{finite}
use Rattle.numbers.specs.Each.{turns_from}
use Rattle.numbers.specs.Column.{Column, entry}
use Rattle.numbers.proofs.Choice.{test_cases}
use Rattle.numbers.proofs.Lasting.{sum_finite}
use Rattle.blas.specs.Blas.{swap_rows}
use Rattle.blas.proofs.Exchange.{other, other_from, other_range, other_first, length_exchanged, get_d_exchanged, exchanged_above}
use Rattle.blas.proofs.Rows.{entry_scale_before, entry_axpy_at, entry_axpy_before}
use Rattle.finite.proofs.Finite.{finite_entry}
use Rattle.min_max.proofs.Pivot.{pivot_from, pivot_to}
use Rattle.store.specs.Columns.{HasRows}
use Rattle.store.specs.Steps.{Matrix, column}
use Rattle.one_step.specs.OneStep.{step_column}
use Rattle.store.proofs.Lasting.{column_finite}
use Rattle.factors.specs.Factors.{Factors}
use Rattle.elimination.specs.Elimination.{multipliers, pivot_step, step, unfactored, eliminate}
use Rattle.elimination.specs.Reason.{finite_in}
use Rattle.elimination.proofs.Lasting.{steps_finite}
use Rattle.elimination.proofs.Step.{pivot_at, packed, length_multipliers, length_pivot_step, rows_pivot_step, step_cases, step_left, step_here, step_right}
use Rattle.elimination.proofs.Step.{steps, steps_next, length_steps, rows_steps}
use Rattle.units.specs.Units.{AtMost, one_units, most_units}
use Rattle.units.proofs.Rounded.{OfDouble, of_double, at_most_more, at_most_neg, product_at_most, sum_at_most}
use Rattle.multipliers.specs.Multipliers.{at, Roomy, GrownAtMost}
use Rattle.multipliers.proofs.Below.{Below, own_below, own_step}
use Rattle.multipliers.proofs.Bounded.{bounded}

module _ (m n greatest : ℕ) (double : OfDouble greatest) (low : greatest * 2 ^ (min m n - 1) ≤ most_units) where
  -- the bound after k steps
  abbrev bound : ℕ → ℕ
  bound k = greatest * 2 ^ k

  bound_up : (i k : ℕ) → i ≤ k → bound i ≤ bound k
  bound_up i k h = mul-le-mul_left greatest (pow_mono h)

  bound_low : (k : ℕ) → k < min m n → bound k ≤ most_units
  bound_low k h = le_trans (bound_up k (min m n - 1) (omega arith)) low

  bound_double : (k : ℕ) → k < min m n → OfDouble (bound k)
  bound_double k h =
      let shape : bound k ≡ double.digits * 2 ^ (double.place + k) =
      ap (λ (z : ℕ). z * 2 ^ k) double.is ∙ mul_assoc double.digits (2 ^ double.place) (2 ^ k)
      ∙ ap (λ (z : ℕ). double.digits * z) (sym (pow-add 2 double.place k)) in
      record {
        digits = double.digits;
        place = double.place + k;
        is = shape;
        few = double.few;
        finite = subst (λ (z : ℕ). z < 2 ^ 2098) shape (lt_of_le_of_lt (bound_low k h) (pow-lt (let l : 2096 < 2098 = omega arith in l)));
      }

  bound_twice : (k : ℕ) → 2 * bound k ≡ bound (suc k)
  bound_twice k = sym (ap (λ (z : ℕ). greatest * z) (pow-succ' 2 k) ∙ sym (mul_assoc greatest 2 (2 ^ k)) ∙ ap (λ (z : ℕ). z * 2 ^ k) (mul_comm greatest 2)
      ∙ mul_assoc 2 greatest (2 ^ k))

  -- ---- after i steps: of the finished columns what stands on or above the diagonal, of the others all
  pub record Under (i : ℕ) (f : Factors) : Type 0 where
    pub done : (j r : ℕ) → j < i → r ≤ j → AtMost (bound r) (at f.columns r j)
    pub above : (j r : ℕ) → i ≤ j → j < n → r < i → AtMost (bound r) (at f.columns r j)
    pub below : (j r : ℕ) → i ≤ j → j < n → i ≤ r → r < m → AtMost (bound i) (at f.columns r j)

  -- ---- one step
  module _ (i : ℕ) (f : Factors) (rows : HasRows m f.columns) (wide : length f.columns ≡ n) (im : i < m) (il : i < n)
      (ok : finite_in f ≡ true) (then : finite_in (step i f) ≡ true) (u : Under i f) where
    abbrev p : ℕ
    p = pivot_at i f

    here : i < length f.columns
    here = rw wide il

    low_row : i ≤ p
    low_row = pivot_from i (column f.columns i)

    p_within : p < m
    p_within = rw (rows i here) at (pivot_to i (column f.columns i) (rw (rows i here) im))

    -- the rows up to row i of a column that is not finished, and of that column swapped
    front : (j r : ℕ) → i ≤ j → j < n → r ≤ i → AtMost (bound r) (at f.columns r j)
    front j r ij jn ri = elim (eq-or-lt_of_le ri) [ inl e ↦ rw e (u.below j i ij jn (omega arith) im) | inr l ↦ u.above j r ij jn l ]

    swapped_front : (j r : ℕ) → i ≤ j → j < n → r ≤ i → AtMost (bound r) (entry (swap_rows i p (column f.columns j)) r)
    swapped_front j r ij jn ri =
        let x = column f.columns j in
        let long : length x ≡ m = rows j (rw wide jn) in
        elim (eq-or-lt_of_le ri) [
          | inl e ↦ rw (e, get_d_exchanged nan i p x i (rw long im) (rw long p_within), other_first i p) (u.below j p ij jn low_row p_within)
          | inr l ↦ rw (exchanged_above nan i p x r l (omega (arith, low_row))) (u.above j r ij jn l)
        ]

    swapped_below : (j r : ℕ) → i ≤ j → j < n → i ≤ r → r < m → AtMost (bound i) (entry (swap_rows i p (column f.columns j)) r)
    swapped_below j r ij jn ir rm =
        let x = column f.columns j in
        let long : length x ≡ m = rows j (rw wide jn) in
        rw (get_d_exchanged nan i p x r (rw long im) (rw long p_within))
        (u.below j (other i p r) ij jn (other_from i p r i (omega arith) low_row ir) (other_range i p r m im p_within rm))

    -- column i itself
    own_front : (r : ℕ) → r ≤ i → AtMost (bound r) (at (step i f).columns r i)
    unfolding multipliers
    own_front r ri =
        let y = swap_rows i p (column f.columns i) in
        step_cases i f (λ g. AtMost (bound r) (at g.columns r i)) (λ z. front i r (omega arith) il ri)
        (λ live. rw (step_here i p f here, entry_scale_before (i + 1) _ y r (omega arith)) (swapped_front i r (omega arith) il ri))

    finite_at : (j r : ℕ) → j < n → r < m → finite (at (step i f).columns r j) ≡ true
    finite_at j r jn rm =
        let cs = (step i f).columns in
        let shape : HasRows m cs = step_cases i f (λ g. HasRows m g.columns) (λ z. rows) (λ live. rows_pivot_step i p f m rows) in
        let many : length cs ≡ n = step_cases i f (λ g. length g.columns ≡ n) (λ z. wide) (λ live. length_pivot_step i p f ∙ wide) in
        finite_entry (column cs j) r (column_finite cs then j) (rw (shape j (rw many jn)) rm)

    -- the pivot is low enough, so the multipliers are within one
    multiplier_low : (r : ℕ) → i < r → r < m → AtMost one_units (at (step i f).columns r i)
    multiplier_low r ir rm =
        let c = column f.columns i in
        let long = rows i here in
        bounded (at (step i f).columns i i) (at (step i f).columns r i)
        (subst (λ (y : Column). Below (entry y i) (entry y r)) (sym (own_step m i f rows im here))
        (own_below i c (column_finite f.columns ok i) (rw long im) r ir (rw long rm)))
        (finite_at i r il rm) (at_most_more (bound i) most_units _ (bound_low i (omega arith)) (own_front i (omega arith)))

    -- ---- the columns to the right
    module _ (j : ℕ) (ij : i < j) (jn : j < n) where
      abbrev y : Column
      y = swap_rows i p (column f.columns j)

      long_y : length y ≡ m
      long_y = length_exchanged nan i p (column f.columns j) ∙ rows j (rw wide jn)

      right_front : (r : ℕ) → r ≤ i → AtMost (bound r) (at (step i f).columns r j)
      unfolding step_column
      right_front r ri =
          step_cases i f (λ g. AtMost (bound r) (at g.columns r j)) (λ z. front j r (omega arith) jn ri)
          (λ live. rw (step_right i p f j ij (rw wide jn), entry_axpy_before (i + 1) (neg (entry y i)) (packed i p f) y r (omega arith))
          (swapped_front j r (omega arith) jn ri))

      module _ (r : ℕ) (ir : i < r) (rm : r < m) where
        -- step 5 on one number
        changed : at (pivot_step i p f).columns r j ≡ add binary64 (mul binary64 (neg (entry y i)) (entry (packed i p f) r)) (entry y r)
        unfolding step_column
        changed =
            let long-l : length (packed i p f) ≡ length y =
            length_multipliers i _ ∙ length_exchanged nan i p (column f.columns i) ∙ rows i here ∙ sym long_y in
            ap (λ (z : Column). entry z r) (step_right i p f j ij (rw wide jn))
            ∙ entry_axpy_at (i + 1) (neg (entry y i)) (packed i p f) y r long-l (omega arith) (rw long_y rm)

        doubled : AtMost one_units (entry (packed i p f) r) → finite (at (pivot_step i p f).columns r j) ≡ true
            → AtMost (bound (suc i)) (at (pivot_step i p f).columns r j)
        doubled l t =
            let u' = neg (entry y i) in
            let s : finite (add binary64 (mul binary64 u' (entry (packed i p f) r)) (entry y r)) ≡ true = ap finite (sym changed) ∙ t in
            let product = product_at_most (bound i) u' (entry (packed i p f) r) (bound_double i (omega arith))
            (at_most_neg (bound i) (entry y i) (swapped_front j i (omega arith) jn (omega arith))) l (sum_finite _ _ s).0 in
            rw (changed, ← bound_twice i)
            (sum_at_most (bound i) (mul binary64 u' (entry (packed i p f) r)) (entry y r)
            (subst OfDouble (sym (bound_twice i)) (bound_double (suc i) (omega arith)))
            product (swapped_below j r (omega arith) jn (omega arith) rm) s)

        right_below : AtMost (bound (suc i)) (at (step i f).columns r j)
        right_below =
            step_cases i f (λ g. AtMost one_units (at g.columns r i) → finite (at g.columns r j) ≡ true → AtMost (bound (suc i)) (at g.columns r j))
            (λ z l t. at_most_more (bound i) (bound (suc i)) _ (bound_up i (suc i) (omega arith)) (u.below j r (omega arith) jn (omega arith) rm))
            (λ live l t. doubled (rw (step_here i p f here) at l) t) (multiplier_low r ir rm) (finite_at j r jn rm)

    left_front : (j r : ℕ) → j < i → r ≤ j → AtMost (bound r) (at (step i f).columns r j)
    left_front j r ji rj =
        step_cases i f (λ g. AtMost (bound r) (at g.columns r j)) (λ z. u.done j r ji rj)
        (λ live. rw (step_left i p f j ji here, exchanged_above nan i p (column f.columns j) r (omega arith) (omega (arith, low_row))) (u.done j r ji rj))

    step_under : Under (suc i) (step i f)
    step_under = record {
      done = λ j r h rj. elim (eq-or-lt_of_le (le_of_suc-le-suc h)) [ inl e ↦ rw e (own_front r (rw e at rj)) | inr l ↦ left_front j r l rj ];
      above = λ j r h jn ri. right_front j h jn r (le_of_suc-le-suc ri);
      below = λ j r h jn ir rm. right_below j h jn r ir rm;
    }

-- ---- all steps
module _ (m greatest : ℕ) (a : Matrix) (rows : HasRows m a) (ok : finite_in (eliminate m a) ≡ true) (room : Roomy greatest m (length a) a) where
  abbrev n : ℕ
  n = length a

  double : OfDouble greatest
  double = of_double room.top greatest room.double room.is

  steps_under : (k : ℕ) → k ≤ min m n → Under m n greatest double room.low k (steps k (unfactored a))
  unfolding turns_from
  steps_under zero h = record {
    done = λ j r l. absurd (not-suc-le-zero l);
    above = λ j r ij jn l. absurd (not-suc-le-zero l);
    below = λ j r ij jn ir rm. rw (mul-one greatest) (room.all j r jn rm);
  }
  steps_under (suc k) h =
      let f = steps k (unfactored a) in
      let next = steps_next k (unfactored a) in
      rw next
      (step_under m n greatest double room.low k f (rows_steps m k (unfactored a) rows) (length_steps k (unfactored a)) (omega arith) (omega arith)
      (steps_finite m k a (omega arith) ok) (rw next at (steps_finite m (suc k) a h ok)) (steps_under k (omega arith)))

  -- THEOREM. In row r of U no number is above 2 ^ r times the greatest of the matrix.
  pub eliminate_growth : GrownAtMost greatest m n (eliminate m a).columns
  unfolding eliminate
  eliminate_growth j r jn rm rj =
      let u = steps_under (min m n) (omega arith) in
      test_cases (ltb j (min m n)) (λ t. u.done j r (ltb-true j (min m n) t) rj)
      (λ t. let h : min m n ≤ j = ltb-false j (min m n) t in u.above j r h jn (omega arith))
