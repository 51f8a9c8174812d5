-- Four steps on one column, row by row: the rows of the head, then those below, are what the four steps in turn give. Two columns are equal by their
-- rows. Assumes nothing.
use mathlib.Core.Path.{◌≡◌, refl, sym, ap, ap₂, ◌∙◌}
use Prim.Native.Nat.{ℕ, ◌+◌, ◌≤◌, ◌<◌}
use native.Mathlib.Omega.{arith}
use borrow.Author.Tests.{ltb-true, ltb-false, eqb-true, eqb-false}
use lib.Dec.{ltb, eqb}
use lib.ListN.{length, set, length-set}
use lib.Seq.{ext_get_or, get_or-set_same, get_or-set_other}
use lib.Ieee.{Float, nan, neg}
use Rattle.numbers.specs.Each.{each_from}
use Rattle.numbers.specs.Numbers.{plus_product}
use Rattle.numbers.specs.Column.{Column, entry}
use Rattle.numbers.proofs.Choice.{test_cases}
use Rattle.numbers.proofs.Each.{length_each, each_at, each_before}
use Rattle.blas.proofs.Rows.{entry_axpy_at, entry_axpy_before}
use Rattle.store.specs.Steps.{Matrix, column}
use Rattle.one_step.specs.OneStep.{step_column}
use Rattle.one_step.proofs.Shape.{length_step_column}
use Rattle.four_steps.specs.FourSteps.{step_by, four_steps, multiplier, head_of, minus_of, add_four, tail_of}

-- ---- one step, row by row
module _ (cs : Matrix) (k : ℕ) (c : Column) where
  pub length_step_by : length (step_by cs k c) ≡ length c
  unfolding step_by
  length_step_by = length_step_column k (column cs k) c

  step_at : (r : ℕ) → length (column cs k) ≡ length c → k < r → r < length c
      → entry (step_by cs k c) r ≡ plus_product (neg (entry c k)) (multiplier cs k r) (entry c r)
  unfolding step_by step_column plus_product
  step_at r e h hr = entry_axpy_at (k + 1) (neg (entry c k)) (column cs k) c r e (omega arith) hr

  step_before : (r : ℕ) → r ≤ k → entry (step_by cs k c) r ≡ entry c r
  unfolding step_by step_column
  step_before r h = entry_axpy_before (k + 1) (neg (entry c k)) (column cs k) c r (omega arith)

-- ---- four steps on a column c of m rows, by columns of m rows
module _ (i m : ℕ) (cs : Matrix) (c : Column) (four : i + 4 ≤ m) (len : length c ≡ m) (full : (k : ℕ) → k < i + 4 → length (column cs k) ≡ m) where
  abbrev c1 : Column
  c1 = step_by cs i c

  abbrev c2 : Column
  c2 = step_by cs (i + 1) c1

  abbrev c3 : Column
  c3 = step_by cs (i + 2) c2

  len1 : length c1 ≡ m
  len1 = length_step_by cs i c ∙ len

  len2 : length c2 ≡ m
  len2 = length_step_by cs (i + 1) c1 ∙ len1

  len3 : length c3 ≡ m
  len3 = length_step_by cs (i + 2) c2 ∙ len2

  -- the numbers after one, two and three steps
  abbrev v1 : ℕ → Float
  v1 r = plus_product (neg (entry c i)) (multiplier cs i r) (entry c r)

  abbrev v2 : ℕ → Float
  v2 r = plus_product (neg (v1 (i + 1))) (multiplier cs (i + 1) r) (v1 r)

  abbrev v3 : ℕ → Float
  v3 r = plus_product (neg (v2 (i + 2))) (multiplier cs (i + 2) r) (v2 r)

  one : (r : ℕ) → i < r → r < m → entry c1 r ≡ v1 r
  one r h hr = step_at cs i c r (full i (omega arith) ∙ sym len) h (rw len hr)

  two : (r : ℕ) → i + 1 < r → r < m → entry c2 r ≡ v2 r
  two r h hr =
      step_at cs (i + 1) c1 r (full (i + 1) (omega arith) ∙ sym len1) h (rw len1 hr)
      ∙ ap₂ (λ (x y : Float). plus_product (neg x) (multiplier cs (i + 1) r) y) (one (i + 1) (omega arith) (omega arith)) (one r (omega arith) hr)

  three : (r : ℕ) → i + 2 < r → r < m → entry c3 r ≡ v3 r
  three r h hr =
      step_at cs (i + 2) c2 r (full (i + 2) (omega arith) ∙ sym len2) h (rw len2 hr)
      ∙ ap₂ (λ (x y : Float). plus_product (neg x) (multiplier cs (i + 2) r) y) (two (i + 2) (omega arith) (omega arith)) (two r (omega arith) hr)

  four_at : (r : ℕ) → i + 3 < r → r < m → entry (step_by cs (i + 3) c3) r ≡ plus_product (neg (v3 (i + 3))) (multiplier cs (i + 3) r) (v3 r)
  four_at r h hr =
      step_at cs (i + 3) c3 r (full (i + 3) (omega arith) ∙ sym len3) h (rw len3 hr)
      ∙ ap₂ (λ (x y : Float). plus_product (neg x) (multiplier cs (i + 3) r) y) (three (i + 3) (omega arith) (omega arith)) (three r (omega arith) hr)

  -- ---- the rows of the head
  d1 : Column
  d1 = set c (i + 1) (v1 (i + 1))

  d2 : Column
  d2 = set d1 (i + 2) (v2 (i + 2))

  d : Column
  d = set d2 (i + 3) (v3 (i + 3))

  len_d1 : length d1 ≡ m
  unfolding d1
  len_d1 = length-set c (i + 1) _ ∙ len

  len_d2 : length d2 ≡ m
  unfolding d2
  len_d2 = length-set d1 (i + 2) _ ∙ len_d1

  len_d : length d ≡ m
  unfolding d
  len_d = length-set d2 (i + 3) _ ∙ len_d2

  head_is : head_of i cs c ≡ d
  unfolding head_of d d1 d2
  head_is = refl

  at1 : entry d (i + 1) ≡ v1 (i + 1)
  unfolding d d2 d1
  at1 =
      get_or-set_other d2 (i + 3) (i + 1) _ nan (λ e. omega arith) ∙ get_or-set_other d1 (i + 2) (i + 1) _ nan (λ e. omega arith)
      ∙ get_or-set_same c (i + 1) _ nan (rw len (omega arith))

  at2 : entry d (i + 2) ≡ v2 (i + 2)
  unfolding d d2
  at2 = get_or-set_other d2 (i + 3) (i + 2) _ nan (λ e. omega arith) ∙ get_or-set_same d1 (i + 2) _ nan (rw len_d1 (omega arith))

  at3 : entry d (i + 3) ≡ v3 (i + 3)
  unfolding d
  at3 = get_or-set_same d2 (i + 3) _ nan (rw len_d2 (omega arith))

  other : (r : ℕ) → (r ≡ i + 1 → ⊥) → (r ≡ i + 2 → ⊥) → (r ≡ i + 3 → ⊥) → entry d r ≡ entry c r
  unfolding d d2 d1
  other r n1 n2 n3 = get_or-set_other d2 (i + 3) r _ nan n3 ∙ get_or-set_other d1 (i + 2) r _ nan n2 ∙ get_or-set_other c (i + 1) r _ nan n1

  -- ---- row by row the two are one
  abbrev Same : ℕ → Type 0
  Same r = entry d r ≡ entry (step_by cs (i + 3) c3) r

  -- a row that a step does not reach
  kept3 : (r : ℕ) → r ≤ i + 3 → entry c3 r ≡ entry (step_by cs (i + 3) c3) r
  kept3 r h = sym (step_before cs (i + 3) c3 r h)

  kept2 : (r : ℕ) → r ≤ i + 2 → entry c2 r ≡ entry (step_by cs (i + 3) c3) r
  kept2 r h = sym (step_before cs (i + 2) c2 r h) ∙ kept3 r (omega arith)

  kept1 : (r : ℕ) → r ≤ i + 1 → entry c1 r ≡ entry (step_by cs (i + 3) c3) r
  kept1 r h = sym (step_before cs (i + 1) c1 r h) ∙ kept2 r (omega arith)

  above : (r : ℕ) → r < i + 4 → Same r
  above r h =
      test_cases (eqb r (i + 3))
      (λ t. rw (eqb-true r (i + 3) t) (at3 ∙ sym (three (i + 3) (omega arith) (omega arith)) ∙ kept3 (i + 3) (omega arith)))
      (λ t3. let n3 = eqb-false r (i + 3) t3 in test_cases (eqb r (i + 2))
      (λ t. rw (eqb-true r (i + 2) t) (at2 ∙ sym (two (i + 2) (omega arith) (omega arith)) ∙ kept2 (i + 2) (omega arith)))
      (λ t2. let n2 = eqb-false r (i + 2) t2 in test_cases (eqb r (i + 1))
      (λ t. rw (eqb-true r (i + 1) t) (at1 ∙ sym (one (i + 1) (omega arith) (omega arith)) ∙ kept1 (i + 1) (omega arith)))
      (λ t1. let n1 = eqb-false r (i + 1) t1 in
      other r n1 n2 n3 ∙ sym (step_before cs i c r (omega arith)) ∙ kept1 r (omega arith))))

  -- the rows below, by the numbers that the head holds
  abbrev done : Column
  done = each_from (add_four i cs (minus_of i d)) (i + 4) d

  below : (r : ℕ) → i + 4 ≤ r → r < m → entry done r ≡ entry (step_by cs (i + 3) c3) r
  unfolding add_four minus_of
  below r h hr =
      each_at (add_four i cs (minus_of i d)) (i + 4) d r nan h (rw len_d hr)
      ∙ rw (
        other i (λ e. omega arith) (λ e. omega arith) (λ e. omega arith),
        at1,
        at2,
        at3,
        other r (λ e. omega arith) (λ e. omega arith) (λ e. omega arith),
      ) (sym (four_at r (omega arith) hr))

  rows : (r : ℕ) → r < length done → entry done r ≡ entry (step_by cs (i + 3) c3) r
  rows r h =
      let hr : r < m = rw (length_each, len_d) at h in
      test_cases (ltb r (i + 4))
      (λ t. let a = ltb-true r (i + 4) t in each_before _ (i + 4) d r nan a ∙ above r a)
      (λ t. below r (ltb-false r (i + 4) t) hr)

  -- THE LAW of four steps on one column: the head, then the rows below it
  pub four_rows : tail_of i (i + 4) cs (head_of i cs c) ≡ four_steps i cs c
  unfolding tail_of four_steps
  four_rows =
      ap (tail_of i (i + 4) cs) head_is
      ∙ ext_get_or nan done (step_by cs (i + 3) c3) (length_each _ (i + 4) d ∙ len_d ∙ sym (length_step_by cs (i + 3) c3 ∙ len3)) rows
