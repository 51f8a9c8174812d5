-- Four steps on columns of the store that holds theirs too: what the columns are afterwards, which is what factoring and adding cite. Assumes nothing.
use mathlib.Core.Path.{◌≡◌, refl, sym, ap, ap₂, ◌∙◌}
use mathlib.Core.Bool.{true}
use mathlib.Core.List.{List, []}
use Prim.Native.Nat.{ℕ, ◌+◌, ◌*◌, ◌≤◌, ◌<◌, min}
use native.Mathlib.Omega.{arith}
use borrow.Author.Tests.{le-leb, leb-true}
use lib.Dec.{leb}
use lib.ListN.{length, set, length-set}
use lib.Seq.{get_or-set_other, set_out}
use lib.Ieee.{Float}
use Rattle.numbers.specs.Each.{each_from}
use Rattle.numbers.specs.Column.{Column}
use Rattle.numbers.proofs.Choice.{cond_cases}
use Rattle.numbers.proofs.Each.{length_each, each_step, each_same}
use Rattle.store.specs.Columns.{columns, is_matrix, on_columns}
use Rattle.store.specs.Steps.{Matrix, column}
use Rattle.one_step.proofs.Within.{set_cases}
use Rattle.store.proofs.Columns.{sized, length_columns, columns_rows, on_columns_lem, each_rows}
use Rattle.four_steps.specs.FourSteps.{step_by, four_steps, four_stepped, four_stepped_on, head_of}
use Rattle.four_steps.specs.FourSteps.{head_in, four_steps_in, tail_of, tail_left, tails_left, set_two, Onward}
use Rattle.four_steps.proofs.ByRows.{length_step_by, four_rows}
use Rattle.four_steps.proofs.Places.{full}
use Rattle.four_steps.proofs.Left.{head_by, put_one, put_two}

-- ---- the head, then the rows below it, are the four steps
module _ (i j m n : ℕ) (s : List Float) (len : length s ≡ n * m) (four : i + 4 ≤ m) (right : i + 4 ≤ j) where
  by_rows_lem : (q : ℕ) → j ≤ q → q < n
      → tail_of i (i + 4) (columns m n s) (head_of i (columns m n s) (column (columns m n s) q)) ≡ four_steps i (columns m n s) (column (columns m n s) q)
  by_rows_lem q h hq = four_rows i m (columns m n s) (column (columns m n s) q) four (full m n s q len hq) (λ k l. full m n s k len (omega arith))

  pub one_made : (t u : List Float) → j < n → columns m n t ≡ head_in i j (columns m n s)
      → columns m n u ≡ tail_left i j (i + 4) (columns m n t)
      → columns m n u ≡ four_steps_in i j (columns m n s)
  one_made t u hj eh et =
      et ∙ put_one i j (columns m n s) (columns m n t) right (i + 4) _ (rw length_columns hj) eh ∙ ap (set (columns m n s) j) (by_rows_lem j (omega arith) hj)

  pub two_made : (t t' v w u : List Float) (k r : ℕ) → j + 1 < n
      → columns m n t ≡ head_in i j (columns m n s) → columns m n t' ≡ head_in i (j + 1) (columns m n t)
      → tails_left i j k (columns m n v) ≡ tails_left i j (i + 4) (columns m n t') → tails_left i j r (columns m n w) ≡ tails_left i j k (columns m n v)
      → columns m n u ≡ tails_left i j r (columns m n w) → columns m n u ≡ set_two j (four_steps i (columns m n s)) (columns m n s)
  unfolding set_two
  two_made t t' v w u k r hj eh eh' by-four by_two by_one =
      let cs = columns m n s in
      by_one ∙ by_two ∙ by-four
      ∙ put_two i j cs (columns m n t') right (i + 4) (head_of i cs (column cs j)) (head_of i cs (column cs (j + 1))) (rw length_columns hj)
      (eh' ∙ ap₂ (λ (ds : Matrix) (c : Column). set ds (j + 1) c) eh
      (ap (head_of i (columns m n t)) (kept (j + 1) (λ e. omega arith)) ∙ head_by i (columns m n t) cs _ (λ q l. kept q (λ e. omega arith))))
      ∙ ap₂ (λ (a b : Column). set (set cs j a) (j + 1) b) (by_rows_lem j (omega arith) (omega arith)) (by_rows_lem (j + 1) (omega arith) hj)
    where
      kept : (q : ℕ) → (q ≡ j → ⊥) → column (columns m n t) q ≡ column (columns m n s) q
      kept q apart = ap (λ (ds : Matrix). column ds q) eh ∙ get_or-set_other (columns m n s) j q _ [] apart

length_four : (i : ℕ) (cs : Matrix) (c : Column) → length (four_steps i cs c) ≡ length c
unfolding four_steps
length_four i cs c = length_step_by cs (i + 3) _ ∙ length_step_by cs (i + 2) _ ∙ length_step_by cs (i + 1) _ ∙ length_step_by cs i c

-- ---- every column from one right of the four on
-- they go by the columns that they read
four_same : (i : ℕ) (a b : Matrix) (c : Column) → ((k : ℕ) → k < i + 4 → column a k ≡ column b k) → four_steps i a c ≡ four_steps i b c
unfolding four_steps step_by
four_same i a b c e = rw (e i (omega arith), e (i + 1) (omega arith), e (i + 2) (omega arith), e (i + 3) (omega arith)) refl

module _ (i j m n : ℕ) (s t : List Float) (right : i + 4 ≤ j) where
  pub one_onward : j < n → columns m n t ≡ four_steps_in i j (columns m n s)
      → Onward i j (columns m n s) (j + 1) (columns m n t)
  one_onward hj made =
      record {
        kept = λ k h. ap (λ (ds : Matrix). column ds k) made ∙ get_or-set_other (columns m n s) j k _ [] (λ e. omega arith);
        whole = ap (each_from (λ k c. four_steps i (columns m n s) c) (j + 1)) made
            ∙ each_step (λ k c. four_steps i (columns m n s) c) j (columns m n s) [] (rw length_columns hj);
      }

  pub two_onward : j + 1 < n → columns m n t ≡ set_two j (four_steps i (columns m n s)) (columns m n s) → Onward i j (columns m n s) (j + 2) (columns m n t)
  unfolding set_two
  two_onward hj made =
      let cs = columns m n s in
      let one = set cs j (four_steps i cs (column cs j)) in
      let other = get_or-set_other cs j (j + 1) (four_steps i cs (column cs j)) [] (λ e. omega arith) in
      let next : j + 2 ≡ j + 1 + 1 = omega arith in
      record {
        kept = λ k h. ap (λ (ds : Matrix). column ds k) made ∙ get_or-set_other one (j + 1) k _ [] (λ e. omega arith)
            ∙ get_or-set_other cs j k _ [] (λ e. omega arith);
        whole =
            ap₂ (λ (r : ℕ) (ds : Matrix). each_from (λ k c. four_steps i cs c) r ds) next
            (made ∙ ap (λ (c : Column). set one (j + 1) (four_steps i cs c)) (sym other))
            ∙ each_step (λ k c. four_steps i cs c) (j + 1) one [] (rw (length-set, length_columns) hj)
            ∙ each_step (λ k c. four_steps i cs c) j cs [] (rw length_columns (omega arith));
      }

-- a turn of the loop over the columns, those of the steps being as in ds
pub onward_turn : (i j r : ℕ) (cs cs' ds : Matrix) → Onward i j cs r cs' → ((k : ℕ) → k < i + 4 → column cs k ≡ column ds k)
    → each_from (λ k c. four_steps i ds c) r cs' ≡ each_from (λ k c. four_steps i ds c) j cs
onward_turn i j r cs cs' ds on same =
    each_same _ _ r cs' (λ k c h l. sym (four_same i cs ds c same)) ∙ on.whole ∙ each_same _ _ j cs (λ k c h l. four_same i cs ds c same)

module _ (i from m n : ℕ) (s : List Float) where
  pub stepped_is : i + 4 ≤ m → i + 4 ≤ from → four_stepped m i from (columns m n s) ≡ each_from (λ j c. four_steps i (columns m n s) c) from (columns m n s)
  unfolding four_stepped
  stepped_is hm hf = rw (le-leb (i + 4) (min m from) (omega arith))

  pub not_stepped : (i + 4 ≤ min m from → ⊥) → columns m n s ≡ four_stepped m i from (columns m n s)
  unfolding four_stepped
  not_stepped out = cond_cases (λ (x : Matrix). columns m n s ≡ x) (leb (i + 4) (min m from)) (λ t. absurd (out (leb-true (i + 4) (min m from) t))) (λ t. refl)

  -- THE LAW of the call, for those above
  pub stepped_columns : (t : List Float) → is_matrix s m n ≡ true → i + 4 ≤ m → i + 4 ≤ from → t ≡ on_columns m n (four_stepped m i from) s
      → columns m n t ≡ each_from (λ j c. four_steps i (columns m n s) c) from (columns m n s)
  stepped_columns t fits hm hf made =
      let cs = columns m n s in
      let is = stepped_is hm hf in
      ap (columns m n) made
      ∙ on_columns_lem m n (four_stepped m i from) s fits (ap length is ∙ length_each _ from cs ∙ length_columns m n s)
      (rw is (each_rows m (λ j c. four_steps i cs c) from cs (λ j c l. length_four i cs c ∙ l) (columns_rows m n s (sized m n s fits).size)))
      ∙ is

-- column j alone
module _ (i j m n : ℕ) (s : List Float) where
  pub on_is : i + 4 ≤ m → i + 4 ≤ j → four_stepped_on m i j (columns m n s) ≡ four_steps_in i j (columns m n s)
  unfolding four_stepped_on
  on_is hm hj = rw (le-leb (i + 4) (min m j) (omega arith))

  pub not_on : (i + 4 ≤ min m j → ⊥) → columns m n s ≡ four_stepped_on m i j (columns m n s)
  unfolding four_stepped_on
  not_on out = cond_cases (λ (x : Matrix). columns m n s ≡ x) (leb (i + 4) (min m j)) (λ t. absurd (out (leb-true (i + 4) (min m j) t))) (λ t. refl)

  -- no such column
  pub none_on : n ≤ j → columns m n s ≡ four_stepped_on m i j (columns m n s)
  unfolding four_stepped_on
  none_on out =
      cond_cases (λ (x : Matrix). columns m n s ≡ x) (leb (i + 4) (min m j)) (λ t. sym (set_out (columns m n s) j _ (rw length_columns out))) (λ t. refl)

  -- THE LAW of the call, for those above
  pub on_column : (t : List Float) → is_matrix s m n ≡ true → i + 4 ≤ m → i + 4 ≤ j → j < n → t ≡ on_columns m n (four_stepped_on m i j) s
      → columns m n t ≡ four_steps_in i j (columns m n s)
  on_column t fits hm right hj made =
      let cs = columns m n s in
      let len = (sized m n s fits).size in
      let is = on_is hm right in
      ap (columns m n) made
      ∙ on_columns_lem m n (four_stepped_on m i j) s fits (ap length is ∙ length-set cs j _ ∙ length_columns m n s)
      (rw is (λ k h. set_cases (λ (x : Column). length x ≡ m) cs j k (four_steps i cs (column cs j)) [] (rw length_columns hj)
      (λ e. length_four i cs (column cs j) ∙ full m n s j len hj)
      (λ d. full m n s k len (omega (arith, h, length-set cs j (four_steps i cs (column cs j)), length_columns m n s)))))
      ∙ is
