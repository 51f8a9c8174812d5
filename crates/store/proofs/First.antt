-- The first number of a matrix, column by column, that is not finite: it is one, all before it are finite, and there is one such place only. In
-- the flat store it stands at column times rows plus row. Assumes nothing.
use mathlib.Core.Path.{◌≡◌, sym, ap, ◌∙◌}
use mathlib.Core.Logic.{◌↔◌}
use mathlib.Core.Bool.{true, false, true≢false}
use mathlib.Core.List.{[], ◌∷◌, ◌++◌}
use Prim.Native.Nat.{ℕ, suc, ◌+◌, ◌*◌, ◌≤◌, ◌<◌}
use native.Mathlib.Nat.{le_of_suc-le-suc, lt_of_not-le, zero-mul, suc-mul}
use native.Mathlib.Omega.{arith}
use lib.ListN.{length}
use lib.Ieee.{nan}
use lib.Ieee.Scale.{finite}
use Rattle.numbers.specs.First.{first_failing}
use Rattle.numbers.specs.Column.{Column, entry}
use Rattle.finite.specs.Finite.{all_finite}
use Rattle.numbers.specs.Each.{each_from}
use Rattle.numbers.proofs.Choice.{test_cases, and_first, and_second}
use Rattle.numbers.proofs.Each.{length_each, each_at}
use Rattle.numbers.proofs.Lasting.{lasting}
use Rattle.finite.proofs.Finite.{finite_entry, entries_finite, finite_append}
use Rattle.numbers.proofs.First.{failing_fails, failing_before}
use Rattle.store.specs.Columns.{flat, HasRows}
use Rattle.store.specs.Steps.{Matrix, column}
use Rattle.store.specs.First.{column_of, row_of}
use Rattle.store.proofs.Lasting.{column_finite, columns_finite}

-- the number in row r of column j is the first
pub record FirstIn (cs : Matrix) (j r : ℕ) : Type 0 where
  pub wide : j < length cs
  pub long : r < length (column cs j)
  pub fails : finite (entry (column cs j) r) ≡ false
  pub columns_before : (k : ℕ) → k < j → all_finite (column cs k) ≡ true
  pub rows_before : (k : ℕ) → k < r → finite (entry (column cs j) k) ≡ true

pub first_in : (cs : Matrix) → all_finite (flat cs) ≡ false → FirstIn cs (column_of cs) (row_of cs)
first_in cs e =
    let j = column_of cs in
    let wide : j < length cs = lt_of_not-le (λ (h : length cs ≤ j). true≢false
    (sym (columns_finite cs (λ k hk. failing_before all_finite [] cs k (omega arith))) ∙ e)) in
    let c = column cs j in
    let bad : all_finite c ≡ false = failing_fails all_finite [] cs wide in
    let long : row_of cs < length c =
    lt_of_not-le (λ (h : length c ≤ row_of cs). true≢false (sym (entries_finite c (λ k hk. failing_before finite nan c k (omega arith))) ∙ bad)) in
    record {
      wide = wide;
      long = long;
      fails = failing_fails finite nan c long;
      columns_before = failing_before all_finite [] cs;
      rows_before = failing_before finite nan c;
    }

-- there is one such place only
first_least : (cs : Matrix) (j r k q : ℕ) → FirstIn cs j r → FirstIn cs k q → k ≤ j
first_least cs j r k q x y =
    le_of_suc-le-suc (lt_of_not-le λ (h : j < k). true≢false (sym (finite_entry (column cs j) r (y.columns_before j h) x.long) ∙ x.fails))

first_above : (cs : Matrix) (j r q : ℕ) → FirstIn cs j r → FirstIn cs j q → q ≤ r
first_above cs j r q x y = le_of_suc-le-suc (lt_of_not-le λ (h : r < q). true≢false (sym (y.rows_before r h) ∙ x.fails))

pub first_one : (cs : Matrix) (j r k q : ℕ) → FirstIn cs j r → FirstIn cs k q → (j ≡ k) × (r ≡ q)
first_one cs j r k q x y =
    let same : j ≡ k = omega (arith, first_least cs j r k q x y, first_least cs k q j r y x) in
    let x' : FirstIn cs k r = rw same at x in
    (same, omega (arith, first_above cs k r q x' y, first_above cs k q r y x'))

-- ---- in the flat store
-- a finite column is passed, and another is not
module _ (more : Column) where
  past : (c : Column) → all_finite c ≡ true → first_failing finite (c ++ more) ≡ length c + first_failing finite more
  unfolding all_finite first_failing
  past [] e = omega arith
  past (x ∷ c) e =
      let fx = and_first (finite x) (all_finite c) e in
      let rest = past c (and_second (finite x) (all_finite c) e) in
      rw fx (omega (arith, rest))

  within : (c : Column) → all_finite c ≡ false → first_failing finite (c ++ more) ≡ first_failing finite c
  unfolding all_finite first_failing
  within [] e = absurd (true≢false e)
  within (x ∷ c) e =
      test_cases (finite x) (λ t. rw t (ap suc (within c (rw t at e)))) (λ t. rw t)

pub first_flat : (m : ℕ) (cs : Matrix) → HasRows m cs → all_finite (flat cs) ≡ false → first_failing finite (flat cs) ≡ column_of cs * m + row_of cs
unfolding flat first_failing all_finite
first_flat m [] rows e = absurd (true≢false e)
first_flat m (c ∷ cs) rows e =
    let long : length c ≡ m = rows 0 (omega arith) in
    test_cases (all_finite c)
    (λ t.
    let left : all_finite (flat cs) ≡ false = rw t at (sym (finite_append c (flat cs)) ∙ e) in
    let rest = first_flat m cs (λ j h. rows (suc j) (omega arith)) left in
    rw t (past (flat cs) c t ∙ omega (arith, long, rest, suc-mul (column_of cs) m)))
    (λ t. rw t (within (flat cs) c t ∙ omega (arith, zero-mul m)))

-- ---- a matrix made column by column holds a number that is not finite exactly when some column does
pub each_spoilt : (f : Column → Column) (cs : Matrix)
    → (all_finite (flat (each_from (λ _ c. f c) 0 cs)) ≡ false) ↔ ((j : ℕ) × (j < length cs) × (all_finite (f (column cs j)) ≡ false))
each_spoilt f cs =
    let made = each_from (λ _ c. f c) 0 cs in
    let at : (j : ℕ) → j < length cs → column made j ≡ f (column cs j) = λ j h. each_at (λ _ c. f c) 0 cs j [] (omega arith) h in (
      λ bad.
          let first = first_in made bad in
          let j = column_of made in
          let c = column made j in
          let h : j < length cs = rw (length_each (λ _ c. f c) 0 cs) at first.wide in
          let spoilt = lasting (finite (entry c (row_of made))) (all_finite c) (λ e. finite_entry c (row_of made) e first.long) first.fails in
          (j, h, ap all_finite (sym (at j h)) ∙ spoilt),
      λ s. lasting (all_finite (f (column cs s.0))) (all_finite (flat made))
          (λ e. ap all_finite (sym (at s.0 s.1)) ∙ column_finite made e s.0) s.2,
    )
