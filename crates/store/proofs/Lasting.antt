-- A matrix is finite where each column is. So what its columns are changed by lasts in the whole, as step 3's swap does. Assumes nothing.
use mathlib.Core.Path.{◌≡◌, refl, sym, ◌∙◌}
use mathlib.Core.Bool.{true}
use mathlib.Core.List.{[], ◌∷◌}
use Prim.Native.Nat.{ℕ, zero, suc, ◌<◌}
use native.Mathlib.Omega.{arith}
use borrow.Author.Tests.{ltb-true, ltb-false}
use lib.Dec.{ltb}
use lib.ListN.{length}
use Rattle.numbers.specs.Each.{each_from}
use Rattle.numbers.specs.Column.{Column}
use Rattle.finite.specs.Finite.{all_finite}
use Rattle.numbers.proofs.Choice.{test_cases, and_first, and_second, and_both}
use Rattle.numbers.proofs.Each.{each_at, each_before}
use Rattle.finite.proofs.Finite.{finite_append, finite_swap}
use Rattle.store.specs.Columns.{flat}
use Rattle.store.specs.Steps.{Matrix, column, swap_in_all}

pub column_finite : (cs : Matrix) → all_finite (flat cs) ≡ true → (j : ℕ) → all_finite (column cs j) ≡ true
unfolding flat all_finite
column_finite [] e j = refl
column_finite (c ∷ cs) e zero = and_first (all_finite c) (all_finite (flat cs)) (sym (finite_append c (flat cs)) ∙ e)
column_finite (c ∷ cs) e (suc j) = column_finite cs (and_second (all_finite c) (all_finite (flat cs)) (sym (finite_append c (flat cs)) ∙ e)) j

pub columns_finite : (cs : Matrix) → ((j : ℕ) → j < length cs → all_finite (column cs j) ≡ true) → all_finite (flat cs) ≡ true
unfolding flat all_finite
columns_finite [] f = refl
columns_finite (c ∷ cs) f =
    finite_append c (flat cs) ∙ and_both (all_finite c) (all_finite (flat cs)) (f 0 (omega arith)) (columns_finite cs (λ j h. f (suc j) (omega arith)))

-- each column from column k on is changed in a way that lasts
pub each_columns_finite : (f : ℕ → Column → Column) → ((j : ℕ) (c : Column) → all_finite (f j c) ≡ true → all_finite c ≡ true)
    → (k : ℕ) (cs : Matrix) → all_finite (flat (each_from f k cs)) ≡ true → all_finite (flat cs) ≡ true
each_columns_finite f lasts k cs e = columns_finite cs λ j h.
    let done = column_finite (each_from f k cs) e j in
    test_cases (ltb j k)
    (λ t. rw (each_before f k cs j [] (ltb-true j k t)) at done)
    (λ t. lasts j (column cs j) (rw (each_at f k cs j [] (ltb-false j k t) h) at done))

module _ (i : ℕ) where
  pub swap_in_all_finite : (p : ℕ) (cs : Matrix) → all_finite (flat (swap_in_all i p cs)) ≡ true → all_finite (flat cs) ≡ true
  unfolding swap_in_all
  swap_in_all_finite p cs = each_columns_finite _ (λ j c e. sym (finite_swap i p c) ∙ e) 0 cs
