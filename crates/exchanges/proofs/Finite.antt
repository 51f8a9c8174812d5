-- Exchanging rows or columns changes nothing in the test of refusal 5. By induction on the columns; for columns each by itself, there and back.
-- Assumes nothing.
use mathlib.Core.Path.{◌≡◌, refl, sym, ap, ap₂, ◌∙◌}
use mathlib.Core.Bool.{Bool, true, false, ◌&&◌}
use mathlib.Core.List.{[], ◌∷◌}
use Prim.Native.Nat.{ℕ, suc}
use lib.ListN.{length}
use Rattle.numbers.specs.Each.{each_from}
use Rattle.numbers.specs.Column.{Column}
use Rattle.blas.specs.Blas.{swap_rows}
use Rattle.finite.specs.Finite.{all_finite}
use Rattle.numbers.proofs.Choice.{same_test, test_cases}
use Rattle.blas.proofs.Exchange.{other, exchanged_cases, get_d_exchanged, exchanged_twice}
use Rattle.finite.proofs.Finite.{finite_append, finite_swap}
use Rattle.store.specs.Columns.{columns, flat, is_matrix, on_columns}
use Rattle.store.specs.Steps.{Matrix, swap_in_all, columns_swapped}
use Rattle.store.proofs.Columns.{sized, flat_columns, on_none, on_flat}
use Rattle.store.proofs.Lasting.{column_finite, columns_finite}
use Rattle.swap_list.specs.SwapList.{Swaps}
use Rattle.exchanges.specs.Permute.{permute, exchange_of}
use Rattle.exchanges.proofs.Permute.{permuted_keeps}

-- ---- rows

each_finite : (f : ℕ → Column → Column) → ((k : ℕ) (c : Column) → all_finite (f k c) ≡ all_finite c) → (cs : Matrix)
    → all_finite (flat (each_from f 0 cs)) ≡ all_finite (flat cs)
unfolding each_from flat
each_finite f same [] = refl
each_finite f same (c ∷ cs) =
    finite_append (f 0 c) (flat (each_from (λ k. f (suc k)) 0 cs))
    ∙ ap₂ (λ (t u : Bool). t && u) (same 0 c) (each_finite (λ k. f (suc k)) (λ k. same (suc k)) cs)
    ∙ sym (finite_append c (flat cs))

rows_finite : (i j : ℕ) (cs : Matrix) → all_finite (flat (swap_in_all i j cs)) ≡ all_finite (flat cs)
unfolding swap_in_all
rows_finite i j cs = each_finite _ (λ k c. finite_swap i j c) cs

-- ---- columns

swapped_finite : (i j : ℕ) (cs : Matrix) → all_finite (flat (columns_swapped i j cs)) ≡ all_finite (flat cs)
swapped_finite i j cs = same_test _ _ (λ e. rw (exchanged_twice [] i j cs) at (keep (columns_swapped i j cs) e)) (keep cs)
  where
    keep : (ds : Matrix) → all_finite (flat ds) ≡ true → all_finite (flat (columns_swapped i j ds)) ≡ true
    keep ds e =
        exchanged_cases [] i j (length ds)
        (λ hi hj. columns_finite (columns_swapped i j ds) (λ k h. rw (get_d_exchanged [] i j ds k hi hj) (column_finite ds e (other i j k))))
        (λ stays. rw (stays ds refl) e)

pub exchange_finite : (columns : Bool) (i j : ℕ) (cs : Matrix) → all_finite (flat (exchange_of columns i j cs)) ≡ all_finite (flat cs)
exchange_finite true = swapped_finite
exchange_finite false = rows_finite

-- ---- one column, permuted
pub finite_permute : (swaps : Swaps) (c : Column) → all_finite (permute swaps c) ≡ all_finite c
finite_permute swaps c = permuted_keeps swap_rows (λ x. all_finite x ≡ all_finite c) (λ i j x e. finite_swap i j x ∙ e) swaps c refl

-- ---- a slice
pub finite_on : (m n : ℕ) (f : Matrix → Matrix) (s : Column) → ((cs : Matrix) → all_finite (flat (f cs)) ≡ all_finite (flat cs))
    → all_finite (on_columns m n f s) ≡ all_finite s
finite_on m n f s same =
    test_cases (is_matrix s m n)
    (λ h. ap all_finite (on_flat m n f s h) ∙ same (columns m n s) ∙ ap all_finite (flat_columns m n s (sized m n s h).size))
    (λ h. ap all_finite (sym (on_none m n f s h)))
