-- How the number of dead columns goes: along a walk of the diagonal, with one column more, and under an exchange of rows that no diagonal reaches. By
-- induction on the columns. Assumes nothing.
use mathlib.Core.Path.{◌≡◌, refl, sym, ap, ap₂, ◌∙◌}
use mathlib.Core.Bool.{true}
use mathlib.Core.List.{[], ◌∷◌, ◌++◌}
use Prim.Native.Nat.{ℕ, suc, ◌+◌, ◌*◌, ◌≤◌, ◌<◌, min}
use native.Mathlib.Nat.{add-zero, zero-add}
use native.Mathlib.Numerals.{add-one}
use native.Mathlib.Omega.{arith}
use borrow.Author.Tests.{ltb-true, ltb-false}
use lib.Dec.{ltb}
use lib.ListN.{length, take, drop, length-append, length-take, drop_of_length-le, get_or-eq_default}
use lib.Seq.{take_all, take-append-le, get_or-take}
use lib.Ieee.{Float, nan, eq}
use Rattle.numbers.specs.Numbers.{is_zero}
use Rattle.numbers.specs.Column.{Column, entry}
use Rattle.numbers.proofs.Choice.{test_cases, cond_cases}
use Rattle.numbers.proofs.Each.{each_at}
use Rattle.numbers.proofs.Walk.{drop_next}
use Rattle.blas.specs.Blas.{swap_rows}
use Rattle.blas.proofs.Exchange.{exchanged_above}
use Rattle.store.specs.Columns.{columns, is_matrix}
use Rattle.store.specs.Steps.{Matrix, column, swap_in_all}
use Rattle.store.proofs.Columns.{entry_at, length_columns}
use Rattle.store.proofs.Steps.{length_swap_in_all}
use Rattle.dead_columns.specs.Dead.{zero_count, dead_at, dead_from, dead_in, dead_of}

-- ---- bounds
pub count_most : (x : Float) → zero_count x ≤ 1
unfolding zero_count
count_most x = cond_cases (λ (k : ℕ). k ≤ 1) (is_zero x) (λ _. omega arith) (λ _. omega arith)

from_most : (j : ℕ) (cs : Matrix) → dead_from j cs ≤ length cs
unfolding dead_from
from_most j [] = omega arith
from_most j (c ∷ cs) = omega (arith, count_most (entry c j), from_most (suc j) cs)

-- no more columns are dead than there are rows, or columns
pub dead_most : (m : ℕ) (cs : Matrix) → dead_in m cs ≤ min m (length cs)
unfolding dead_in
dead_most m cs = omega (arith, from_most 0 (take m cs), length-take m cs)

pub dead_none : (m : ℕ) → dead_in m [] ≡ 0
dead_none m = omega (arith, dead_most m [])

-- ---- the walk: what is left to count from column j on
module _ (m n : ℕ) (s : Column) where
  abbrev pub diagonals : Matrix
  diagonals = take m (columns m n s)

  diagonals_length : length diagonals ≡ min m n
  diagonals_length = length-take m (columns m n s) ∙ ap (min m) (length_columns m n s)

  pub walk_next : (j : ℕ) → j < min m n
      → dead_from j (drop j diagonals) ≡ zero_count (entry s (j * m + j)) + dead_from (j + 1) (drop (j + 1) diagonals)
  unfolding dead_from
  walk_next j h =
      let there : entry (column diagonals j) j ≡ entry s (j * m + j) =
      ap (λ (c : Column). entry c j) (get_or-take m (columns m n s) j [] (omega arith)) ∙ sym (entry_at m n j j s nan (omega arith) (omega arith)) in
      ap (dead_from j) (drop_next diagonals j [] (omega (arith, diagonals_length)))
      ∙ (λ i. zero_count (there i) + dead_from (sym (add-one j) i) (drop (j + 1) diagonals))

  pub walk_end : (j : ℕ) → min m n ≤ j → dead_from j (drop j diagonals) ≡ 0
  unfolding dead_from
  walk_end j h =
      let past : length diagonals ≤ j = omega (arith, diagonals_length) in
      ap (dead_from j) (drop_of_length-le diagonals past)

  pub held_dead : is_matrix s m n ≡ true → dead_of s m n ≡ dead_in m (columns m n s)
  unfolding dead_of
  held_dead e = rw e

-- ---- the number goes by the diagonal alone
from_same : (j : ℕ) (cs ds : Matrix) → length cs ≡ length ds
    → ((k : ℕ) → k < length cs → entry (column cs k) (j + k) ≡ entry (column ds k) (j + k)) → dead_from j cs ≡ dead_from j ds
unfolding dead_from
from_same j [] [] e h = refl
from_same j [] (d ∷ ds) e h = absurd (omega (arith, e))
from_same j (c ∷ cs) [] e h = absurd (omega (arith, e))
from_same j (c ∷ cs) (d ∷ ds) e h =
    ap₂ (λ (a b : ℕ). a + b) (ap zero_count (rw add-zero at (h 0 (omega arith))))
    (from_same (suc j) cs ds (omega (arith, e)) (λ k q. rw (shift k) at (h (suc k) (omega arith))))
  where
    shift : (k : ℕ) → j + suc k ≡ suc j + k
    shift k = omega arith

-- rows from the number of columns on can be exchanged in all of them: no diagonal stands there
pub dead_swapped : (m i p : ℕ) (cs : Matrix) → length cs ≤ i → length cs ≤ p → dead_in m (swap_in_all i p cs) ≡ dead_in m cs
unfolding dead_in swap_in_all
dead_swapped m i p cs hi hp =
    from_same 0 (take m (swap_in_all i p cs)) (take m cs) (length-take m _ ∙ ap (min m) (length_swap_in_all i p cs) ∙ sym (length-take m cs))
    (λ k q.
    let shorter : k < min m (length cs) = omega (arith, length-take m (swap_in_all i p cs), length_swap_in_all i p cs, q) in
    let swapped : column (swap_in_all i p cs) k ≡ swap_rows i p (column cs k) = each_at (λ j c. swap_rows i p c) 0 cs k [] (omega arith) (omega arith) in
    rw (zero-add k) (ap (λ (c : Column). entry c k) (get_or-take m (swap_in_all i p cs) k [] (omega arith) ∙ swapped)
    ∙ exchanged_above nan i p (column cs k) k (omega arith) (omega arith)
    ∙ ap (λ (c : Column). entry c k) (sym (get_or-take m cs k [] (omega arith)))))

-- ---- one column more
from_snoc : (j : ℕ) (cs : Matrix) (c : Column) → dead_from j (cs ++ c ∷ []) ≡ dead_from j cs + dead_at (j + length cs) c
unfolding dead_from
from_snoc j [] c = let here : j + 0 ≡ j = add-zero j in omega (arith, ap (λ (k : ℕ). dead_at k c) here)
from_snoc j (d ∷ cs) c =
    let next = from_snoc (suc j) cs c in
    let shift : suc j + length cs ≡ j + suc (length cs) = omega arith in
    omega (arith, next, ap (λ (k : ℕ). dead_at k c) shift)

pub past_last : (j : ℕ) (c : Column) → length c ≤ j → dead_at j c ≡ 0
unfolding zero_count is_zero eq
past_last j c h = ap zero_count (get_or-eq_default c nan h)

-- THEOREM. A further column of m entries is dead or not by its own diagonal; past the last row it has none.
pub dead_snoc : (m : ℕ) (cs : Matrix) (c : Column) → length c ≡ m → dead_in m (cs ++ c ∷ []) ≡ dead_in m cs + dead_at (length cs) c
unfolding dead_in
dead_snoc m cs c e =
    test_cases (ltb (length cs) m)
    (λ t. let h = ltb-true (length cs) m t in
    rw (take_all m (cs ++ c ∷ []) (omega (arith, length-append cs (c ∷ []))), take_all m cs (omega arith))
    (from_snoc 0 cs c ∙ ap (λ (k : ℕ). dead_from 0 cs + dead_at k c) (zero-add (length cs))))
    (λ t. let h = ltb-false (length cs) m t in
    rw (take-append-le m cs (c ∷ []) h, past_last (length cs) c (omega arith)) (sym (add-zero _)))
