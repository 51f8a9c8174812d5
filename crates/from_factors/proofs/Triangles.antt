-- L and U hold the packed factors: each column of U down to its diagonal, with the column of L below it, is the packed column. By columns, cut at the
-- diagonal; a column right of L's last lies wholly in U. Assumes nothing.
use mathlib.Core.Path.{◌≡◌, sym, ap, ap₂, ◌∙◌}
use mathlib.Core.List.{[], ◌∷◌, ◌++◌, append-nil}
use Prim.Native.Nat.{ℕ, ◌+◌, ◌-◌, ◌≤◌, ◌<◌, min}
use native.Mathlib.Omega.{arith}
use borrow.Author.Tests.{ltb-true, ltb-false}
use lib.Dec.{ltb}
use lib.ListN.{length, take, drop, length-replicate, take-append-drop, get_or-eq_default}
use lib.Seq.{length-take-le, take_all, take_at, drop-nil, drop-append-add, ext_get_or}
use Rattle.numbers.specs.Each.{list_of}
use Rattle.numbers.specs.Numbers.{zero64, one64}
use Rattle.numbers.specs.Column.{Column, zeros}
use Rattle.numbers.proofs.Choice.{test_cases}
use Rattle.numbers.proofs.Each.{length_list, list_at}
use Rattle.store.specs.Columns.{HasRows}
use Rattle.store.specs.Steps.{Matrix, column}
use Rattle.from_factors.specs.Triangles.{lower_of, upper_of, lower_factor, upper_factor}

-- ---- one column of j rows above its diagonal
below : (j : ℕ) (c : Column) → drop (j + 1) (lower_of j c) ≡ drop (j + 1) c
unfolding lower_of
below j c =
    ap (λ (i : ℕ). drop (i + 1) (zeros j ++ one64 ∷ drop (j + 1) c)) (sym (length-replicate j zero64)) ∙ drop-append-add (zeros j) (one64 ∷ drop (j + 1) c) 1

module _ (k j : ℕ) (c : Column) (fits : k ≤ length c) where
  down_to : j < k → take (j + 1) (upper_of k j c) ≡ take (j + 1) c
  unfolding upper_of
  down_to h =
      let least : min k (j + 1) ≡ j + 1 = omega arith in
      rw least (take_at (take (j + 1) c) (zeros (k - (j + 1))) (j + 1) (length-take-le (j + 1) c (omega arith)))

  all_rows : k ≤ j → length c ≡ k → take (j + 1) (upper_of k j c) ≡ c
  unfolding upper_of
  all_rows h e =
      let least : min k (j + 1) ≡ k = omega arith in
      let none : k - (j + 1) ≡ 0 = omega arith in
      rw (least, none, append-nil, take_all k c (omega arith)) (take_all (j + 1) c (omega arith))

module _ (m : ℕ) (cs : Matrix) (rows : HasRows m cs) where
  -- U's column down to the diagonal, and L's below it
  abbrev joined : ℕ → Column
  joined j =
      let n = length cs in
      take (j + 1) (column (upper_factor (min m n) n cs) j) ++ drop (j + 1) (column (lower_factor (min m n) cs) j)

  joined_is : (j : ℕ) → j < length cs → joined j ≡ column cs j
  unfolding upper_factor lower_factor
  joined_is j h =
      let n = length cs in
      let k = min m n in
      let c = column cs j in
      let len : length c ≡ m = rows j h in
      let up : column (list_of n (λ i. upper_of k i (column cs i))) j ≡ upper_of k j c = list_at n _ j [] h in
      test_cases (ltb j k)
      (λ t.
      let hk : j < k = ltb-true j k t in
      let low : column (list_of k (λ i. lower_of i (column cs i))) j ≡ lower_of j c = list_at k _ j [] hk in
      ap₂ (λ (u l : Column). take (j + 1) u ++ drop (j + 1) l) up low ∙ ap₂ (λ (u l : Column). u ++ l) (down_to k j c (omega arith) hk) (below j c)
      ∙ take-append-drop (j + 1) c)
      (λ t.
      let hk : k ≤ j = ltb-false j k t in
      let low : column (list_of k (λ i. lower_of i (column cs i))) j ≡ [] =
      get_or-eq_default (list_of k (λ i. lower_of i (column cs i))) [] {n = j} (rw length_list hk) in
      ap₂ (λ (u l : Column). u ++ l) (ap (take (j + 1)) up ∙ all_rows k j c (omega arith) hk (omega arith)) (ap (drop (j + 1)) low ∙ drop-nil (j + 1))
      ∙ append-nil c)

  -- THEOREM. L and U put together are the packed factors.
  pub triangles_packed : let n = length cs in
      list_of n (λ j. take (j + 1) (column (upper_factor (min m n) n cs) j) ++ drop (j + 1) (column (lower_factor (min m n) cs) j)) ≡ cs
  triangles_packed =
      ext_get_or [] _ cs (length_list (length cs) joined) λ j g.
      let h : j < length cs = rw length_list at g in
      list_at (length cs) joined j [] h ∙ joined_is j h
