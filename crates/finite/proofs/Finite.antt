-- Which columns are finite: by their rows, so that an exchange of rows changes nothing; and the test row by row. Assumes nothing.
use Prim.Native.Nat.{ℕ, zero, suc, ◌+◌, ◌≤◌, ◌<◌}
use native.Mathlib.Nat.{not-suc-le-zero, le_of_suc-le-suc}
use native.Mathlib.Omega.{arith}
use mathlib.Core.Path.{◌≡◌, refl, sym, ap, ◌∙◌}
use mathlib.Core.Bool.{Bool, true, ◌&&◌, and_assoc}
use mathlib.Core.List.{[], ◌∷◌, ◌++◌}
use lib.ListN.{length, drop, drop_of_length-le}
use lib.Ieee.{nan, of_bits}
use lib.Ieee.Scale.{finite}
use Rattle.numbers.specs.Column.{Column, entry, zeros}
use Rattle.blas.specs.Blas.{swap_rows}
use Rattle.finite.specs.Finite.{all_finite}
use Rattle.numbers.proofs.Choice.{and_first, and_second, and_both, same_test}
use Rattle.numbers.proofs.Walk.{drop_next}
use Rattle.blas.proofs.Exchange.{other, other_range, exchanged_cases, length_exchanged, get_d_exchanged, exchanged_twice}

pub finite_entry : (c : Column) (k : ℕ) → all_finite c ≡ true → k < length c → finite (entry c k) ≡ true
unfolding all_finite
finite_entry [] k e h = absurd (not-suc-le-zero h)
finite_entry (x ∷ c) zero e h = and_first (finite x) (all_finite c) e
finite_entry (x ∷ c) (suc k) e h = finite_entry c k (and_second (finite x) (all_finite c) e) (le_of_suc-le-suc h)

pub entries_finite : (c : Column) → ((k : ℕ) → k < length c → finite (entry c k) ≡ true) → all_finite c ≡ true
unfolding all_finite
entries_finite [] f = refl
entries_finite (x ∷ c) f = and_both (finite x) (all_finite c) (f 0 (omega arith)) (entries_finite c (λ k h. f (suc k) (omega arith)))

pub finite_zeros : (n : ℕ) → all_finite (zeros n) ≡ true
unfolding all_finite of_bits
finite_zeros zero = refl
finite_zeros (suc n) = finite_zeros n

pub finite_append : (c d : Column) → all_finite (c ++ d) ≡ (all_finite c && all_finite d)
unfolding all_finite
finite_append [] d = refl
finite_append (x ∷ c) d = ap (λ (t : Bool). finite x && t) (finite_append c d) ∙ sym (and_assoc (finite x) (all_finite c) (all_finite d))

swap_finite : (a b : ℕ) (c : Column) → all_finite c ≡ true → all_finite (swap_rows a b c) ≡ true
swap_finite a b c e =
    exchanged_cases nan a b (length c)
    (λ ha hb. entries_finite (swap_rows a b c) λ k h.
    let hk : k < length c = rw length_exchanged at h in
    rw (get_d_exchanged nan a b c k ha hb) (finite_entry c (other a b k) e (other_range a b k (length c) ha hb hk)))
    (λ out. rw (out c refl) e)

pub finite_swap : (a b : ℕ) (c : Column) → all_finite (swap_rows a b c) ≡ all_finite c
finite_swap a b c =
    same_test _ _ (λ e. rw (exchanged_twice nan a b c) at (swap_finite a b (swap_rows a b c) e)) (swap_finite a b c)

-- ---- the test as a loop at row k meets it: one turn by its outcome, and the end
pub finite_next : (s : Column) (k : ℕ) → k < length s → (b : Bool) → finite (entry s k) ≡ b → all_finite (drop k s) ≡ (b && all_finite (drop (k + 1) s))
unfolding all_finite
finite_next s k h b e = ap all_finite (drop_next s k nan h) ∙ ap (λ (t : Bool). t && all_finite (drop (k + 1) s)) e

pub finite_end : (s : Column) (k : ℕ) → length s ≤ k → all_finite (drop k s) ≡ true
unfolding all_finite
finite_end s k h = ap all_finite (drop_of_length-le s h)
