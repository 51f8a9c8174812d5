-- The rows of a column that is scaled or updated from a row on. Each change is stated row by row, and two columns are equal by their rows.
-- Assumes nothing.
use Prim.Native.Nat.{ℕ, ◌≤◌, ◌<◌}
use native.Mathlib.Omega.{arith}
use mathlib.Core.Path.{◌≡◌, refl, sym, ap, ap₂, ◌∙◌}
use borrow.Author.Tests.{ltb-true, ltb-false, eqb-true, eqb-false, eq-eqb, ne_eqb}
use lib.Dec.{ltb, eqb}
use lib.ListN.{length}
use lib.Seq.{ext_get_or}
use lib.Ieee.{Float, nan, binary64, add, mul}
use Rattle.numbers.specs.Column.{Column, entry}
use Rattle.blas.specs.Blas.{swap_rows, scale_from, axpy_from, copied}
use Rattle.numbers.proofs.Choice.{test_cases, cond_cases}
use Rattle.numbers.proofs.Each.{length_each, each_at, each_before, each_stop}
use Rattle.blas.proofs.Exchange.{other, other_same, other_from, other_range, exchanged_cases, length_exchanged, get_d_exchanged}

pub length_scale : (from : ℕ) (r : Float) (c : Column) → length (scale_from from r c) ≡ length c
unfolding scale_from
length_scale from r c = length_each _ from c

pub length_axpy : (from : ℕ) (u : Float) (x y : Column) → length (axpy_from from u x y) ≡ length y
unfolding axpy_from
length_axpy from u x y = cond_cases (λ (z : Column). length z ≡ length y) (eqb (length x) (length y)) (λ e. length_each _ from y) (λ e. refl)

-- a column as long is copied whole
pub copied_whole : (src dst : Column) → length src ≡ length dst → copied src dst ≡ src
unfolding copied
copied_whole src dst e = rw (eq-eqb (length src) (length dst) e)

pub entry_scale_at : (from : ℕ) (r : Float) (c : Column) (k : ℕ) → from ≤ k → k < length c → entry (scale_from from r c) k ≡ mul binary64 (entry c k) r
unfolding scale_from
entry_scale_at from r c k h hk = each_at _ from c k nan h hk

pub entry_scale_before : (from : ℕ) (r : Float) (c : Column) (k : ℕ) → k < from → entry (scale_from from r c) k ≡ entry c k
unfolding scale_from
entry_scale_before from r c k h = each_before _ from c k nan h

pub entry_axpy_at : (from : ℕ) (u : Float) (x y : Column) (k : ℕ) → length x ≡ length y → from ≤ k → k < length y
    → entry (axpy_from from u x y) k ≡ add binary64 (mul binary64 u (entry x k)) (entry y k)
unfolding axpy_from
entry_axpy_at from u x y k e h hk = rw (eq-eqb (length x) (length y) e) (each_at _ from y k nan h hk)

pub entry_axpy_before : (from : ℕ) (u : Float) (x y : Column) (k : ℕ) → k < from → entry (axpy_from from u x y) k ≡ entry y k
unfolding axpy_from
entry_axpy_before from u x y k h = cond_cases (λ z. entry z k ≡ entry y k) (eqb (length x) (length y)) (λ e. each_before _ from y k nan h) (λ e. refl)

-- an update from past the last row is none, and so is one by a column of another length
pub axpy_none : (from : ℕ) (u : Float) (x y : Column) → length y ≤ from → axpy_from from u x y ≡ y
unfolding axpy_from
axpy_none from u x y h = cond_cases (λ (z : Column). z ≡ y) (eqb (length x) (length y)) (λ e. each_stop _ from y h) (λ e. refl)

pub axpy_apart : (from : ℕ) (u : Float) (x y : Column) → (length x ≡ length y → ⊥) → axpy_from from u x y ≡ y
unfolding axpy_from
axpy_apart from u x y n = rw (ne_eqb (length x) (length y) n)

-- Exchanging rows a and b, both at or below `from`, and updating from there on by a column whose rows are exchanged too, in either order.
pub axpy_swap : (from a b : ℕ) (u : Float) (l c : Column) → from ≤ a → from ≤ b
    → axpy_from from u (swap_rows a b l) (swap_rows a b c) ≡ swap_rows a b (axpy_from from u l c)
axpy_swap from a b u l c fa fb =
    test_cases (eqb (length l) (length c))
    (λ t. let e = eqb-true (length l) (length c) t in
    exchanged_cases nan a b (length c)
    (λ ha hb. ext_get_or nan (axpy_from from u l' c') (swap_rows a b done) (simp (length_axpy, length_exchanged)) (rows e ha hb))
    (λ out. ap₂ (axpy_from from u) (out l e) (out c refl) ∙ sym (out done (length_axpy from u l c))))
    (λ t. let n = eqb-false (length l) (length c) t in
    axpy_apart from u l' c' (λ e. n (simp length_exchanged at e)) ∙ sym (ap (swap_rows a b) (axpy_apart from u l c n)))
  where
    l' : Column
    l' = swap_rows a b l

    c' : Column
    c' = swap_rows a b c

    done : Column
    done = axpy_from from u l c

    rows : length l ≡ length c → a < length c → b < length c → (k : ℕ) → k < length (axpy_from from u l' c')
        → entry (axpy_from from u l' c') k ≡ entry (swap_rows a b done) k
    rows e ha hb k h =
        let j = other a b k in
        let hk : k < length c = simp (length_axpy, length_exchanged) at h in
        let same : length l' ≡ length c' = simp length_exchanged e in
        let to : entry done j ≡ entry (swap_rows a b done) k = sym (get_d_exchanged nan a b done k (rw length_axpy ha) (rw length_axpy hb)) in
        test_cases (ltb k from)
        (λ t.
        let before : k < from = ltb-true k from t in
        let hj : j < from = rw (other_same a b k (omega arith) (omega arith)) before in
        entry_axpy_before from u l' c' k before ∙ get_d_exchanged nan a b c k ha hb ∙ sym (entry_axpy_before from u l c j hj) ∙ to)
        (λ t.
        let at : from ≤ k = ltb-false k from t in
        entry_axpy_at from u l' c' k same at (rw length_exchanged hk)
        ∙ ap₂ (λ x y. add binary64 (mul binary64 u x) y) (get_d_exchanged nan a b l k (rw e ha) (rw e hb)) (get_d_exchanged nan a b c k ha hb)
        ∙ sym (entry_axpy_at from u l c j e (other_from a b k from fa fb at) (other_range a b k (length c) ha hb hk))
        ∙ to)
