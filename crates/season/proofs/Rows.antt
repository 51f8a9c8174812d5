-- Rows of counts: one more at a place, as the code counts it and as a test of the place does; the sum of a row; a season's counts in a row and back. By
-- induction on the row. Assumes nothing.
use Rattle.std.proofs.Common.{◌≡◌, ℕ, zero, suc, ◌+◌, ◌^◌, ◌<◌, ◌≤◌, Bool, true, false, cond, eqb, List, [], ◌∷◌, length, get_or, set, sym, refl, ap, ◌∙◌}
use Rattle.std.proofs.Common.{ap₂, le_of_suc-le-suc, not-suc-le-zero, mod-eq_of_lt, add_comm, arith, length-set, get_or-set_other, get_or-set_same}
use Rattle.std.proofs.Common.{ext_get_or, eqb-true}
use borrow.Author.Tests.{eqb-false}
use lib.Seq.{set_out}
use Rattle.numbers.specs.Each.{list_of}
use Rattle.numbers.proofs.Choice.{test_cases}
use Rattle.numbers.proofs.Each.{length_list, list_at}
use Rattle.season.specs.declared.Season.{Season}
use Rattle.season.specs.Season.{plus, one_more_at, get_at, counts_of, season_from}

-- 1 for a test that passes
abbrev pub one : Bool → ℕ
one t = cond t 1 0

-- rows that agree at each place
pub row_same : (n : ℕ) (f g : ℕ → ℕ) → ((k : ℕ) → f k ≡ g k) → list_of n f ≡ list_of n g
unfolding list_of
row_same zero f g e = refl
row_same (suc n) f g e = ap₂ (λ (x : ℕ) (t : List ℕ). x ∷ t) (e 0) (row_same n (λ i. f (suc i)) (λ i. g (suc i)) (λ i. e (suc i)))

-- ---- one more at a place

-- past the end nothing is counted
pub past_end : (i : ℕ) (l : List ℕ) → length l ≤ i → l ≡ one_more_at i l
unfolding one_more_at
past_end i l h = sym (set_out l i (plus (get_or l i 0) 1) h)

-- a sum that is small does not wrap
pub small : (a b : ℕ) → a + b < 2 ^ 64 → plus a b ≡ b + a
small a b h = mod-eq_of_lt h ∙ add_comm a b

-- the test that place i alone passes
pub record Alone (test : ℕ → Bool) (i : ℕ) : Type 0 where
  pub here : test i ≡ true
  pub other : (k : ℕ) → (k ≡ i → ⊥) → test k ≡ false

pub one_more : (n : ℕ) (g : ℕ → ℕ) (test : ℕ → Bool) (i : ℕ) → Alone test i → i < n → g i + 1 < 2 ^ 64
    → one_more_at i (list_of n g) ≡ list_of n (λ k. one (test k) + g k)
unfolding one_more_at
one_more n g test i alone h m =
    rw (list_at n g i 0 h, small (g i) 1 m)
    (ext_get_or 0 (set (list_of n g) i (1 + g i)) (list_of n new) (length-set (list_of n g) i (1 + g i) ∙ length_list n g ∙ sym (length_list n new))
    (λ k l.
    let hk : k < n = omega (arith, l, length-set (list_of n g) i (1 + g i), length_list n g) in
    rw (list_at n new k 0 hk)
    (test_cases (eqb k i)
    (λ t.
    let same = eqb-true k i t in
    rw (same, alone.here) (get_or-set_same (list_of n g) i (1 + g i) 0 (rw (length_list n g) h)))
    (λ t.
    let differs = eqb-false k i t in
    rw (alone.other k differs) (get_or-set_other (list_of n g) i k (1 + g i) 0 differs ∙ list_at n g k 0 hk ∙ omega arith)))))
  where
    new : ℕ → ℕ
    new k = one (test k) + g k

-- ---- the sum of a row
abbrev pub row_sum : List ℕ → ℕ
row_sum [] = 0
row_sum (k ∷ ks) = k + row_sum ks

pub sum_added : (n : ℕ) (f g : ℕ → ℕ) → row_sum (list_of n (λ k. f k + g k)) ≡ row_sum (list_of n f) + row_sum (list_of n g)
unfolding list_of
sum_added zero f g = refl
sum_added (suc n) f g = let e = sum_added n (λ i. f (suc i)) (λ i. g (suc i)) in omega arith

pub sum_none : (n : ℕ) (test : ℕ → Bool) → ((k : ℕ) → test k ≡ false) → row_sum (list_of n (λ k. one (test k))) ≡ 0
unfolding list_of
sum_none zero test h = refl
sum_none (suc n) test h = rw (h 0) (let e = sum_none n (λ i. test (suc i)) (λ i. h (suc i)) in omega arith)

-- a test that one place of the row passes alone counts 1
pub sum_one : (n : ℕ) (test : ℕ → Bool) (i : ℕ) → Alone test i → i < n → row_sum (list_of n (λ k. one (test k))) ≡ 1
unfolding list_of
sum_one zero test i alone h = absurd (not-suc-le-zero h)
sum_one (suc n) test zero alone h =
    rw alone.here (let e = sum_none n (λ k. test (suc k)) (λ k. alone.other (suc k) (λ z. omega (arith, z))) in omega arith)
sum_one (suc n) test (suc i) alone h =
    let later : Alone (λ k. test (suc k)) i = record { here = alone.here; other = λ k d. alone.other (suc k) (λ e. d (omega (arith, e))) } in
    rw (alone.other 0 (λ z. omega (arith, z))) (let e = sum_one n (λ k. test (suc k)) i later (le_of_suc-le-suc h) in omega arith)

-- ---- a season's counts in a row, and back

row_of : (l : List ℕ) → list_of (length l) (get_at l) ≡ l
unfolding list_of
row_of [] = refl
row_of (x ∷ l) = ap (λ (t : List ℕ). x ∷ t) (row_of l)

row_at : (n : ℕ) (l : List ℕ) → length l ≡ n → list_of n (get_at l) ≡ l
row_at n l e = ap (λ (k : ℕ). list_of k (get_at l)) (sym e) ∙ row_of l

-- THEOREM. The counts of the season with these seventeen counts are these.
pub counts_back : (l : List ℕ) → length l ≡ 17 → counts_of (season_from l) ≡ l
unfolding list_of counts_of season_from
counts_back l e = row_at 17 l e

-- THEOREM. The season with a season's counts is that season.
pub season_back : (s : Season) → length s.refused ≡ 9 → length s.bands ≡ 5 → season_from (counts_of s) ≡ s
unfolding list_of counts_of season_from
season_back s e f =
    ap₂
    (λ (r b : List ℕ). record { files = s.files; accepted = s.accepted; refused = r; pads = s.pads; bands = b })
    (row_at 9 s.refused e)
    (row_at 5 s.bands f)
