-- Two entries of a list exchanged: each entry afterwards is that of the other place, and exchanging twice restores. Where the list lacks one of the
-- two places nothing changes, so most laws ask for no size. Assumes nothing.
use Prim.Native.Nat.{ℕ, ◌≤◌, ◌<◌}
use native.Mathlib.Omega.{arith}
use mathlib.Core.Path.{◌≡◌, refl, sym, ap, ◌∙◌}
use mathlib.Core.Bool.{cond, ◌&&◌}
use mathlib.Core.List.{List}
use borrow.Author.Tests.{ltb-true, eqb-true, eqb-false, lt-ltb}
use lib.Dec.{ltb, eqb}
use lib.ListN.{length, get_or, set, length-set}
use lib.Seq.{get_or-set_same, get_or-set_other, set-get_or, set-set, ext_get_or}
use Rattle.blas.specs.Blas.{exchanged}
use Rattle.numbers.proofs.Choice.{test_cases, cond_cases, and_first, and_second}

-- ---- the row that stands at k once rows a and b are exchanged
abbrev pub other : ℕ → ℕ → ℕ → ℕ
other a b k = cond (eqb k b) a (cond (eqb k a) b k)

pub other_cases : (P : ℕ → Type 0) (a b k : ℕ) → (k ≡ b → P a) → ((k ≡ b → ⊥) → k ≡ a → P b) → ((k ≡ b → ⊥) → (k ≡ a → ⊥) → P k) → P (other a b k)
other_cases P a b k at_b at_a else =
    cond_cases P (eqb k b) (λ e. at_b (eqb-true k b e))
    (λ e. cond_cases P (eqb k a) (λ d. at_a (eqb-false k b e) (eqb-true k a d)) (λ d. else (eqb-false k b e) (eqb-false k a d)))

pub other_first : (a b : ℕ) → other a b a ≡ b
other_first a b = other_cases (λ x. x ≡ b) a b a (λ e. e) (λ n e. refl) (λ n m. absurd (m refl))

pub other_second : (a b : ℕ) → other a b b ≡ a
other_second a b = other_cases (λ x. x ≡ a) a b b (λ e. refl) (λ n e. e) (λ n m. absurd (n refl))

pub other_else : (a b k : ℕ) → (k ≡ b → ⊥) → (k ≡ a → ⊥) → other a b k ≡ k
other_else a b k n m = other_cases (λ x. x ≡ k) a b k (λ e. absurd (n e)) (λ _ e. absurd (m e)) (λ _ _. refl)

pub other_other : (a b k : ℕ) → other a b (other a b k) ≡ k
other_other a b k =
    other_cases (λ x. other a b x ≡ k) a b k (λ e. other_first a b ∙ sym e) (λ n e. other_second a b ∙ sym e) (λ n m. other_else a b k n m)

-- above both rows nothing moves, and what is at or below `from` stays there
pub other_same : (a b k : ℕ) → k < a → k < b → other a b k ≡ k
other_same a b k ha hb = other_else a b k (λ e. omega arith) (λ e. omega arith)

pub other_from : (a b k from : ℕ) → from ≤ a → from ≤ b → from ≤ k → from ≤ other a b k
other_from a b k from ha hb hk = other_cases (λ x. from ≤ x) a b k (λ e. ha) (λ n e. hb) (λ n m. hk)

pub other_range : (a b k n : ℕ) → a < n → b < n → k < n → other a b k < n
other_range a b k n ha hb hk = other_cases (λ x. x < n) a b k (λ e. ha) (λ n e. hb) (λ n m. hk)

-- ---- two entries exchanged
module _ {A : Type 0} (d : A) (a b : ℕ) where
  -- lists of n entries have both rows, or all of them stay
  pub exchanged_cases : {Q : Type 0} (n : ℕ) → (a < n → b < n → Q) → (((l : List A) → length l ≡ n → exchanged d a b l ≡ l) → Q) → Q
  unfolding exchanged
  exchanged_cases n f g =
      test_cases (ltb a n && ltb b n)
      (λ e. f (ltb-true a n (and_first (ltb a n) (ltb b n) e)) (ltb-true b n (and_second (ltb a n) (ltb b n) e)))
      (λ e. g (λ l h. rw (h, e)))

  pub exchanged_is : (l : List A) → a < length l → b < length l → exchanged d a b l ≡ set (set l a (get_or l b d)) b (get_or l a d)
  unfolding exchanged
  exchanged_is l ha hb = rw (lt-ltb a (length l) ha, lt-ltb b (length l) hb)

  pub length_exchanged : (l : List A) → length (exchanged d a b l) ≡ length l
  length_exchanged l = exchanged_cases (length l) (λ ha hb. ap length (exchanged_is l ha hb) ∙ simp length-set) (λ out. ap length (out l refl))

  pub get_d_exchanged : (l : List A) (k : ℕ) → a < length l → b < length l → get_or (exchanged d a b l) k d ≡ get_or l (other a b k) d
  get_d_exchanged l k ha hb =
      let s = set l a (get_or l b d) in
      let hs : b < length s = rw length-set hb in
      rw (exchanged_is l ha hb)
      (other_cases (λ x. get_or (set s b (get_or l a d)) k d ≡ get_or l x d) a b k
      (λ e. rw e (get_or-set_same s b (get_or l a d) d hs))
      (λ n e. get_or-set_other s b k (get_or l a d) d n ∙ rw e (get_or-set_same l a (get_or l b d) d ha))
      (λ n m. get_or-set_other s b k (get_or l a d) d n ∙ get_or-set_other l a k (get_or l b d) d m))

  -- what stands above both places stays
  pub exchanged_above : (l : List A) (k : ℕ) → k < a → k < b → get_or (exchanged d a b l) k d ≡ get_or l k d
  exchanged_above l k ka kb =
      exchanged_cases (length l) (λ ha hb. get_d_exchanged l k ha hb ∙ ap (λ (j : ℕ). get_or l j d) (other_same a b k ka kb))
      (λ out. ap (λ (x : List A). get_or x k d) (out l refl))

  pub exchanged_twice : (l : List A) → exchanged d a b (exchanged d a b l) ≡ l
  exchanged_twice l =
      let x = exchanged d a b l in
      exchanged_cases (length l)
      (λ ha hb. ext_get_or d _ l (length_exchanged x ∙ length_exchanged l) λ k h.
      get_d_exchanged x k (rw length_exchanged ha) (rw length_exchanged hb) ∙ get_d_exchanged l (other a b k) ha hb
      ∙ ap (λ j. get_or l j d) (other_other a b k))
      (λ out. out x (length_exchanged l) ∙ out l refl)

-- a list that lacks one of the two places stays
pub exchanged_out : {A : Type 0} (d : A) (a b : ℕ) (l : List A) → (a < length l → b < length l → ⊥) → exchanged d a b l ≡ l
exchanged_out d a b l n = exchanged_cases d a b (length l) (λ ha hb. absurd (n ha hb)) (λ out. out l refl)

pub exchanged_self : {A : Type 0} (d : A) (a : ℕ) (l : List A) → exchanged d a a l ≡ l
exchanged_self d a l =
    exchanged_cases d a a (length l) (λ ha hb. exchanged_is d a a l ha hb ∙ set-set l a (get_or l a d) (get_or l a d) ∙ set-get_or l a d) (λ out. out l refl)
