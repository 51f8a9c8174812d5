-- Laws of `each_from` and `turns_from`, as loops and theorems use them: where a loop starts, one turn of it, and its end; each entry by itself.
-- By induction on the list or the number of turns. Assumes nothing.
use mathlib.Core.Path.{◌≡◌, refl, sym, ap, ap₂, ◌∙◌}
use mathlib.Core.List.{List, [], ◌∷◌, ◌++◌}
use Prim.Native.Nat.{ℕ, zero, suc, ◌+◌, ◌-◌, ◌≤◌, ◌<◌}
use native.Mathlib.Nat.{le_of_suc-le-suc, not-suc-le-zero, sub-zero, add-zero}
use native.Mathlib.Numerals.{add-one}
use native.Mathlib.Omega.{arith}
use lib.ListN.{length, get_or, set, replicate}
use Rattle.numbers.specs.Each.{each_from, turns_from, list_of}

module _ {A : Type 0} where
  pub length_each : (f : ℕ → A → A) (k : ℕ) (l : List A) → length (each_from f k l) ≡ length l
  unfolding each_from
  length_each f k [] = refl
  length_each f zero (y ∷ ys) = ap suc (length_each (λ i. f (suc i)) zero ys)
  length_each f (suc k) (y ∷ ys) = ap suc (length_each (λ i. f (suc i)) k ys)

  -- nothing is left to do
  pub each_stop : (f : ℕ → A → A) (k : ℕ) (l : List A) → length l ≤ k → each_from f k l ≡ l
  unfolding each_from
  each_stop f k [] h = refl
  each_stop f zero (y ∷ ys) h = absurd (not-suc-le-zero h)
  each_stop f (suc k) (y ∷ ys) h = ap (λ (t : List A). y ∷ t) (each_stop (λ i. f (suc i)) k ys (le_of_suc-le-suc h))

  step_suc : (f : ℕ → A → A) (i : ℕ) (l : List A) (d : A) → i < length l → each_from f (suc i) (set l i (f i (get_or l i d))) ≡ each_from f i l
  unfolding each_from
  step_suc f i [] d h = absurd (not-suc-le-zero h)
  step_suc f zero (y ∷ ys) d h = refl
  step_suc f (suc i) (y ∷ ys) d h = ap (λ (t : List A). y ∷ t) (step_suc (λ i. f (suc i)) i ys d (le_of_suc-le-suc h))

  -- one turn: entry i is stored, and the rest is from i + 1 on
  pub each_step : (f : ℕ → A → A) (i : ℕ) (l : List A) (d : A) → i < length l → each_from f (i + 1) (set l i (f i (get_or l i d))) ≡ each_from f i l
  each_step f i l d h = rw add-one (step_suc f i l d h)

  -- an entry that is reached, and one above the first
  pub each_at : (f : ℕ → A → A) (k : ℕ) (l : List A) (i : ℕ) (d : A) → k ≤ i → i < length l → get_or (each_from f k l) i d ≡ f i (get_or l i d)
  unfolding each_from
  each_at f k [] i d h hi = absurd (not-suc-le-zero hi)
  each_at f zero (y ∷ ys) zero d h hi = refl
  each_at f zero (y ∷ ys) (suc i) d h hi = each_at (λ j. f (suc j)) zero ys i d (omega arith) (le_of_suc-le-suc hi)
  each_at f (suc k) (y ∷ ys) zero d h hi = absurd (not-suc-le-zero h)
  each_at f (suc k) (y ∷ ys) (suc i) d h hi = each_at (λ j. f (suc j)) k ys i d (le_of_suc-le-suc h) (le_of_suc-le-suc hi)

  pub each_before : (f : ℕ → A → A) (k : ℕ) (l : List A) (i : ℕ) (d : A) → i < k → get_or (each_from f k l) i d ≡ get_or l i d
  unfolding each_from
  each_before f k [] i d h = refl
  each_before f zero (y ∷ ys) i d h = absurd (not-suc-le-zero h)
  each_before f (suc k) (y ∷ ys) zero d h = refl
  each_before f (suc k) (y ∷ ys) (suc i) d h = each_before (λ j. f (suc j)) k ys i d (le_of_suc-le-suc h)

  -- two functions that agree from k on, as far as the list goes, do the same
  pub each_same : (f g : ℕ → A → A) (k : ℕ) (l : List A) → ((i : ℕ) (x : A) → k ≤ i → i < length l → f i x ≡ g i x) → each_from f k l ≡ each_from g k l
  unfolding each_from
  each_same f g k [] e = refl
  each_same f g zero (y ∷ ys) e =
      ap₂ (λ (x : A) (t : List A). x ∷ t) (e 0 y (omega arith) (omega arith))
      (each_same (λ i. f (suc i)) (λ i. g (suc i)) zero ys (λ i x h u. e (suc i) x (omega arith) (omega arith)))
  each_same f g (suc k) (y ∷ ys) e =
      ap (λ (t : List A). y ∷ t) (each_same (λ i. f (suc i)) (λ i. g (suc i)) k ys (λ i x h u. e (suc i) x (omega arith) (omega arith)))

  -- the function that changes nothing
  each_nothing : (k : ℕ) (l : List A) → each_from (λ i x. x) k l ≡ l
  unfolding each_from
  each_nothing k [] = refl
  each_nothing zero (y ∷ ys) = ap (λ (t : List A). y ∷ t) (each_nothing zero ys)
  each_nothing (suc k) (y ∷ ys) = ap (λ (t : List A). y ∷ t) (each_nothing k ys)

  pub each_id : (f : ℕ → A → A) (k : ℕ) (l : List A) → ((i : ℕ) (x : A) → k ≤ i → f i x ≡ x) → each_from f k l ≡ l
  each_id f k l e = each_same f (λ i x. x) k l (λ i x h u. e i x h) ∙ each_nothing k l

  -- one after the other, entry by entry
  pub each_each : (f g : ℕ → A → A) (k : ℕ) (l : List A) → each_from f k (each_from g k l) ≡ each_from (λ i x. f i (g i x)) k l
  unfolding each_from
  each_each f g k [] = refl
  each_each f g zero (y ∷ ys) = ap (λ (t : List A). f 0 (g 0 y) ∷ t) (each_each (λ i. f (suc i)) (λ i. g (suc i)) zero ys)
  each_each f g (suc k) (y ∷ ys) = ap (λ (t : List A). y ∷ t) (each_each (λ i. f (suc i)) (λ i. g (suc i)) k ys)

  -- a last entry that is reached
  pub each_snoc : (f : ℕ → A → A) (k : ℕ) (l : List A) (x : A) → k ≤ length l → each_from f k (l ++ x ∷ []) ≡ each_from f k l ++ f (length l) x ∷ []
  unfolding each_from
  each_snoc f zero [] x h = refl
  each_snoc f (suc k) [] x h = absurd (not-suc-le-zero h)
  each_snoc f zero (y ∷ ys) x h = ap (λ (t : List A). f 0 y ∷ t) (each_snoc (λ i. f (suc i)) zero ys x (omega arith))
  each_snoc f (suc k) (y ∷ ys) x h = ap (λ (t : List A). y ∷ t) (each_snoc (λ i. f (suc i)) k ys x (le_of_suc-le-suc h))

  -- each entry overwritten by that of a list as long, and by one and the same value
  pub each_over : (x l : List A) (d : A) → length x ≡ length l → each_from (λ i v. get_or x i d) 0 l ≡ x
  unfolding each_from
  each_over [] [] d e = refl
  each_over [] (y ∷ l) d e = absurd (omega (arith, e))
  each_over (x ∷ xs) [] d e = absurd (omega (arith, e))
  each_over (x ∷ xs) (y ∷ l) d e = ap (λ (t : List A). x ∷ t) (each_over xs l d (omega (arith, e)))

  -- each entry written anew
  pub each_list : (f : ℕ → A) (l : List A) → each_from (λ i v. f i) 0 l ≡ list_of (length l) f
  unfolding each_from list_of
  each_list f [] = refl
  each_list f (y ∷ l) = ap (λ (t : List A). f 0 ∷ t) (each_list (λ i. f (suc i)) l)

  pub length_list : (n : ℕ) (f : ℕ → A) → length (list_of n f) ≡ n
  unfolding list_of
  length_list zero f = refl
  length_list (suc n) f = ap suc (length_list n (λ i. f (suc i)))

  pub list_at : (n : ℕ) (f : ℕ → A) (i : ℕ) (d : A) → i < n → get_or (list_of n f) i d ≡ f i
  unfolding list_of
  list_at zero f i d h = absurd (not-suc-le-zero h)
  list_at (suc n) f zero d h = refl
  list_at (suc n) f (suc i) d h = list_at n (λ j. f (suc j)) i d (le_of_suc-le-suc h)

  pub each_fill : (x : A) (l : List A) → each_from (λ i v. x) 0 l ≡ replicate (length l) x
  unfolding each_from
  each_fill x [] = refl
  each_fill x (y ∷ l) = ap (λ (t : List A). x ∷ t) (each_fill x l)

module _ {S : Type 0} (f : ℕ → S → S) where
  pub turns_turn : (i c c' : ℕ) (s : S) → c ≡ suc c' → turns_from f (i + 1) c' (f i s) ≡ turns_from f i c s
  unfolding turns_from
  turns_turn i c c' s e = rw e

  pub turns_stop : (i c : ℕ) (s : S) → c ≡ 0 → turns_from f i c s ≡ s
  unfolding turns_from
  turns_stop i c s e = rw e

  -- a loop that counts i up to n: before its first turn, one turn, and its end
  pub turns_begin : (n : ℕ) (s : S) → turns_from f 0 (n - 0) s ≡ turns_from f 0 n s
  turns_begin n s = ap (λ (c : ℕ). turns_from f 0 c s) (sub-zero n)

  pub turns_next : (i n : ℕ) (s t : S) → i < n → t ≡ f i s → turns_from f (i + 1) (n - (i + 1)) t ≡ turns_from f i (n - i) s
  turns_next i n s t h e = ap (turns_from f (i + 1) (n - (i + 1))) e ∙ turns_turn i (n - i) (n - (i + 1)) s (omega arith)

  pub turns_done : (i n : ℕ) (s : S) → n ≤ i → turns_from f i (n - i) s ≡ s
  turns_done i n s h = turns_stop i (n - i) s (omega arith)

  -- one turn more is the last
  pub turns_last : (i c : ℕ) (s : S) → turns_from f i (suc c) s ≡ f (i + c) (turns_from f i c s)
  unfolding turns_from
  turns_last i zero s = ap (λ (k : ℕ). f k s) (sym (add-zero i))
  turns_last i (suc c) s =
      let e : i + 1 + c ≡ i + suc c = omega arith in
      turns_last (i + 1) c (f i s) ∙ ap (λ (k : ℕ). f k (turns_from f (i + 1) c (f i s))) e
