-- The factors of a file are doubles: those of the file are, by their bits; exchanging rows keeps them so, and each sum and product is one. So the biased
-- exponent of a finite factor is at most 2046. By the steps of the elimination; by the bits. Assumes nothing.
use Rattle.std.proofs.Common.{◌≡◌, ℕ, zero, suc, ◌+◌, ◌*◌, ◌/◌, ◌%◌, ◌<◌, ◌≤◌, min, true, ◌&&◌, T, eqb, ltb, List, [], ◌∷◌, length, get_or, take, drop, set}
use Rattle.std.proofs.Common.{ap, ◌∙◌, arith}
use borrow.Author.Tests.{eqb-false, not-true}
use lib.Ieee.{Float, nan, binary64, neg, mul, add, lt, fits, to_bits}
use lib.Ieee.Fits.{nan-fits, neg-fits, mul-fits, add-fits, cond-fits}
use lib.Ieee.Bits.{of_bits-to_bits, to_bits-lt, of_bits-fits}
use lib.Ieee.Scale.{finite}
use Rattle.numbers.specs.Each.{each_from, turns_from, list_of}
use Rattle.numbers.specs.Numbers.{zero64, magnitude}
use Rattle.numbers.specs.Column.{Column, entry}
use Rattle.numbers.proofs.Choice.{cond_cases}
use Rattle.blas.specs.Blas.{exchanged, swap_rows, scale_from, axpy_from}
use Rattle.store.specs.Columns.{columns}
use Rattle.store.specs.Steps.{Matrix, column, swap_in_all}
use Rattle.one_step.specs.OneStep.{step_column, step_columns, eliminated}
use Rattle.factors.specs.Factors.{Factors}
use Rattle.elimination.specs.Elimination.{multipliers, scaled, pivot_step, step, unfactored, eliminate}
use Rattle.elimination.proofs.Step.{pivot_at, step_cases}
use Rattle.bands.specs.Bands.{biased}
use Rattle.panel_file.specs.File.{number_at, matrix_of}
use Rattle.panel_file.proofs.Bits.{bits_finite}

-- ---- what holds of every entry of a list still does after its entries are changed, one is written, or some are left off
module _ {A : Type 0} (P : A → Type 0) where
  abbrev pub Every : List A → Type 0
  Every [] = Unit {0}
  Every (x ∷ l) = P x × Every l

  every_at : (l : List A) (i : ℕ) (d : A) → P d → Every l → P (get_or l i d)
  every_at [] i d p h = p
  every_at (x ∷ l) zero d p h = h.0
  every_at (x ∷ l) (suc i) d p h = every_at l i d p h.1

  every_set : (l : List A) (i : ℕ) (x : A) → P x → Every l → Every (set l i x)
  every_set [] i x p h = tt
  every_set (y ∷ l) zero x p h = (p, h.1)
  every_set (y ∷ l) (suc i) x p h = (h.0, every_set l i x p h.1)

  every_each : (f : ℕ → A → A) → ((i : ℕ) (x : A) → P x → P (f i x)) → (k : ℕ) (l : List A) → Every l → Every (each_from f k l)
  unfolding each_from
  every_each f g k [] h = tt
  every_each f g zero (y ∷ l) h = (g 0 y h.0, every_each (λ i. f (suc i)) (λ i. g (suc i)) zero l h.1)
  every_each f g (suc k) (y ∷ l) h = (h.0, every_each (λ i. f (suc i)) (λ i. g (suc i)) k l h.1)

  every_take : (k : ℕ) (l : List A) → Every l → Every (take k l)
  every_take zero l h = tt
  every_take (suc k) [] h = tt
  every_take (suc k) (x ∷ l) h = (h.0, every_take k l h.1)

  every_drop : (k : ℕ) (l : List A) → Every l → Every (drop k l)
  every_drop zero l h = h
  every_drop (suc k) [] h = tt
  every_drop (suc k) (x ∷ l) h = every_drop k l h.1

  every_list : (n : ℕ) (f : ℕ → A) → ((i : ℕ) → P (f i)) → Every (list_of n f)
  unfolding list_of
  every_list zero f h = tt
  every_list (suc n) f h = (h 0, every_list n (λ i. f (suc i)) (λ i. h (suc i)))

-- ---- columns of doubles
abbrev Double : Float → Type 0
Double x = T (fits binary64 x)

abbrev Doubles : Column → Type 0
Doubles = Every Double

abbrev AllDoubles : Matrix → Type 0
AllDoubles = Every Doubles

columns_doubles : (m n : ℕ) (s : Column) → Doubles s → AllDoubles (columns m n s)
unfolding columns
columns_doubles m zero s h = tt
columns_doubles m (suc n) s h = (every_take Double m s h, columns_doubles m n (drop m s) (every_drop Double m s h))

column_doubles : (cs : Matrix) (j : ℕ) → AllDoubles cs → Doubles (column cs j)
column_doubles cs j h = every_at Doubles cs j [] tt h

swap_doubles : (i p : ℕ) (c : Column) → Doubles c → Doubles (swap_rows i p c)
unfolding exchanged
swap_doubles i p c h =
    cond_cases Doubles (ltb i (length c) && ltb p (length c))
    (λ t. every_set Double (set c i (entry c p)) p (entry c i) (at i) (every_set Double c i (entry c p) (at p) h)) (λ t. h)
  where
    at : (k : ℕ) → Double (entry c k)
    at k = every_at Double c k nan (nan-fits binary64) h

multipliers_doubles : (i : ℕ) (c : Column) → Doubles c → Doubles (multipliers i c)
unfolding multipliers scale_from
multipliers_doubles i c h = every_each Double _ (λ k x _. mul-fits binary64 x _) (i + 1) c h

step_doubles : (i : ℕ) (l c : Column) → Doubles c → Doubles (step_column i l c)
unfolding step_column axpy_from
step_doubles i l c h =
    cond_cases Doubles (eqb (length l) (length c))
    (λ t. every_each Double (λ k v. add binary64 (mul binary64 (neg (entry c i)) (entry l k)) v) (λ k x _. add-fits binary64 _ x) (i + 1) c h) (λ t. h)

swapped_doubles : (i p : ℕ) (cs : Matrix) → AllDoubles cs → AllDoubles (swap_in_all i p cs)
unfolding swap_in_all
swapped_doubles i p cs h = every_each Doubles (λ j c. swap_rows i p c) (λ j c d. swap_doubles i p c d) 0 cs h

scaled_doubles : (i : ℕ) (cs : Matrix) → AllDoubles cs → AllDoubles (scaled i cs)
unfolding scaled
scaled_doubles i cs h = every_set Doubles cs i (multipliers i (column cs i)) (multipliers_doubles i (column cs i) (column_doubles cs i h)) h

eliminated_doubles : (i : ℕ) (cs : Matrix) → AllDoubles cs → AllDoubles (eliminated i cs)
unfolding eliminated step_columns
eliminated_doubles i cs h = every_each Doubles (λ j c. step_column i (column cs i) c) (λ j c d. step_doubles i (column cs i) c d) (i + 1) cs h

pivot_doubles : (i p : ℕ) (f : Factors) → AllDoubles f.columns → AllDoubles (pivot_step i p f).columns
unfolding pivot_step
pivot_doubles i p f h = eliminated_doubles i _ (scaled_doubles i _ (swapped_doubles i p f.columns h))

steps_doubles : (i c : ℕ) (f : Factors) → AllDoubles f.columns → AllDoubles (turns_from step i c f).columns
unfolding turns_from
steps_doubles i zero f h = h
steps_doubles i (suc c) f h =
    steps_doubles (i + 1) c (step i f) (step_cases i f (λ g. AllDoubles g.columns) (λ s. h) (λ s. pivot_doubles i (pivot_at i f) f h))

-- the elimination of a file's matrix
pub factor_double : (n : ℕ) (bytes : List ℕ) (i j : ℕ) → T (fits binary64 (entry (column (eliminate n (columns n n (matrix_of n bytes))).columns j) i))
unfolding eliminate number_at
factor_double n bytes i j =
    let cs = columns n n (matrix_of n bytes) in
    let read = columns_doubles n n (matrix_of n bytes) (every_list Double (n * n) _ (λ k. of_bits-fits binary64 _)) in
    let made = (eliminate n cs).columns in
    every_at Double (column made j) i nan (nan-fits binary64) (column_doubles made j (steps_doubles 0 (min n (length cs)) (unfactored cs) read))

-- ---- the exponent

pub magnitude_double : (x : Float) → T (fits binary64 x) → T (fits binary64 (magnitude x))
unfolding magnitude
magnitude_double x h = cond-fits binary64 (lt x zero64) (neg x) x (neg-fits binary64 x h) h

pub exponent_most : (x : Float) → T (fits binary64 x) → finite x ≡ true → biased x ≤ 2046
unfolding biased
exponent_most x h f =
    let b = to_bits binary64 x in
    let some : b % 0x8000_0000_0000_0000 / 0x10_0000_0000_0000 ≡ 2047 → ⊥ =
    eqb-false _ 2047 (not-true _ (bits_finite b ∙ ap finite (of_bits-to_bits binary64 x h) ∙ f)) in
    let less : b < 0x1_0000_0000_0000_0000 = to_bits-lt binary64 x h in
    omega (arith, some)
