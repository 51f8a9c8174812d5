-- The corrected given diagonal beside the Rust's: the same refusals before the work, the Rust's numbers with each divided once by d, and for d = 1
-- the same bits. Both drive row i's update by the same quotient; the corrected solve stores it, and no later turn reads or writes that row.
-- Assumes nothing.
use mathlib.Core.Path.{◌≡◌, refl, sym, ap, ap₂, ◌∙◌}
use mathlib.Core.Bool.{true}
use mathlib.Core.List.{List, [], ◌∷◌}
use Prim.Native.Nat.{ℕ, zero, suc, ◌+◌, ◌-◌, ◌<◌}
use native.Mathlib.Nat.{le_of_suc-le-suc, not-suc-le-zero}
use native.Mathlib.Omega.{arith}
use lib.Dec.{T, eqb}
use lib.ListN.{length, get_or, set, take, drop, length-set}
use lib.Seq.{get_or-set_other, get_or-drop}
use lib.Ieee.{Float, nan, binary64, fits, neg, div}
use lib.Ieee.Fits.{nan-fits, add-fits}
use Rattle.numbers.specs.Each.{each_from, turns_from}
use Rattle.numbers.specs.Numbers.{one64}
use Rattle.numbers.specs.Column.{Column, entry}
use Rattle.blas.specs.Blas.{axpy_from}
use Rattle.numbers.proofs.Choice.{cond_cases, cond_both}
use Rattle.numbers.proofs.Each.{each_stop, each_step}
use Rattle.numbers.proofs.One.{div_one64}
use Rattle.blas.proofs.Rows.{length_axpy, entry_axpy_before, axpy_none}
use Rattle.store.specs.Columns.{columns, flat, is_matrix, on_columns}
use Rattle.store.specs.Steps.{Matrix, column}
use Rattle.store.proofs.Columns.{sized, columns_rows}
use Rattle.refusals.specs.Outcome.{tested, leaving}
use Rattle.refusals.specs.Refusals.{seventh}
use Rattle.triangular_passes.specs.declared.Pass.TheVariants.{GivenDiagonal, CorrectedDiagonal}
use Rattle.triangular_passes.specs.Triangular.{lower_row, kept_row, solved_row, turn, solved_column, solved_from, solved_columns, solved_in_place}
use Rattle.solve.specs.Calls.{numbers_finite, refusal_of, solving}
use Rattle.triangular_passes.proofs.Lengths.{length_turns}

-- THEOREM. "Refusals as before, in the same order": what the tests refuse is the same.
pub same_refusal : (d : Float) (n k : ℕ) (t b x : Column) → refusal_of (CorrectedDiagonal d) t n b k x ≡ refusal_of (GivenDiagonal d) t n b k x
unfolding refusal_of numbers_finite
same_refusal d n k t b x = refl

-- ---- what is stored above an update, before or after it

each_set : {A : Type 0} (f : ℕ → A → A) (k : ℕ) (l : List A) (i : ℕ) (x : A) → i < k → each_from f k (set l i x) ≡ set (each_from f k l) i x
unfolding each_from
each_set f k [] i x h = refl
each_set f zero (y ∷ ys) i x h = absurd (not-suc-le-zero h)
each_set f (suc k) (y ∷ ys) zero x h = refl
each_set {A} f (suc k) (y ∷ ys) (suc i) x h = ap (λ (t : List A). y ∷ t) (each_set (λ j. f (suc j)) k ys i x (le_of_suc-le-suc h))

axpy_set : (from : ℕ) (a : Float) (l b : Column) (i : ℕ) (x : Float) → i < from → axpy_from from a l (set b i x) ≡ set (axpy_from from a l b) i x
unfolding axpy_from
axpy_set from a l b i x h = rw length-set
    (cond_both (λ (p q : Column). p ≡ set q i x) (eqb (length l) (length b)) (λ e. each_set _ from b i x h) (λ e. refl))

-- ---- the turns of the two solves by the diagonal d

module _ (d : Float) (n : ℕ) (cs : Matrix) where
  abbrev pub kept : ℕ → Column → Column
  kept = turn (GivenDiagonal d) n cs

  abbrev corrected : ℕ → Column → Column
  corrected = turn (CorrectedDiagonal d) n cs

  abbrev divided : ℕ → Column → Column
  divided i b = each_from (λ _ v. div binary64 v d) i b

  -- a turn of the corrected solve is the Rust's, with the quotient stored
  corrected_turn : (i : ℕ) (b : Column) → corrected i b ≡ set (kept i b) i (div binary64 (entry b i) d)
  unfolding turn solved_row lower_row kept_row
  corrected_turn i b = axpy_set (i + 1) _ _ b i _ (omega arith)

  kept_length : (i : ℕ) (b : Column) → length (kept i b) ≡ length b
  unfolding turn solved_row kept_row
  kept_length i b = length_axpy (i + 1) _ _ b

  kept_entry : (k i : ℕ) (b : Column) → i < k + 1 → entry (kept k b) i ≡ entry b i
  unfolding turn solved_row kept_row
  kept_entry k i b h = entry_axpy_before (k + 1) _ _ b i h

  kept_set : (k i : ℕ) (b : Column) (x : Float) → i < k → kept k (set b i x) ≡ set (kept k b) i x
  unfolding turn solved_row kept_row
  kept_set k i b x h =
      ap (λ (v : Float). axpy_from (k + 1) (neg (div binary64 v d)) (column cs k) (set b i x)) (get_or-set_other b i k x nan (λ e. omega (arith, e)))
      ∙ axpy_set (k + 1) _ (column cs k) b i x (omega arith)

  -- so it is over turns from row k on, for a row above
  turns_entry : (k c i : ℕ) (b : Column) → i < k → entry (turns_from kept k c b) i ≡ entry b i
  unfolding turns_from
  turns_entry k zero i b h = refl
  turns_entry k (suc c) i b h = turns_entry (k + 1) c i (kept k b) (omega arith) ∙ kept_entry k i b (omega arith)

  turns_set : (k c i : ℕ) (b : Column) (x : Float) → i < k → turns_from kept k c (set b i x) ≡ set (turns_from kept k c b) i x
  unfolding turns_from
  turns_set k zero i b x h = refl
  turns_set k (suc c) i b x h = ap (turns_from kept (k + 1) c) (kept_set k i b x h) ∙ turns_set (k + 1) c i (kept k b) x (omega arith)

  -- the corrected turns from row i to the last: the Rust's, then each entry from row i on divided
  turns_divided : (i c : ℕ) (b : Column) → i + c ≡ length b → turns_from corrected i c b ≡ divided i (turns_from kept i c b)
  unfolding turns_from
  turns_divided i zero b e = sym (each_stop _ i b (omega (arith, e)))
  turns_divided i (suc c) b e =
      let x = div binary64 (entry b i) d in
      let after = turns_from kept (i + 1) c (kept i b) in
      let whole : length after ≡ length b = length_turns kept kept_length (i + 1) c (kept i b) ∙ kept_length i b in
      let own : entry after i ≡ entry b i = turns_entry (i + 1) c i (kept i b) (omega arith) ∙ kept_entry i i b (omega arith) in
      ap (turns_from corrected (i + 1) c) (corrected_turn i b)
      ∙ turns_divided (i + 1) c (set (kept i b) i x) (omega (arith, e, length-set (kept i b) i x, kept_length i b))
      ∙ ap (divided (i + 1)) (turns_set (i + 1) c i (kept i b) x (omega arith) ∙ ap (λ (v : Float). set after i (div binary64 v d)) (sym own))
      ∙ each_step _ i after nan (omega (arith, e, whole))

  -- the Rust's turn for the last row, which it leaves out, would change nothing
  pub last_turn : (i c : ℕ) (b : Column) → i + suc c ≡ length b → turns_from kept i (suc c) b ≡ turns_from kept i c b
  unfolding turns_from turn solved_row kept_row
  last_turn i zero b e = axpy_none (i + 1) _ _ b (omega (arith, e))
  last_turn i (suc c) b e = last_turn (i + 1) c (kept i b) (omega (arith, e, kept_length i b))

-- THEOREM. A column solved by the corrected diagonal is the Rust's column with every entry divided once by d.
pub divided_once : (d : Float) (n : ℕ) (cs : Matrix) (b : Column) → length b ≡ n
    → solved_column (CorrectedDiagonal d) n cs b ≡ each_from (λ _ v. div binary64 v d) 0 (solved_column (GivenDiagonal d) n cs b)
unfolding solved_column
divided_once d zero cs b e = turns_divided d zero cs 0 zero b (omega (arith, e))
divided_once d (suc n) cs b e =
    let fewer : n ≡ suc n - 1 = omega arith in
    turns_divided d (suc n) cs 0 (suc n) b (omega (arith, e))
    ∙ ap (divided d (suc n) cs 0) (last_turn d (suc n) cs 0 n b (omega (arith, e)) ∙ ap (λ (c : ℕ). turns_from (kept d (suc n) cs) 0 c b) fewer)

-- ---- d = 1

-- every entry is a double
abbrev pub Doubles : Column → Type 0
Doubles b = (i : ℕ) → T (fits binary64 (entry b i))

each_doubles : (f : ℕ → Float → Float) → ((i : ℕ) (x : Float) → T (fits binary64 (f i x))) → (k : ℕ) (b : Column) → Doubles b → Doubles (each_from f k b)
unfolding each_from
each_doubles f makes k [] all i = all i
each_doubles f makes zero (y ∷ ys) all zero = makes 0 y
each_doubles f makes zero (y ∷ ys) all (suc i) = each_doubles (λ j. f (suc j)) (λ j. makes (suc j)) zero ys (λ j. all (suc j)) i
each_doubles f makes (suc k) (y ∷ ys) all zero = all 0
each_doubles f makes (suc k) (y ∷ ys) all (suc i) = each_doubles (λ j. f (suc j)) (λ j. makes (suc j)) k ys (λ j. all (suc j)) i

pub kept_doubles : (d : Float) (n : ℕ) (cs : Matrix) (k : ℕ) (b : Column) → Doubles b → Doubles (kept d n cs k b)
unfolding turn solved_row kept_row axpy_from
kept_doubles d n cs k b all =
    cond_cases Doubles (eqb (length (column cs k)) (length b)) (λ e. each_doubles _ (λ i x. add-fits binary64 _ x) (k + 1) b all) (λ e. all)

turns_doubles : (d : Float) (n : ℕ) (cs : Matrix) (k c : ℕ) (b : Column) → Doubles b → Doubles (turns_from (kept d n cs) k c b)
unfolding turns_from
turns_doubles d n cs k zero b all = all
turns_doubles d n cs k (suc c) b all = turns_doubles d n cs (k + 1) c (kept d n cs k b) (kept_doubles d n cs k b all)

divided_by_one : (b : Column) → Doubles b → each_from (λ _ v. div binary64 v one64) 0 b ≡ b
unfolding each_from
divided_by_one [] all = refl
divided_by_one (y ∷ ys) all = ap₂ (λ (v : Float) (t : Column). v ∷ t) (div_one64 y (all 0)) (divided_by_one ys (λ i. all (suc i)))

-- one column
pub same_column : (n : ℕ) (cs : Matrix) (b : Column) → length b ≡ n → Doubles b
    → solved_column (CorrectedDiagonal one64) n cs b ≡ solved_column (GivenDiagonal one64) n cs b
unfolding solved_column
same_column n cs b e all =
    divided_once one64 n cs b e ∙ divided_by_one (solved_column (GivenDiagonal one64) n cs b) (turns_doubles one64 n cs 0 (n - 1) b all)

-- all columns: each is one of doubles
take_doubles : (m : ℕ) (b : Column) → Doubles b → Doubles (take m b)
take_doubles zero b all i = nan-fits binary64
take_doubles (suc m) [] all i = nan-fits binary64
take_doubles (suc m) (y ∷ ys) all zero = all 0
take_doubles (suc m) (y ∷ ys) all (suc i) = take_doubles m ys (λ j. all (suc j)) i

columns_doubles : (n k : ℕ) (b : Column) → Doubles b → (j : ℕ) → Doubles (column (columns n k b) j)
unfolding columns
columns_doubles n zero b all j i = nan-fits binary64
columns_doubles n (suc k) b all zero i = take_doubles n b all i
columns_doubles n (suc k) b all (suc j) i = columns_doubles n k (drop n b) (λ h. rw (get_or-drop n b h nan) (all (n + h))) j i

each_alike : {A : Type 0} (f g : ℕ → A → A) (l : List A) (d : A) → ((i : ℕ) → i < length l → f i (get_or l i d) ≡ g i (get_or l i d))
    → each_from f 0 l ≡ each_from g 0 l
unfolding each_from
each_alike f g [] d e = refl
each_alike {A} f g (y ∷ ys) d e =
    ap₂ (λ (x : A) (t : List A). x ∷ t) (e 0 (omega arith)) (each_alike (λ i. f (suc i)) (λ i. g (suc i)) ys d (λ i h. e (suc i) (omega arith)))

same_columns : (n k : ℕ) (cs : Matrix) (b : Column) → is_matrix b n k ≡ true → Doubles b
    → solved_columns (CorrectedDiagonal one64) n cs (columns n k b) ≡ solved_columns (GivenDiagonal one64) n cs (columns n k b)
unfolding solved_from
same_columns n k cs b sides all =
    each_alike _ _ (columns n k b) []
    (λ j h. same_column n cs (column (columns n k b) j) (columns_rows n k b (sized n k b sides).size j h) (columns_doubles n k b all j))

-- THEOREM. By the diagonal 1 the two passes give the same bits, whatever doubles the right-hand sides hold.
pub same_by_one : (n k : ℕ) (t b : Column) → Doubles b → solved_in_place (CorrectedDiagonal one64) t n b k ≡ solved_in_place (GivenDiagonal one64) t n b k
unfolding solved_in_place on_columns
same_by_one n k t b all =
    cond_both (λ (p q : Column). p ≡ q) (is_matrix t n n)
    (λ _. cond_both (λ (p q : Column). p ≡ q) (is_matrix b n k) (λ sides. ap flat (same_columns n k (columns n n t) b sides all)) (λ _. refl)) (λ _. refl)

-- THEOREM. So the two calls have the same outcome, refused or not.
pub same_outcome : (n k : ℕ) (t b x : Column) → Doubles b → solving (CorrectedDiagonal one64) t n b k x ≡ solving (GivenDiagonal one64) t n b k x
unfolding solving
same_outcome n k t b x all =
    ap₂ (λ (number : ℕ) (made : Column). tested number (leaving x) (seventh made)) (same_refusal one64 n k t b x) (same_by_one n k t b all)
