-- Numbers of the store by their places: what four numbers, a row after the steps and the head are read from, and rows of a column written one after
-- another. Assumes nothing.
use mathlib.Core.Path.{◌≡◌, refl, ap, ◌∙◌}
use mathlib.Core.Bool.{true}
use mathlib.Core.List.{List, []}
use Prim.Native.Nat.{ℕ, ◌+◌, ◌*◌, ◌≤◌, ◌<◌}
use native.Mathlib.Omega.{arith}
use mir.Syntax.{w64}
use mir.Val.{Fits}
use lib.ListN.{length, get_or, set, length-set}
use lib.Seq.{get_or-set_same, set-set}
use lib.Ieee.{Float, nan, neg, add, mul, binary64}
use Rattle.numbers.specs.Numbers.{plus_product}
use Rattle.numbers.specs.Column.{Column, entry}
use Rattle.store.specs.Columns.{columns, is_matrix}
use Rattle.store.specs.Steps.{Matrix, column}
use Rattle.store.proofs.Columns.{sized, column_within, length_columns, columns_rows, entry_at, written_at}
use Rattle.four_steps.specs.FourSteps.{multiplier, head_of, minus_of, add_four, four_rows}
use Rattle.four_steps.specs.FourSteps.{Reaches, head_in, written_four}
use Rattle.four_steps.specs.declared.Four.{Four}

-- a times x plus y, as the code has it
abbrev pub plus : Float → Float → Float → Float
plus a x y = add binary64 (mul binary64 a x) y

-- v written in row r of column j
abbrev pub write : ℕ → ℕ → ℕ → Float → List Float → List Float
write m j r v t = set t (j * m + r) v

-- ---- numbers by their places in the store
module _ (m n : ℕ) (s : List Float) where
  -- the number in row r of column k
  abbrev pub at : ℕ → ℕ → Float
  at k r = get_or s (k * m + r) nan

  -- minus the numbers of the rows i to i + 3 of column j
  abbrev pub minus_at : ℕ → ℕ → Four
  minus_at i j = record { first = neg (at j i); second = neg (at j (i + 1)); third = neg (at j (i + 2)); fourth = neg (at j (i + 3)) }

  is_at : (k r : ℕ) → k < n → r < m → at k r ≡ multiplier (columns m n s) k r
  is_at k r h hr = entry_at m n k r s nan h hr

  pub full : (k : ℕ) → length s ≡ n * m → k < n → length (column (columns m n s) k) ≡ m
  full k len h = columns_rows m n s len k (rw length_columns h)

  pub minus_read : (i j : ℕ) → i + 4 ≤ m → j < n → (x : Four) → x ≡ minus_at i j → x ≡ minus_of i (column (columns m n s) j)
  unfolding minus_of
  minus_read i j four hj x e =
      e ∙ rw (is_at j i hj (omega arith), is_at j (i + 1) hj (omega arith), is_at j (i + 2) hj (omega arith), is_at j (i + 3) hj (omega arith)) refl

  pub number_read : (i j r : ℕ) (f : Four) → i + 4 ≤ j → j < n → r < m
      → plus f.fourth (at (i + 3) r) (plus f.third (at (i + 2) r) (plus f.second (at (i + 1) r) (plus f.first (at i r) (at j r))))
      ≡ add_four i (columns m n s) f r (entry (column (columns m n s) j) r)
  unfolding add_four plus_product
  number_read i j r f right hj hr =
      rw (
        is_at (i + 3) r (omega arith) hr,
        is_at (i + 2) r (omega arith) hr,
        is_at (i + 1) r (omega arith) hr,
        is_at i r (omega arith) hr,
        is_at j r hj hr,
      ) refl

-- a place in a store that is so long, and short: in row r of the column that starts there
pub record Placed (start r long : ℕ) : Type 0 where
  pub sum : Fits w64 (start + r)
  pub bytes : Fits w64 ((start + r) * 8)
  pub inside : start + r < long

pub placed : (m start r long : ℕ) → start + m ≤ long → r < m → long ≤ 4096 → Placed start r long
placed m start r long ends h short = record { sum = omega arith; bytes = omega arith; inside = omega arith }

-- the head's columns are there
pub reaches : (m n i j : ℕ) (s : List Float) → is_matrix s m n ≡ true → i + 4 ≤ j → j < n → Reaches m i j (length s)
reaches m n i j s fits right hj =
    let size = (sized m n s fits).size in
    record {
      first = column_within m n i s (omega arith) size;
      second = column_within m n (i + 1) s (omega arith) size;
      third = column_within m n (i + 2) s (omega arith) size;
      own = column_within m n j s hj size;
    }

-- four numbers by those of the rows k to k + 3
pub four_read : (i k : ℕ) (cs : Matrix) (f : Four) (c : Column) (a b d e : Float) → a ≡ add_four i cs f k (entry c k)
    → b ≡ add_four i cs f (k + 1) (entry c (k + 1))
    → d ≡ add_four i cs f (k + 2) (entry c (k + 2)) → e ≡ add_four i cs f (k + 3) (entry c (k + 3))
    → record { first = a; second = b; third = d; fourth = e } ≡ four_rows i cs f k c
unfolding four_rows
four_read i k cs f c a b d e ea eb ed ee = λ x. record { first = ea x; second = eb x; third = ed x; fourth = ee x }

-- ---- rows of column j written, one after another
module _ (j m n : ℕ) (s : List Float) (len : length s ≡ n * m) (hj : j < n) where
  written_more : (t : List Float) (c : Column) (r : ℕ) (v : Float) → length t ≡ n * m → columns m n t ≡ set (columns m n s) j c → r < m
      → columns m n (set t (j * m + r) v) ≡ set (columns m n s) j (set c r v)
  written_more t c r v lt e hr =
      let cs = columns m n s in
      written_at m n j r t v hj hr lt
      ∙ ap (λ (ds : Matrix). set ds j (set (column ds j) r v)) e
      ∙ ap (λ (d : Column). set (set cs j c) j (set d r v)) (get_or-set_same cs j c [] (rw length_columns hj))
      ∙ set-set cs j c (set c r v)

  written_three : (p q r : ℕ) (x y z : Float) → p < m → q < m → r < m
      → columns m n (write m j r z (write m j q y (write m j p x s))) ≡ set (columns m n s) j (set (set (set (column (columns m n s) j) p x) q y) r z)
  written_three p q r x y z hp hq hr =
      let s1 = set s (j * m + p) x in
      let l1 : length s1 ≡ n * m = length-set s (j * m + p) x ∙ len in
      written_more _ _ r z (length-set s1 (j * m + q) y ∙ l1) (written_more s1 _ q y l1 (written_at m n j p s x hj hp len) hq) hr

  pub written_four_lem : (k : ℕ) (x : Four) → k + 4 ≤ m
      → columns m n (write m j (k + 3) x.fourth (write m j (k + 2) x.third (write m j (k + 1) x.second (write m j k x.first s))))
      ≡ set (columns m n s) j (written_four k x (column (columns m n s) j))
  unfolding written_four
  written_four_lem k x h =
      written_more _ _ (k + 3) x.fourth (simp length-set len)
      (written_three k (k + 1) (k + 2) x.first x.second x.third (omega arith) (omega arith) (omega arith)) (omega arith)

  -- THE HEAD: its three rows written
  pub head_made : (i : ℕ) → i + 4 ≤ m → i + 4 ≤ j →
      let num = at m n s in
      let f0 = neg (num j i) in
      let u1 = plus f0 (num i (i + 1)) (num j (i + 1)) in
      let f1 = neg u1 in
      let u2 = plus f1 (num (i + 1) (i + 2)) (plus f0 (num i (i + 2)) (num j (i + 2))) in
      let u3 = plus (neg u2) (num (i + 2) (i + 3)) (plus f1 (num (i + 1) (i + 3)) (plus f0 (num i (i + 3)) (num j (i + 3)))) in
      columns m n (write m j (i + 3) u3 (write m j (i + 2) u2 (write m j (i + 1) u1 s))) ≡ head_in i j (columns m n s)
  unfolding head_of plus_product
  head_made i four right =
      let is = is_at m n s in
      rw (
        is j i hj (omega arith),
        is i (i + 1) (omega arith) (omega arith),
        is j (i + 1) hj (omega arith),
        is (i + 1) (i + 2) (omega arith) (omega arith),
        is i (i + 2) (omega arith) (omega arith),
        is j (i + 2) hj (omega arith),
        is (i + 2) (i + 3) (omega arith) (omega arith),
        is (i + 1) (i + 3) (omega arith) (omega arith),
        is i (i + 3) (omega arith) (omega arith),
        is j (i + 3) hj (omega arith),
      )
      (written_three (i + 1) (i + 2) (i + 3) _ _ _ (omega arith) (omega arith) (omega arith))
