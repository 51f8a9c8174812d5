-- What is left of a column, or of two, while it is worked on: rows written as they are after the steps leave the rest, and nothing is left behind the
-- last row. Assumes nothing.
use mathlib.Core.Path.{◌≡◌, refl, sym, ap, ap₂, ◌∙◌}
use mathlib.Core.List.{List, []}
use Prim.Native.Nat.{ℕ, ◌+◌, ◌-◌, ◌*◌, ◌≤◌, ◌<◌}
use native.Mathlib.Omega.{arith}
use borrow.Rule.Slice.PartMut.{mid_of, put_mid, same_len_mid}
use lib.ListN.{length, set, length-set}
use lib.Seq.{get_or-set_same, get_or-set_other, set-get_or, set-set, set_comm}
use lib.Ieee.{Float, nan}
use Rattle.numbers.specs.Column.{Column, entry}
use Rattle.numbers.proofs.Each.{each_step, each_stop, each_same}
use Rattle.store.specs.Columns.{columns}
use Rattle.store.specs.Steps.{Matrix, column}
use Rattle.store.proofs.Columns.{length_columns, column_lent}
use Rattle.four_steps.specs.FourSteps.{head_of, minus_of, add_four, four_rows}
use Rattle.four_steps.specs.FourSteps.{written_four, tail_of, tail_left, tails_left, set_two}
use Rattle.four_steps.specs.declared.Four.{Four}
use Rattle.four_steps.proofs.Places.{full}

-- ---- what is left of a column, the columns of the steps being those that it reads
module _ (i : ℕ) where
  tail_by : (k : ℕ) (a b : Matrix) (c : Column) → ((q : ℕ) → q < i + 4 → column a q ≡ column b q) → tail_of i k a c ≡ tail_of i k b c
  unfolding tail_of add_four
  tail_by k a b c e = each_same _ _ k c (λ r v l t. rw (e i (omega arith), e (i + 1) (omega arith), e (i + 2) (omega arith), e (i + 3) (omega arith)) refl)

  pub head_by : (a b : Matrix) (c : Column) → ((q : ℕ) → q < i + 4 → column a q ≡ column b q) → head_of i a c ≡ head_of i b c
  unfolding head_of
  head_by a b c e = rw (e i (omega arith), e (i + 1) (omega arith), e (i + 2) (omega arith)) refl

  minus_set : (c : Column) (k : ℕ) (v : Float) → i + 4 ≤ k → minus_of i (set c k v) ≡ minus_of i c
  unfolding minus_of
  minus_set c k v h =
      rw (
        get_or-set_other c k i v nan (λ e. omega arith),
        get_or-set_other c k (i + 1) v nan (λ e. omega arith),
        get_or-set_other c k (i + 2) v nan (λ e. omega arith),
        get_or-set_other c k (i + 3) v nan (λ e. omega arith),
      ) refl

  minus_four : (c : Column) (k : ℕ) (x : Four) → i + 4 ≤ k → minus_of i (written_four k x c) ≡ minus_of i c
  unfolding written_four
  minus_four c k x h = minus_set _ (k + 3) _ (omega arith) ∙ minus_set _ (k + 2) _ (omega arith) ∙ minus_set _ (k + 1) _ (omega arith) ∙ minus_set c k _ h

  -- a row written, as it is after the steps
  row_step : (cs : Matrix) (c : Column) (k next : ℕ) (v : Float) → next ≡ k + 1 → i + 4 ≤ k → k < length c → v ≡ add_four i cs (minus_of i c) k (entry c k)
      → tail_of i next cs (set c k v) ≡ tail_of i k cs c
  unfolding tail_of
  row_step cs c k next v n h hk e = rw (n, e, minus_set c k (add_four i cs (minus_of i c) k (entry c k)) h) (each_step (add_four i cs (minus_of i c)) k c
      nan hk)

  -- two rows written, as they are
  two_step : (cs : Matrix) (c : Column) (k q next : ℕ) (v w : Float) → q ≡ k + 1 → next ≡ k + 2 → i + 4 ≤ k → k + 2 ≤ length c
      → v ≡ add_four i cs (minus_of i c) k (entry c k) → w ≡ add_four i cs (minus_of i c) q (entry c q)
      → tail_of i next cs (set (set c k v) q w) ≡ tail_of i k cs c
  two_step cs c k q next v w eq en h hk ev ew =
      row_step cs (set c k v) q next w (omega arith) (omega arith) (rw length-set (omega arith))
      (ew ∙ ap₂ (λ (f : Four) (x : Float). add_four i cs f q x) (sym (minus_set c k v h)) (sym (get_or-set_other c k q v nan (λ e. omega arith))))
      ∙ row_step cs c k q v eq h (omega arith) ev

  -- four rows
  four_step : (cs : Matrix) (c : Column) (k : ℕ) (f x : Four) → f ≡ minus_of i c → x ≡ four_rows i cs f k c → i + 4 ≤ k → k + 4 ≤ length c
      → tail_of i (k + 4) cs (written_four k x c) ≡ tail_of i k cs c
  unfolding written_four four_rows
  four_step cs c k f x is e h hk =
      let after : ℕ → Float = λ r. add_four i cs (minus_of i c) r (entry c r) in
      let c1 = set c k (after k) in
      let c2 = set c1 (k + 1) (after (k + 1)) in
      let still : (r : ℕ) → k + 1 < r → after r ≡ add_four i cs (minus_of i c2) r (entry c2 r) =
      λ r l. ap₂ (λ (g : Four) (v : Float). add_four i cs g r v) (sym (minus_set c1 (k + 1) (after (k + 1)) (omega arith) ∙ minus_set c k (after k) h))
      (sym (get_or-set_other c1 (k + 1) r _ nan (λ e. omega arith) ∙ get_or-set_other c k r _ nan (λ e. omega arith))) in
      ap (λ (y : Four). tail_of i (k + 4) cs (written_four k y c)) (e ∙ ap (λ (g : Four). four_rows i cs g k c) is)
      ∙ two_step cs c2 (k + 2) (k + 3) (k + 4) _ _ (omega arith) (omega arith) (omega arith) (rw (length-set, length-set) (omega arith))
      (still (k + 2) (omega arith)) (still (k + 3) (omega arith))
      ∙ two_step cs c k (k + 1) (k + 2) _ _ refl refl h (omega arith) refl refl

  -- ---- in a matrix: columns right of the steps' put in
  module _ (j : ℕ) (cs ds : Matrix) (right : i + 4 ≤ j) where
    pub put_one : (k : ℕ) (c : Column) → j < length cs → ds ≡ set cs j c → tail_left i j k ds ≡ set cs j (tail_of i k cs c)
    unfolding tail_left
    put_one k c hj e =
        ap (tail_left i j k) e
        ∙ ap (λ (d : Column). set (set cs j c) j (tail_of i k (set cs j c) d)) (get_or-set_same cs j c [] hj)
        ∙ set-set cs j c _
        ∙ ap (set cs j) (tail_by k (set cs j c) cs c (λ q l. get_or-set_other cs j q c [] (λ e. omega arith)))

    pub put_two : (k : ℕ) (c d : Column) → j + 1 < length cs → ds ≡ set (set cs j c) (j + 1) d
        → tails_left i j k ds ≡ set (set cs j (tail_of i k cs c)) (j + 1) (tail_of i k cs d)
    unfolding tails_left set_two
    put_two k c d hj e =
        let es = set (set cs j c) (j + 1) d in
        let by : (q : ℕ) → q < i + 4 → column es q ≡ column cs q = λ q l. get_or-set_other (set cs j c) (j + 1) q d [] (λ e. omega arith)
        ∙ get_or-set_other cs j q c [] (λ e. omega arith) in
        ap (tails_left i j k) e
        ∙ ap₂ (λ (a b : Column). set (set es j (tail_of i k es a)) (j + 1) (tail_of i k es b))
        (get_or-set_other (set cs j c) (j + 1) j d [] (λ e. omega arith) ∙ get_or-set_same cs j c [] (omega arith))
        (get_or-set_same (set cs j c) (j + 1) d [] (rw length-set hj))
        ∙ ap (λ (fs : Matrix). set fs (j + 1) (tail_of i k es d))
        (set_comm (set cs j c) (j + 1) j d (tail_of i k es c) (λ e. omega arith) ∙ ap (λ (fs : Matrix). set fs (j + 1) d) (set-set cs j c (tail_of i k es c)))
        ∙ set-set (set cs j (tail_of i k es c)) (j + 1) d (tail_of i k es d)
        ∙ ap₂ (λ (a b : Column). set (set cs j a) (j + 1) b) (tail_by k es cs c by) (tail_by k es cs d by)

-- ---- column j, or the columns j and j + 1, with rows written: what is left, and minus the numbers that the steps multiply by
module _ (i j m n : ℕ) (s t : List Float) (len : length s ≡ n * m) (right : i + 4 ≤ j) where
  abbrev cs : Matrix
  cs = columns m n s

  module _ (k : ℕ) (f : Four) (below : i + 4 ≤ k) (hj : j < n) (is : f ≡ minus_of i (column cs j)) where
    hc : j < length cs
    hc = rw length_columns hj

    pub row_left : (v : Float) → k < m → v ≡ add_four i cs f k (entry (column cs j) k) → columns m n t ≡ set cs j (set (column cs j) k v)
        → tail_left i j (k + 1) (columns m n t) ≡ tail_left i j k cs
    unfolding tail_left
    row_left v hk e made =
        put_one i j cs (columns m n t) right (k + 1) _ hc made
        ∙ ap (set cs j) (row_step i cs (column cs j) k (k + 1) v refl below (rw (full m n s j len hj) hk)
        (e ∙ ap (λ (g : Four). add_four i cs g k (entry (column cs j) k)) is))

    pub row_minus : (v : Float) → columns m n t ≡ set cs j (set (column cs j) k v) → f ≡ minus_of i (column (columns m n t) j)
    row_minus v made =
        is ∙ sym (minus_set i (column cs j) k v below) ∙ ap (minus_of i) (sym (ap (λ (ds : Matrix). column ds j) made ∙ get_or-set_same cs j _ [] hc))

-- columns j and j + 1 written
module _ (j m n : ℕ) (s t u : List Float) (c d : Column) (hj : j + 1 < n) (first_made : columns m n t ≡ set (columns m n s) j c)
    (second-made : columns m n u ≡ set (columns m n t) (j + 1) d) where
  -- the second column is the same before and after the first is written
  second_kept : column (columns m n t) (j + 1) ≡ column (columns m n s) (j + 1)
  second_kept = ap (λ (ds : Matrix). column ds (j + 1)) first_made ∙ get_or-set_other (columns m n s) j (j + 1) c [] (λ e. omega arith)

  first_is : column (columns m n u) j ≡ c
  first_is =
      ap (λ (ds : Matrix). column ds j) second-made ∙ get_or-set_other (columns m n t) (j + 1) j d [] (λ e. omega arith)
      ∙ ap (λ (ds : Matrix). column ds j) first_made ∙ get_or-set_same (columns m n s) j c [] (rw length_columns (omega arith))

  second_is : column (columns m n u) (j + 1) ≡ d
  second_is = ap (λ (ds : Matrix). column ds (j + 1)) second-made ∙ get_or-set_same (columns m n t) (j + 1) d [] (rw length_columns hj)

  -- rows of each being as they are after the steps
  two_left : (i k next : ℕ) → i + 4 ≤ j → tail_of i next (columns m n s) c ≡ tail_of i k (columns m n s) (column (columns m n s) j)
      → tail_of i next (columns m n s) d ≡ tail_of i k (columns m n s) (column (columns m n s) (j + 1))
      → tails_left i j next (columns m n u) ≡ tails_left i j k (columns m n s)
  unfolding tails_left set_two
  two_left i k next right first_rest second-rest =
      let cs = columns m n s in
      put_two i j cs (columns m n u) right next c d (rw length_columns hj) (second-made ∙ ap (λ (ds : Matrix). set ds (j + 1) d) first_made)
      ∙ ap₂ (λ (a b : Column). set (set cs j a) (j + 1) b) first_rest second-rest

-- four rows of both, all read before
module _ (i j k m n : ℕ) (s t u : List Float) (f g x y : Four) (len : length s ≡ n * m) (right : i + 4 ≤ j) (below : i + 4 ≤ k) (hj : j + 1 < n)
    (hk : k + 4 ≤ m)
    (f_is : f ≡ minus_of i (column (columns m n s) j)) (g-is : g ≡ minus_of i (column (columns m n s) (j + 1)))
    (first_made : columns m n t ≡ set (columns m n s) j (written_four k x (column (columns m n s) j)))
    (second-made : columns m n u ≡ set (columns m n t) (j + 1) (written_four k y (column (columns m n t) (j + 1)))) where
  kept : column (columns m n t) (j + 1) ≡ column (columns m n s) (j + 1)
  kept = second_kept j m n s t u _ _ hj first_made second-made

  pub fours_first : f ≡ minus_of i (column (columns m n u) j)
  fours_first = f_is ∙ sym (minus_four i _ k x below) ∙ ap (minus_of i) (sym (first_is j m n s t u _ _ hj first_made second-made))

  pub fours_second : g ≡ minus_of i (column (columns m n u) (j + 1))
  fours_second = g-is ∙ ap (minus_of i) (sym kept) ∙ sym (minus_four i _ k y below)
      ∙ ap (minus_of i) (sym (second_is j m n s t u _ _ hj first_made second-made))

  pub fours_left : x ≡ four_rows i (columns m n s) f k (column (columns m n s) j) → y ≡ four_rows i (columns m n s) g k (column (columns m n s) (j + 1))
      → tails_left i j (k + 4) (columns m n u) ≡ tails_left i j k (columns m n s)
  fours_left ex ey =
      let cs = columns m n s in
      two_left j m n s t u _ _ hj first_made second-made i k (k + 4) right
      (four_step i cs (column cs j) k f x f_is ex below (rw (full m n s j len (omega arith)) hk))
      (ap (λ (c : Column). tail_of i (k + 4) cs (written_four k y c)) kept
      ∙ four_step i cs (column cs (j + 1)) k g y g-is ey below (rw (full m n s (j + 1) len hj) hk))

-- two rows of both, all read before the columns are lent to be written
module _ (i j k m n : ℕ) (s : List Float) (f g : Four) (x x1 y y1 : Float) (p q : List Float) (len : length s ≡ n * m) (right : i + 4 ≤ j)
    (below : i + 4 ≤ k) (hj : j + 1 < n) (hk : k + 2 ≤ m) where
  abbrev part : ℕ → List Float → List Float
  part r v = mid_of (r * m) (r * m + m - r * m) v

  abbrev put : ℕ → List Float → List Float → List Float
  put r v c = put_mid (r * m) (r * m + m - r * m) v c

  abbrev before : Matrix
  before = columns m n s

  two_rest : (h : Four) (c : Column) (v w : Float) → length c ≡ m → h ≡ minus_of i c → v ≡ add_four i before h k (entry c k)
      → w ≡ add_four i before h (k + 1) (entry c (k + 1)) → tail_of i (k + 2) before (set (set c k v) (k + 1) w) ≡ tail_of i k before c
  two_rest h c v w l is ev ew =
      let by : (r : ℕ) (z : Float) → z ≡ add_four i before h r (entry c r) → z ≡ add_four i before (minus_of i c) r (entry c r) = λ r z e. e
      ∙ ap (λ (a : Four). add_four i before a r (entry c r)) is in
      two_step i before c k (k + 1) (k + 2) v w refl refl below (rw l hk) (by k v ev) (by (k + 1) w ew)

  pub twos_left : f ≡ minus_of i (column before j) → g ≡ minus_of i (column before (j + 1)) → x ≡ add_four i before f k (entry (column before j) k)
      → x1 ≡ add_four i before f (k + 1) (entry (column before j) (k + 1))
      → y ≡ add_four i before g k (entry (column before (j + 1)) k) → y1 ≡ add_four i before g (k + 1) (entry (column before (j + 1)) (k + 1))
      → length p ≡ length (part j s) → p ≡ set (set (part j s) k x) (k + 1) x1 → length q ≡ length (part (j + 1) (put j s p))
      → q ≡ set (set (part (j + 1) (put j s p)) k y) (k + 1) y1
      → tails_left i j (k + 2) (columns m n (put (j + 1) (put j s p) q)) ≡ tails_left i j k before
  twos_left f_is g-is ex ex1 ey ey1 kept-p made-p kept-q made-q =
      let t = put j s p in
      let first = column_lent (λ c. set (set c k x) (k + 1) x1) m n j s p (omega arith) len kept-p made-p in
      let second = column_lent (λ c. set (set c k y) (k + 1) y1) m n (j + 1) t q hj (same_len_mid (j * m) (j * m + m - j * m) s p kept-p ∙ len) kept-q made-q in
      two_left j m n s t (put (j + 1) t q) _ _ hj first second i k (k + 2) right
      (two_rest f (column before j) x x1 (full m n s j len (omega arith)) f_is ex ex1)
      (ap (λ (c : Column). tail_of i (k + 2) before (set (set c k y) (k + 1) y1)) (second_kept j m n s t (put (j + 1) t q) _ _ hj first second)
      ∙ two_rest g (column before (j + 1)) y y1 (full m n s (j + 1) len hj) g-is ey ey1)

-- a column with nothing left
pub none_left : (i j k m n : ℕ) (s : List Float) → length s ≡ n * m → j < n → m ≤ k → columns m n s ≡ tail_left i j k (columns m n s)
unfolding tail_left tail_of
none_left i j k m n s len hj h = sym (ap (set (columns m n s) j) (each_stop _ k _ (rw (full m n s j len hj) h)) ∙ set-get_or (columns m n s) j [])

-- the first column done, and then the second
pub both_left : (i j k m n : ℕ) (s t u : List Float) → i + 4 ≤ j → columns m n t ≡ tail_left i j k (columns m n s)
    → columns m n u ≡ tail_left i (j + 1) k (columns m n t) → columns m n u ≡ tails_left i j k (columns m n s)
unfolding set_two tail_left tails_left
both_left i j k m n s t u right first second =
    let cs = columns m n s in
    let done = set cs j (tail_of i k cs (column cs j)) in
    second ∙ ap (tail_left i (j + 1) k) first
    ∙ ap (set done (j + 1)) (ap (tail_of i k done) (get_or-set_other cs j (j + 1) _ [] (λ e. omega arith)) ∙ tail_by i k done cs _
    (λ q l. get_or-set_other cs j q _ [] (λ e. omega arith)))

-- so are both where the last row of the one is done, and then that of the other
pub rows_made : (i j k m n : ℕ) (s t u : List Float) → length s ≡ n * m → i + 4 ≤ j → j + 1 < n → m < k + 2 → length t ≡ length s → length u ≡ length t
    → tail_left i j (k + 1) (columns m n t) ≡ tail_left i j k (columns m n s) → tail_left i (j + 1) (k + 1) (columns m n u)
    ≡ tail_left i (j + 1) k (columns m n t)
    → columns m n u ≡ tails_left i j k (columns m n s)
rows_made i j k m n s t u len right hj last same-t same-u first second =
    let lt = same-t ∙ len in
    both_left i j k m n s t u right (none_left i j (k + 1) m n t lt (omega arith) (omega arith) ∙ first)
    (none_left i (j + 1) (k + 1) m n u (same-u ∙ lt) hj (omega arith) ∙ second)
