-- The turns of a solve row by row: which row each has, and what a row's sum is once one more turn is done. Assumes nothing.
use mathlib.Core.Path.{◌≡◌, refl, sym, ap, ap₂, ◌∙◌}
use mathlib.Core.Bool.{Bool, true, false}
use Prim.Native.Nat.{ℕ, zero, suc, ◌+◌, ◌-◌, ◌%◌, ◌≤◌, ◌<◌}
use Rattle.std.proofs.Math.Nat.{mod-eq-sub-mod}
use Rattle.std.proofs.lemmas.Nat.Gcd.{dvd_of_mod-eq-zero, le_of_dvd}
use native.Mathlib.Omega.{arith}
use lib.ListN.{length, set}
use lib.Seq.{get_or-set_same, get_or-set_other}
use lib.Ieee.{Float, nan, neg}
use Rattle.numbers.specs.Each.{turns_from}
use Rattle.numbers.specs.Numbers.{plus_product}
use Rattle.numbers.specs.Column.{Column, entry}
use Rattle.numbers.proofs.Each.{turns_turn}
use Rattle.store.specs.Steps.{Matrix, column}
use Rattle.store.specs.Columns.{columns}
use Rattle.solve_by_rows.specs.Rows.{row_of, with_turn, row_sum, row_done, all_rows, rows_from}

-- ---- turns one after another
module _ {S : Type 0} (f : ℕ → S → S) where
  -- first a of them, then the others
  pub turns_more : (i a c d : ℕ) (s : S) → d ≡ a + c → turns_from f (i + a) c (turns_from f i a s) ≡ turns_from f i d s
  unfolding turns_from
  turns_more i zero c d s e =
      let none : i + zero ≡ i = omega arith in
      let all : c ≡ d = omega (arith, e) in
      ap₂ (λ (j h : ℕ). turns_from f j h s) none all
  turns_more i (suc a) c d s e =
      let on : i + suc a ≡ i + 1 + a = omega arith in
      ap (λ (j : ℕ). turns_from f j c (turns_from f (i + 1) a (f i s))) on ∙ turns_more (i + 1) a c (a + c) (f i s) refl
      ∙ turns_turn f i d (a + c) s (omega (arith, e))

  -- in a loop that makes w turns at a time, one of its own
  pub turns_by : (w k c i d : ℕ) (s t : S) → i ≡ k + w → c ≡ w + d → t ≡ turns_from f k w s → turns_from f i d t ≡ turns_from f k c s
  turns_by w k c i d s t next left made = ap₂ (λ (j : ℕ) (u : S). turns_from f j d u) next made ∙ turns_more k w d c s left

  -- the last of them
  pub turns_snoc : (i c : ℕ) (s : S) → turns_from f i (c + 1) s ≡ f (i + c) (turns_from f i c s)
  unfolding turns_from
  turns_snoc i c s = sym (turns_more i c 1 (c + 1) s refl)

  pub turns_last : (c : ℕ) (s : S) → turns_from f 0 (c + 1) s ≡ f c (turns_from f 0 c s)
  turns_last c s =
      let on : 0 + c ≡ c = omega arith in
      turns_snoc 0 c s ∙ ap (λ (j : ℕ). f j (turns_from f 0 c s)) on

-- where whole blocks of w turns are left from turn k to turn `to`, and not none, one more fits, and whole blocks are left behind it
pub block_fits : (w k to : ℕ) → 1 ≤ w → k < to → (to - k) % w ≡ 0 → (k + w ≤ to) × ((to - (k + w)) % w ≡ 0)
block_fits w k to some on whole =
    let block : w ≤ to - k = le_of_dvd (omega arith) (dvd_of_mod-eq-zero w whole) in
    let room : k + w ≤ to = omega (arith, block) in
    let left : to - (k + w) ≡ to - k - w = omega arith in
    (room, ap (λ (d : ℕ). d % w) left ∙ sym (mod-eq-sub-mod block) ∙ whole)

-- two ways to make a turn that agree
pub turns_same : {S : Type 0} (f g : ℕ → S → S) (i c : ℕ) (s : S) → ((k : ℕ) (x : S) → i ≤ k → k < i + c → f k x ≡ g k x)
    → turns_from f i c s ≡ turns_from g i c s
unfolding turns_from
turns_same f g i zero s e = refl
turns_same f g i (suc c) s e =
    ap (turns_from f (i + 1) c) (e i s (omega arith) (omega arith)) ∙ turns_same f g (i + 1) c (g i s) (λ k x h l. e k x (omega arith) (omega arith))

-- those from the first on are all
pub rows_all : (upward : Bool) (n : ℕ) (t b : Column) → rows_from upward n t 0 b ≡ all_rows upward n t b
rows_all upward n t b = let all : n - 0 ≡ n = omega arith in ap (λ (q : ℕ). turns_from (row_done upward n (columns n n t)) 0 q b) all

-- ---- the rows of the turns
pub row_below : (upward : Bool) (n k : ℕ) → k < n → row_of upward n k < n
unfolding row_of
row_below true n k h = omega arith
row_below false n k h = h

pub row_apart : (upward : Bool) (n j k : ℕ) → j < k → k < n → row_of upward n j ≡ row_of upward n k → ⊥
unfolding row_of
row_apart true n j k h l e = omega (arith, e)
row_apart false n j k h l e = omega (arith, e)

pub row_row : (upward : Bool) (n i : ℕ) → i < n → row_of upward n (row_of upward n i) ≡ i
unfolding row_of
row_row true n i h = omega arith
row_row false n i h = refl

module _ (upward : Bool) (n : ℕ) (cs : Matrix) where
  abbrev pub row : ℕ → ℕ
  row k = row_of upward n k

  -- a row's sum does not look at rows whose turn is still to come
  pub sum_same : (b c : Column) (r turns : ℕ) (v : Float) → ((q : ℕ) → q < turns → entry b (row q) ≡ entry c (row q))
      → turns_from (with_turn upward n cs b r) 0 turns v ≡ turns_from (with_turn upward n cs c r) 0 turns v
  unfolding with_turn
  sum_same b c r turns v e = turns_same _ _ 0 turns v (λ q x h l. ap (λ (y : Float). plus_product (neg y) (entry (column cs (row q)) r) x) (e q (omega arith)))

  -- turn k done with x: the sum of a later turn's row has one product more
  pub sum_next : (b : Column) (k next m : ℕ) (x : Float) → next ≡ k + 1 → k < m → m < n → length b ≡ n
      → row_sum upward n cs (set b (row k) x) (row m) next ≡ plus_product (neg x) (entry (column cs (row k)) (row m)) (row_sum upward n cs b (row m) k)
  unfolding row_sum with_turn
  sum_next b k next m x e h l len =
      let c : Column = set b (row k) x in
      ap (λ (j : ℕ). turns_from (with_turn upward n cs c (row m)) 0 j (entry c (row m))) e
      ∙ turns_last (with_turn upward n cs c (row m)) k (entry c (row m))
      ∙ ap₂ (λ (y v : Float). plus_product (neg y) (entry (column cs (row k)) (row m)) v)
      (get_or-set_same b (row k) x nan (rw len (row_below upward n k (omega arith))))
      (ap (turns_from (with_turn upward n cs c (row m)) 0 k) (get_or-set_other b (row k) (row m) x nan (λ e. row_apart upward n k m h l (sym e)))
      ∙ sum_same c b (row m) k (entry b (row m)) (λ q g. get_or-set_other b (row k) (row q) x nan (λ e. row_apart upward n q k g (omega arith) e)))
