-- A text written over bytes: piece by piece, and by its last byte first. By what stands before and behind the place. Assumes nothing.
use mathlib.Core.Path.{◌≡◌, refl, sym, ap, ap₂, ◌∙◌}
use mathlib.Core.List.{List, [], ◌∷◌, ◌++◌, append-nil, append_assoc}
use Prim.Native.Nat.{ℕ, zero, suc, ◌+◌, ◌/◌, ◌%◌, ◌≤◌, ◌<◌}
use native.Mathlib.Numerals.{add-one}
use native.Mathlib.Nat.{add-zero}
use native.Mathlib.Omega.{arith}
use lib.ListN.{length, set, take, drop, length-append, length-drop, length-set, take-append-drop}
use lib.Seq.{length-take-le, set_split, append_snoc, drop-cons, take-set-le, get_or-set_same, drop-set-lt, take_at, drop_at, drop-drop}
use borrow.Author.Tests.{lt-ltb, le-ltb}
use lib.Dec.{ltb}
use lib.Ieee.{Float, binary64, to_bits}
use Rattle.numbers.proofs.Choice.{cond_cases}
use Rattle.io.specs.Counts.{IsPrefixLen}
use Rattle.io.specs.Digits.{last_digits, hex_digit_ascii}
use Rattle.panel_text.specs.Text.{written, decimal, line_of}

pub written_nil : (at : ℕ) (s : List ℕ) → written at [] s ≡ s
unfolding written
written_nil at s = rw (add-zero at, append-nil) (take-append-drop at s)

pub written_byte : (at b : ℕ) (s : List ℕ) → at < length s → set s at b ≡ written at (b ∷ []) s
unfolding written
written_byte at b s h =
    set_split s at b h ∙ sym (append_snoc (take at s) b (drop (suc at) s)) ∙ ap (λ (k : ℕ). take at s ++ b ∷ [] ++ drop k s) (sym (add-one at))

pub length_written : (at : ℕ) (a s : List ℕ) → at + length a ≤ length s → length (written at a s) ≡ length s
unfolding written
length_written at a s h =
    let l = length-take-le at s (omega arith) in
    simp (length-append, length-drop) (omega arith)

-- one piece behind the other
pub written_append : (at : ℕ) (a b s : List ℕ) → at + length (a ++ b) ≤ length s → written (at + length a) b (written at a s) ≡ written at (a ++ b) s
unfolding written
written_append at a b s h =
    let la : length (a ++ b) ≡ length a + length b = length-append a b in
    let l : length (take at s ++ a) ≡ at + length a = length-append (take at s) a ∙ ap (λ (k : ℕ). k + length a) (length-take-le at s (omega arith)) in
    let place : at + length a + length b ≡ at + length (a ++ b) = omega arith in
    let back : drop (at + length a + length b) (take at s ++ a ++ drop (at + length a) s) ≡ drop (at + length (a ++ b)) s =
    sym (drop-drop (length b) (at + length a) (take at s ++ a ++ drop (at + length a) s))
    ∙ ap (drop (length b)) (drop_at (take at s ++ a) (drop (at + length a) s) (at + length a) l) ∙ drop-drop (length b) (at + length a) s
    ∙ ap (λ (k : ℕ). drop k s) place in
    ap₂ (λ (x y : List ℕ). x ++ b ++ y) (take_at (take at s ++ a) (drop (at + length a) s) (at + length a) l) back
    ∙ ap (λ (t : List ℕ). t ++ drop (at + length (a ++ b)) s) (append_assoc (take at s) a b)

-- what was written so far, and one piece more
pub written_more : (at p : ℕ) (a b s now next : List ℕ) → now ≡ written at a s → p ≡ at + length a → next ≡ written p b now → at + length (a ++ b) ≤ length s
    → next ≡ written at (a ++ b) s
written_more at p a b s now next e d f h = f ∙ ap₂ (λ (q : ℕ) (t : List ℕ). written q b t) d e ∙ written_append at a b s h

-- ---- digits, the last first
pub length_digits : (b k n : ℕ) → length (last_digits b k n) ≡ k
length_digits b zero n = refl
length_digits b (suc k) n = length-append (last_digits b k (n / b)) (hex_digit_ascii (n % b) ∷ []) ∙ ap (λ (j : ℕ). j + 1) (length_digits b k (n / b))
    ∙ add-one k

-- at digit k: the first k digits of the rest, and what is written behind them, are the whole
pub record Spelling (at bits : ℕ) (was s : List ℕ) (rest k : ℕ) : Type 0 where
  pub size : length s ≡ length was
  pub place : k ≤ 16
  pub front : take at s ≡ take at was
  pub left : last_digits 16 k rest ++ drop (at + k) s ≡ last_digits 16 16 bits ++ drop (at + 16) was

pub spell_turn : (at bits : ℕ) (was s : List ℕ) (rest k j g : ℕ) → Spelling at bits was s rest k → k ≡ suc j → at + 16 ≤ length was → g
    ≡ hex_digit_ascii (rest % 16)
    → Spelling at bits was (set s (at + j) g) (rest / 16) j
spell_turn at bits was s rest k j g p e h d =
    let there : at + j < length s = omega (arith, p.size, p.place) in
    let next : at + suc j ≡ suc (at + j) = omega arith in
    let tail : drop (at + j) (set s (at + j) g) ≡ g ∷ drop (at + suc j) s =
    drop-cons (set s (at + j) g) (at + j) 0 (rw length-set there)
    ∙ ap₂ (λ (x : ℕ) (l : List ℕ). x ∷ l) (get_or-set_same s (at + j) g 0 there)
    (drop-set-lt (suc (at + j)) s (at + j) g (omega arith) ∙ ap (λ (i : ℕ). drop i s) (sym next)) in
    let whole : last_digits 16 (suc j) rest ++ drop (at + suc j) s ≡ last_digits 16 16 bits ++ drop (at + 16) was = rw e at p.left in
    record {
      size = simp length-set p.size;
      place = omega (arith, p.place);
      front = take-set-le at s (at + j) g (omega arith) ∙ p.front;
      left = ap (λ (l : List ℕ). last_digits 16 j (rest / 16) ++ l) tail ∙ sym (append_snoc (last_digits 16 j (rest / 16)) g (drop (at + suc j) s))
          ∙ ap (λ (x : ℕ). last_digits 16 j (rest / 16) ++ x ∷ [] ++ drop (at + suc j) s) d ∙ whole;
    }

pub spell_end : (at bits : ℕ) (was s : List ℕ) (rest k : ℕ) → Spelling at bits was s rest k → k ≡ 0 → s ≡ written at (last_digits 16 16 bits) was
unfolding written
spell_end at bits was s rest k p e =
    let left : drop (at + 0) s ≡ last_digits 16 16 bits ++ drop (at + 16) was = rw e at p.left in
    sym (take-append-drop at s) ∙ ap₂ (λ (x y : List ℕ). x ++ y) p.front (ap (λ (i : ℕ). drop i s) (sym (add-zero at)) ∙ left)
    ∙ sym (append_assoc (take at was) (last_digits 16 16 bits) (drop (at + 16) was))
    ∙ ap (λ (i : ℕ). take at was ++ last_digits 16 16 bits ++ drop (at + i) was) (sym (length_digits 16 16 bits))

-- ---- a number in decimal, and a pad's line

pub length_decimal : (n : ℕ) → (1 ≤ length (decimal n)) × (length (decimal n) ≤ 2)
unfolding decimal
length_decimal n = cond_cases (λ (t : List ℕ). (1 ≤ length t) × (length t ≤ 2)) (ltb n 10) (λ e. (omega arith, omega arith)) (λ e. (omega arith, omega arith))

pub decimal_one : (at n : ℕ) (s : List ℕ) → n < 10 → at < length s → (at + 1 ≡ at + length (decimal n)) × (set s at (48 + n) ≡ written at (decimal n) s)
unfolding decimal
decimal_one at n s h l = rw (lt-ltb n 10 h) (refl, written_byte at (48 + n) s l)

pub decimal_two : (at n : ℕ) (s : List ℕ) → 10 ≤ n → at + 2 ≤ length s
    → (at + 2 ≡ at + length (decimal n)) × (set (set s at (48 + n / 10)) (at + 1) (48 + n % 10) ≡ written at (decimal n) s)
unfolding decimal
decimal_two at n s h l =
    let a = 48 + n / 10 in
    let b = 48 + n % 10 in
    let first = written_byte at a s (omega arith) in
    let second = written_byte (at + 1) b (set s at a) (rw length-set (omega arith)) in
    rw (le-ltb n 10 h) (refl, written_more at (at + 1) (a ∷ []) (b ∷ []) s (set s at a) _ first refl second l)

pub length_line : (pad : ℕ) (load : Float) → length (line_of pad load) ≤ 20
unfolding line_of
length_line pad load = simp (length-append, length_digits) (omega (arith, (length_decimal pad).1))

-- the newline has its place
pub line_room : (at pad : ℕ) (load : Float) (s s1 s2 : List ℕ) (space : ℕ) → at + 20 ≤ length s
    → s1 ≡ written at (decimal pad) s → space ≡ at + length (decimal pad)
    → s2 ≡ written (space + 1) (last_digits 16 16 (to_bits binary64 load)) (set s1 space 32) → (space + 1 + 16 < length s2) × (length s2 ≡ length s)
line_room at pad load s s1 s2 space h e d f =
    let bits = to_bits binary64 load in
    let few = (length_decimal pad).1 in
    let lh : length (last_digits 16 16 bits) ≡ 16 = length_digits 16 16 bits in
    let z1 : length s1 ≡ length s = ap length e ∙ length_written at (decimal pad) s (omega arith) in
    let y1 : length (set s1 space 32) ≡ length s = length-set s1 space 32 ∙ z1 in
    let z2 : length s2 ≡ length s = ap length f ∙ length_written (space + 1) (last_digits 16 16 bits) (set s1 space 32) (omega arith) ∙ y1 in
    (omega arith, z2)

pub line_written : (at pad : ℕ) (load : Float) (s s1 s2 : List ℕ) (space : ℕ) → at + 20 ≤ length s
    → s1 ≡ written at (decimal pad) s → space ≡ at + length (decimal pad) → s2 ≡ written (space + 1) (last_digits 16 16 (to_bits binary64 load))
    (set s1 space 32)
    → (space + 1 + 16 + 1 ≡ at + length (line_of pad load)) × (set s2 (space + 1 + 16) 10 ≡ written at (line_of pad load) s)
unfolding line_of
line_written at pad load s s1 s2 space h e d f =
    let hex = last_digits 16 16 (to_bits binary64 load) in
    let few = (length_decimal pad).1 in
    let lh : length hex ≡ 16 = length_digits 16 16 (to_bits binary64 load) in
    let a1 = decimal pad ++ 32 ∷ [] in
    let a2 = a1 ++ hex in
    let l1 : length a1 ≡ length (decimal pad) + 1 = length-append (decimal pad) (32 ∷ []) in
    let l2 : length a2 ≡ length (decimal pad) + 17 = length-append a1 hex ∙ omega arith in
    let l3 : length (a2 ++ 10 ∷ []) ≡ length (decimal pad) + 18 = length-append a2 (10 ∷ []) ∙ omega arith in
    let z1 : length s1 ≡ length s = ap length e ∙ length_written at (decimal pad) s (omega arith) in
    let w1 : set s1 space 32 ≡ written at a1 s =
    written_more at space (decimal pad) (32 ∷ []) s s1 _ e d (written_byte space 32 s1 (omega arith)) (omega arith) in
    let w2 : s2 ≡ written at a2 s = written_more at (space + 1) a1 hex s _ s2 w1 (omega arith) f (omega arith) in
    let z2 : length s2 ≡ length s = ap length w2 ∙ length_written at a2 s (omega arith) in
    (omega arith, written_more at (space + 1 + 16) a2 (10 ∷ []) s s2 _ w2 (omega arith) (written_byte (space + 1 + 16) 10 s2 (omega arith)) (omega arith))

-- ---- what a call promises of the text that it prints: the bytes that count, how many, and that they stand in front
abbrev pub Prints : (text : List ℕ) (count : ℕ) (was now : List ℕ) → Type 0
Prints text count was now = IsPrefixLen count now × ((count ≡ length text) × (now ≡ written 0 text was))

-- a text that stands in front of what was there, under another name
pub prints : (text named : List ℕ) (count : ℕ) (was now : List ℕ) → text ≡ named → count ≡ length text → now ≡ written 0 text was → Prints named count was now
unfolding written
prints text named count was now same e d =
    let count_is : count ≡ length named = e ∙ ap length same in
    let is : now ≡ written 0 named was = d ∙ ap (λ (l : List ℕ). written 0 l was) same in
    let long : length now ≡ length named + length (drop (0 + length named) was) = ap length is ∙ length-append named (drop (0 + length named) was) in
    let within : count ≤ length now = omega arith in
    ((within, sym (length-take-le count now within)), (count_is, is))
