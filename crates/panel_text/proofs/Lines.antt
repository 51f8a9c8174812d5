-- The lines of a text as the loops over them meet them, and the first line before them: one turn and the end. By what is written so far. Assumes nothing.
use mathlib.Core.Path.{◌≡◌, refl, sym, ap, ap₂, ◌∙◌}
use mathlib.Core.List.{List, [], ◌∷◌, ◌++◌}
use Prim.Native.Nat.{ℕ, suc, ◌+◌, ◌-◌, ◌*◌, ◌≤◌, ◌<◌}
use native.Mathlib.Numerals.{add-one}
use native.Mathlib.Omega.{arith}
use lib.ListN.{length, get_or, set, drop, length-append, length-drop, length-set, drop_of_length-le}
use Rattle.numbers.specs.Column.{Column, entry}
use Rattle.numbers.proofs.Each.{length_list, list_at}
use Rattle.numbers.proofs.Walk.{drop_next}
use Rattle.ranking.specs.Ranking.{load_of}
use Rattle.panel_text.specs.Text.{written, decimal, line_of, lines_of, numbered, first_line, pads_word, pads_text, refused_word, refused_text}
use Rattle.panel_text.proofs.Writing.{written_nil, written_byte, written_append, written_more, length_written, length_decimal, length_line}

no_lines : (loads : Column) → lines_of loads [] ≡ []
unfolding lines_of
no_lines loads = refl

-- ---- the lines, one after the other: the loop's place i
pub record Lines (loads : Column) (ranks : List ℕ) (from : ℕ) (was s : List ℕ) (at i : ℕ) : Type 0 where
  pub size : length s ≡ length was
  pub place : i ≤ length ranks
  pub room : at + 20 * (length ranks - i) ≤ length was
  pub end : at + length (lines_of loads (drop i ranks)) ≡ from + length (lines_of loads ranks)
  pub left : written at (lines_of loads (drop i ranks)) s ≡ written from (lines_of loads ranks) was

lines_next : (loads : Column) (ranks : List ℕ) (i : ℕ) → i < length ranks
    → lines_of loads (drop i ranks) ≡ line_of (get_or ranks i 0) (load_of loads (get_or ranks i 0)) ++ lines_of loads (drop (i + 1) ranks)
unfolding lines_of
lines_next loads ranks i h = ap (lines_of loads) (drop_next ranks i 0 h)

length_lines : (loads : Column) (ps : List ℕ) → length (lines_of loads ps) ≤ 20 * length ps
unfolding lines_of
length_lines loads [] = omega arith
length_lines loads (p ∷ ps) = rw length-append (omega (arith, length_line p (load_of loads p), length_lines loads ps))

pub lines_turn : (loads : Column) (ranks : List ℕ) (from : ℕ) (was s : List ℕ) (at i : ℕ) → Lines loads ranks from was s at i → i < length ranks
    → (next : List ℕ) (to : ℕ) → next ≡ written at (line_of (get_or ranks i 0) (load_of loads (get_or ranks i 0))) s
    → to ≡ at + length (line_of (get_or ranks i 0) (load_of loads (get_or ranks i 0)))
    → Lines loads ranks from was next to (i + 1)
lines_turn loads ranks from was s at i p h next to e d =
    let line = line_of (get_or ranks i 0) (load_of loads (get_or ranks i 0)) in
    let rest = lines_of loads (drop (i + 1) ranks) in
    let ll : length line ≤ 20 = length_line (get_or ranks i 0) (load_of loads (get_or ranks i 0)) in
    let lr : length rest ≤ 20 * (length ranks - (i + 1)) = rw length-drop at (length_lines loads (drop (i + 1) ranks)) in
    let n = lines_next loads ranks i h in
    let la : length (line ++ rest) ≡ length line + length rest = length-append line rest in
    let ln : length (lines_of loads (drop i ranks)) ≡ length (line ++ rest) = ap length n in
    let fits : at + length (line ++ rest) ≤ length s = omega (arith, p.room, p.size) in
    record {
      size = ap length e ∙ length_written at line s (omega arith) ∙ p.size;
      place = omega arith;
      room = omega (arith, p.room);
      end = omega (arith, p.end);
      left = ap₂ (λ (q : ℕ) (t : List ℕ). written q rest t) d e ∙ written_append at line rest s fits ∙ ap (λ (t : List ℕ). written at t s) (sym n) ∙ p.left;
    }

pub lines_end : (loads : Column) (ranks : List ℕ) (from : ℕ) (was s : List ℕ) (at i : ℕ) → Lines loads ranks from was s at i → length ranks ≤ i
    → (at ≡ from + length (lines_of loads ranks)) × (s ≡ written from (lines_of loads ranks) was)
lines_end loads ranks from was s at i p h =
    let none : lines_of loads (drop i ranks) ≡ [] = ap (lines_of loads) (drop_of_length-le ranks h) ∙ no_lines loads in
    let no_length : length (lines_of loads (drop i ranks)) ≡ 0 = ap length none in
    (omega (arith, p.end), sym (written_nil at s) ∙ ap (λ (t : List ℕ). written at t s) (sym none) ∙ p.left)

-- ---- the lines: reading i has the number i + 1
pub moves_turn : (moves : Column) (was s : List ℕ) (at i : ℕ) → Lines moves (numbered (length moves)) 0 was s at i → i < length moves
    → (next : List ℕ) (to : ℕ) → next ≡ written at (line_of (i + 1) (entry moves i)) s → to ≡ at + length (line_of (i + 1) (entry moves i))
    → Lines moves (numbered (length moves)) 0 was next to (i + 1)
moves_turn moves was s at i p h next to e d =
    let name : get_or (numbered (length moves)) i 0 ≡ i + 1 = list_at (length moves) suc i 0 h ∙ sym (add-one i) in
    let place : i ≡ i + 1 - 1 = omega arith in
    let line : line_of (i + 1) (entry moves i) ≡ line_of (get_or (numbered (length moves)) i 0) (load_of moves (get_or (numbered (length moves)) i 0)) =
    ap (λ (k : ℕ). line_of (i + 1) (entry moves k)) place ∙ ap (λ (p : ℕ). line_of p (load_of moves p)) (sym name) in
    lines_turn moves (numbered (length moves)) 0 was s at i p (rw (length_list (length moves) suc) h) next to
    (e ∙ ap (λ (l : List ℕ). written at l s) line) (d ∙ ap (λ (l : List ℕ). at + length l) line)

-- ---- the first line: a word, a number and the newline
pub record FirstLine (word : List ℕ) (n : ℕ) (s s2 : List ℕ) (end : ℕ) : Type 0 where
  pub room : end < length s2
  pub few : end + 1 ≤ length word + 3
  pub size : length s2 ≡ length s
  pub count : end + 1 ≡ length (first_line word n)
  pub is : set s2 end 10 ≡ written 0 (first_line word n) s

pub first_line_written : (word : List ℕ) (n : ℕ) (s s1 s2 : List ℕ) (at end : ℕ) → length word + 3 ≤ length s → s1 ≡ written 0 word s → at ≡ 0 + length word
    → s2 ≡ written at (decimal n) s1 → end ≡ at + length (decimal n) → FirstLine word n s s2 end
first_line_written word n s s1 s2 at end h e d f g =
    let few = (length_decimal n).1 in
    let l1 : length (word ++ decimal n) ≡ length word + length (decimal n) = length-append word (decimal n) in
    let l2 : length (first_line word n) ≡ length (word ++ decimal n) + 1 = length-append (word ++ decimal n) (10 ∷ []) in
    let w : s2 ≡ written 0 (word ++ decimal n) s = written_more 0 at word (decimal n) s s1 s2 e d f (omega arith) in
    let z : length s2 ≡ length s = ap length w ∙ length_written 0 (word ++ decimal n) s (omega arith) in
    record {
      room = omega arith;
      few = omega arith;
      size = z;
      count = omega arith;
      is = written_more 0 end (word ++ decimal n) (10 ∷ []) s s2 _ w (omega arith) (written_byte end 10 s2 (omega arith)) (omega arith);
    }

pub refusal_written : (number : ℕ) (s s2 : List ℕ) (end : ℕ) → FirstLine refused_word number s s2 end
    → (end + 1 ≡ length (refused_text number)) × (set s2 end 10 ≡ written 0 (refused_text number) s)
unfolding refused_text
refusal_written number s s2 end p = (p.count, p.is)

pub pads_written : (n : ℕ) (loads : Column) (ranks s s2 s3 : List ℕ) (end to : ℕ) → FirstLine pads_word n s s2 end
    → length ranks ≤ 64 → 1288 ≤ length s → to ≡ end + 1 + length (lines_of loads ranks) → s3 ≡ written (end + 1) (lines_of loads ranks) (set s2 end 10)
    → (to ≡ length (pads_text n loads ranks)) × (s3 ≡ written 0 (pads_text n loads ranks) s) × (length s3 ≡ length s)
unfolding pads_text
pads_written n loads ranks s s2 s3 end to p few room e f =
    let head = first_line pads_word n in
    let lines = lines_of loads ranks in
    let lh : length head ≡ 5 + length (decimal n) + 1 = simp length-append (omega arith) in
    let ld = (length_decimal n).1 in
    let ll = length_lines loads ranks in
    let la : length (head ++ lines) ≡ length head + length lines = length-append head lines in
    let y : length (set s2 end 10) ≡ length s = length-set s2 end 10 ∙ p.size in
    let z : length s3 ≡ length s = ap length f ∙ length_written (end + 1) lines (set s2 end 10) (omega (arith, p.count)) ∙ y in
    (omega (arith, p.count), written_more 0 (end + 1) head lines s (set s2 end 10) s3 p.is (omega (arith, p.count)) f (omega arith), z)
