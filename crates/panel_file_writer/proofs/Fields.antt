-- Fields of bytes as the writer's loops meet them: a field by its last byte, and what depends on the bytes before a place alone. By one byte after the other.
-- Assumes nothing.
use mathlib.Core.Path.{◌≡◌, refl, sym, ap, ap₂, ◌∙◌}
use mathlib.Core.Bool.{true}
use mathlib.Core.List.{List, [], ◌∷◌, ◌++◌}
use Prim.Native.Nat.{ℕ, zero, suc, ◌+◌, ◌*◌, ◌/◌, ◌%◌, ◌-◌, ◌^◌, ◌≤◌, ◌<◌}
use native.Mathlib.Numerals.{add-one}
use native.Mathlib.Nat.{add-zero, zero-add, mul-add, mul_assoc, mul_left_comm, pow-succ'}
use native.Mathlib.Omega.{arith}
use borrow.Rule.Slice.PartMut.{put_mid, mid_of, post_of, mid_len, same_len_mid, take_put}
use borrow.Author.Tests.{le-leb, ltb-true, ltb-false}
use lib.Dec.{T, ltb}
use lib.ListN.{length, get_or, take, drop, set, length-set}
use lib.Seq.{length-take-le, take-take, take-add, take_at, take-set-le, drop_at, ext_get_or, get_or-take, get_or-set_same}
use lib.Ieee.{nan, binary64, fits, of_bits, to_bits}
use lib.Ieee.Bits.{of_bits-to_bits}
use Rattle.std.proofs.lemmas.List.{take-append-le}
use Rattle.numbers.specs.Each.{list_of}
use Rattle.numbers.specs.Column.{Column, entry}
use Rattle.numbers.proofs.Each.{length_list, list_at}
use Rattle.numbers.proofs.Choice.{test_cases}
use Rattle.panel_file.specs.File.{little_endian, field_at, bits_at, headed, pads_of, file_length, number_at, matrix_of, AllBytes, IsFile}
use Rattle.panel_file_writer.specs.Inner.{KeepsBefore}
use Rattle.panel_file.proofs.Bits.{field_next, field_none, read_eight}
use Rattle.std.specs.Int.{w64, from_le_bytes, to_le_bytes}
use Rattle.std.proofs.lemmas.Nat.{from_le_bytes-to_le_bytes_8}

-- ---- a field and the byte behind it
pub field_last : (k : ℕ) (s : List ℕ) (at : ℕ) → at + k < length s → field_at (suc k) s at ≡ field_at k s at + 256 ^ k * get_or s (at + k) 0
field_last zero s at h =
    let z : get_or s (at + 0) 0 ≡ get_or s at 0 = ap (λ (k : ℕ). get_or s k 0) (add-zero at) in
    omega (arith, field_next 0 s at (at + 1) (omega arith) refl, field_none s (at + 1), field_none s at)
field_last (suc j) s at h =
    let g = get_or s (at + 1 + j) 0 in
    let place : at + suc j ≡ at + 1 + j = omega arith in
    let weight : 256 ^ suc j * get_or s (at + suc j) 0 ≡ 256 * (256 ^ j * g) =
    ap₂ (λ (p i : ℕ). p * get_or s i 0) (pow-succ' 256 j) place ∙ mul_assoc 256 (256 ^ j) g in
    omega (
      arith,
      weight,
      field_last j s (at + 1) (omega arith),
      field_next (suc j) s at (at + 1) (omega arith) refl,
      field_next j s at (at + 1) (omega arith) refl,
    )

-- ---- what the bytes before a place settle
front_byte : (s t : List ℕ) (i end : ℕ) → i < end → take end s ≡ take end t → get_or s i 0 ≡ get_or t i 0
front_byte s t i end h e = sym (get_or-take end s i 0 h) ∙ ap (λ (l : List ℕ). get_or l i 0) e ∙ get_or-take end t i 0 h

front_field : (w : ℕ) (s t : List ℕ) (at end : ℕ) → at + w ≤ end → at ≤ length s → at ≤ length t → take end s ≡ take end t → field_at w s at ≡ field_at w t at
unfolding field_at
front_field w s t at end h a b e = ap little_endian (sym (cut s a) ∙ ap (drop at) front ∙ cut t b)
  where
    cut : (x : List ℕ) → at ≤ length x → drop at (take (at + w) x) ≡ take w (drop at x)
    cut x l = ap (drop at) (take-add at w x) ∙ drop_at (take at x) (take w (drop at x)) at (length-take-le at x l)

    front : take (at + w) s ≡ take (at + w) t
    front = sym (take-take (at + w) end s h) ∙ ap (take (at + w)) e ∙ take-take (at + w) end t h

front_number : (s t : List ℕ) (k end : ℕ) → 6 + 8 * k + 8 ≤ end → 6 + 8 * k ≤ length s → 6 + 8 * k ≤ length t → take end s ≡ take end t
    → number_at s k ≡ number_at t k
unfolding number_at
front_number s t k end h a b e = ap (of_bits binary64) (front_field 8 s t (6 + 8 * k) end h a b e)

front_head : (s t : List ℕ) → 6 ≤ length s → 6 ≤ length t → take 6 s ≡ take 6 t → headed s ≡ headed t
unfolding headed
front_head s t a b e =
    rw (
      le-leb 6 (length s) a,
      le-leb 6 (length t) b,
      front_byte s t 0 6 (omega arith) e,
      front_byte s t 1 6 (omega arith) e,
      front_byte s t 2 6 (omega arith) e,
      front_field 2 s t 3 6 (omega arith) (omega arith) (omega arith) e,
    )

front_pads : (s t : List ℕ) → take 6 s ≡ take 6 t → get_or s 5 0 ≡ get_or t 5 0
front_pads s t e = front_byte s t 5 6 (omega arith) e

-- ---- eight bytes written at a place are the field there, and what stands before stays
pub put_eight : (at bits : ℕ) (was s : List ℕ) → s ≡ to_le_bytes w64 bits → bits < 2 ^ 64 → at + 8 ≤ length was
    → KeepsBefore at was (put_mid at (at + 8 - at) was s) × (bits_at (put_mid at (at + 8 - at) was s) at ≡ bits)
put_eight at bits was s is small room =
    let size : length s ≡ 8 = ap length is in
    let part : length s ≡ at + 8 - at = omega arith in
    let long : length (mid_of at (at + 8 - at) was) ≡ at + 8 - at = mid_len at (at + 8) was room in
    let there : s ≡ take (at + 8 - at) (drop at (put_mid at (at + 8 - at) was s)) =
    sym (ap (take (at + 8 - at)) (drop_at (take at was) (s ++ post_of at (at + 8 - at) was) at (length-take-le at was (omega arith)))
    ∙ take_at s (post_of at (at + 8 - at) was) (at + 8 - at) part) in (
      (same_len_mid at (at + 8 - at) was s (part ∙ sym long), take_put at (at + 8 - at) was s (omega arith)),
      sym (read_eight s (put_mid at (at + 8 - at) was s) at there (omega arith)) ∙ ap (from_le_bytes w64) is ∙ from_le_bytes-to_le_bytes_8 bits small,
    )

-- ---- the head's six bytes, one after the other
pub head_put : (s : List ℕ) (n : ℕ) → 6 ≤ length s
    → (headed (set (set (set (set (set (set s 0 76) 1 88) 2 80) 3 1) 4 0) 5 n) ≡ true)
    × (get_or (set (set (set (set (set (set s 0 76) 1 88) 2 80) 3 1) 4 0) 5 n) 5 0 ≡ n)
unfolding headed field_at little_endian
head_put [] n h = absurd (omega arith)
head_put (a ∷ []) n h = absurd (omega arith)
head_put (a ∷ b ∷ []) n h = absurd (omega arith)
head_put (a ∷ b ∷ c ∷ []) n h = absurd (omega arith)
head_put (a ∷ b ∷ c ∷ d ∷ []) n h = absurd (omega arith)
head_put (a ∷ b ∷ c ∷ d ∷ e ∷ []) n h = absurd (omega arith)
head_put (a ∷ b ∷ c ∷ d ∷ e ∷ f ∷ s) n h = (rw (le-leb 6 (length (a ∷ b ∷ c ∷ d ∷ e ∷ f ∷ s)) h), refl)

-- ---- the loop that writes numbers: those before number k are written
pub record Filling (from : ℕ) (numbers : Column) (was s : List ℕ) (k : ℕ) : Type 0 where
  pub size : length s ≡ length was
  pub place : k ≤ length numbers
  pub front : take (6 + 8 * from) s ≡ take (6 + 8 * from) was
  pub done : (i : ℕ) → i < k → number_at s (from + i) ≡ entry numbers i

module _ (from : ℕ) (numbers : Column) (was s : List ℕ) (k : ℕ) (p : Filling from numbers was s k) where
  pub fill_turn : k < length numbers → 6 + 8 * (from + length numbers) ≤ length was → (next : List ℕ) → length next ≡ length s
      → take (6 + 8 * (from + k)) next ≡ take (6 + 8 * (from + k)) s
      → bits_at next (6 + 8 * (from + k)) ≡ to_bits binary64 (entry numbers k) → T (fits binary64 (entry numbers k)) → Filling from numbers was next (k + 1)
  unfolding number_at
  fill_turn h room next l e d double =
      let at = 6 + 8 * (from + k) in
      record {
        size = l ∙ p.size;
        place = omega arith;
        front = sym (take-take (6 + 8 * from) at next (omega arith)) ∙ ap (take (6 + 8 * from)) e ∙ take-take (6 + 8 * from) at s (omega arith) ∙ p.front;
        done = λ i u. test_cases (ltb i k) (λ t. older i (ltb-true _ _ t)) (λ t. newest i (omega (arith, ltb-false i k t)));
      }
    where
      older : (i : ℕ) → i < k → number_at next (from + i) ≡ entry numbers i
      older i u = front_number next s (from + i) (6 + 8 * (from + k)) (omega arith) (omega (arith, p.size)) (omega (arith, p.size)) e ∙ p.done i u

      newest : (i : ℕ) → i ≡ k → of_bits binary64 (bits_at next (6 + 8 * (from + i))) ≡ entry numbers i
      newest i u = rw u (ap (of_bits binary64) d ∙ of_bits-to_bits binary64 (entry numbers k) double)

  pub fill_end : length numbers ≤ k → list_of (length numbers) (λ i. number_at s (from + i)) ≡ numbers
  fill_end h =
      let l : length (list_of (length numbers) (λ i. number_at s (from + i))) ≡ length numbers = length_list _ _ in
      ext_get_or nan _ numbers l (λ i u. list_at (length numbers) (λ i. number_at s (from + i)) i nan (omega arith) ∙ p.done i (omega arith))

-- ---- the head, then the matrix, then the readings: the file. Each piece leaves what stands before it.
pub file_put : (n : ℕ) (m r : Column) (s₁ s₂ s : List ℕ) → AllBytes s → length m ≡ n * n → length r ≡ n → length s₁ ≡ file_length n → headed s₁ ≡ true
    → pads_of s₁ ≡ n
    → length s₂ ≡ length s₁ → take 6 s₂ ≡ take 6 s₁ → list_of (length m) (λ k. number_at s₂ (0 + k)) ≡ m
    → length s ≡ length s₂ → take (6 + 8 * (n * n)) s ≡ take (6 + 8 * (n * n)) s₂ → list_of (length r) (λ k. number_at s (n * n + k)) ≡ r → IsFile s n m r
file_put n m r s₁ s₂ s each lm lr l₁ head pads l₂ front₂ matrix l front readings =
    let six : take 6 s ≡ take 6 s₁ =
    sym (take-take 6 (6 + 8 * (n * n)) s (omega arith)) ∙ ap (take 6) front ∙ take-take 6 (6 + 8 * (n * n)) s₂ (omega arith) ∙ front₂ in
    let kept : matrix_of n s ≡ matrix_of n s₂ =
    ext_get_or nan (matrix_of n s) (matrix_of n s₂) (length_list _ _ ∙ sym (length_list _ _))
    (λ k h. list_at (n * n) _ k nan (inside k h) ∙ same k (inside k h) ∙ sym (list_at (n * n) _ k nan (inside k h))) in
    record {
      each_byte = each;
      head = front_head s s₁ (omega arith) (omega arith) six ∙ head;
      pads = front_pads s s₁ six ∙ pads;
      whole = l ∙ l₂ ∙ l₁;
      matrix_read = kept ∙ ap (λ (k : ℕ). list_of k (λ i. number_at s₂ (0 + i))) (sym lm) ∙ matrix;
      readings_read = ap (λ (k : ℕ). list_of k (λ i. number_at s (n * n + i))) (sym lr) ∙ readings;
    }
  where
    inside : (k : ℕ) → k < length (matrix_of n s) → k < n * n
    inside k h = let z : length (matrix_of n s) ≡ n * n = length_list _ _ in omega arith

    same : (k : ℕ) → k < n * n → number_at s (0 + k) ≡ number_at s₂ (0 + k)
    same k h = front_number s s₂ (0 + k) (6 + 8 * (n * n)) (omega arith) (omega arith) (omega arith) front
