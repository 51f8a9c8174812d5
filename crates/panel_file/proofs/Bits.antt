-- The bits at a place by their bytes, bytes by the number that they stand for, and which bits are a finite number's. By one byte after the other; by the
-- exponent's field. Assumes nothing.
use mathlib.Core.Path.{◌≡◌, refl, sym, ap, ap₂, ◌∙◌, subst}
use mathlib.Core.Bool.{Bool, true, false, not, cond, ◌&&◌, false≢true}
use mathlib.Core.List.{List, [], ◌∷◌}
use Prim.Native.Nat.{ℕ, zero, suc, ◌+◌, ◌-◌, ◌*◌, ◌/◌, ◌%◌, ◌^◌, ◌≤◌, ◌<◌}
use native.Mathlib.Nat.{pow-succ'}
use native.Mathlib.Omega.{arith}
use borrow.Author.Tests.{le-leb, eqb-true, eqb-false, eq-eqb, ne_eqb}
use lib.Dec.{T, eqb, leb}
use lib.ListN.{length, get_or, take, drop}
use lib.Seq.{get_or-drop, take_all}
use Rattle.std.specs.List.{starts_with}
use Rattle.std.specs.Int.{w64, from_le_bytes}
use lib.Ieee.{Float, nan, inf, fin, binary64, odd, is_nan, of_fields, of_bits, nan_bits}
use lib.Ieee.Bits.{nan_bits_is}
use lib.Ieee.Scale.{finite}
use Rattle.numbers.proofs.Choice.{test_cases}
use Rattle.numbers.proofs.Walk.{drop_next}
use Rattle.panel_file.specs.File.{little_endian, field_at, headed, AllBytes}

-- ---- a field by its first byte and the rest
pub field_next : (width : ℕ) (s : List ℕ) (at next : ℕ) → at < length s → next ≡ at + 1 → field_at (suc width) s at ≡ get_or s at 0
    + 256 * field_at width s next
unfolding field_at little_endian
field_next width s at next h e =
    ap (λ (l : List ℕ). little_endian (take (suc width) l)) (drop_next s at 0 h) ∙ ap (λ (k : ℕ). get_or s at 0 + 256 * little_endian (take width (drop k s)))
    (sym e)

pub field_none : (s : List ℕ) (at : ℕ) → field_at 0 s at ≡ 0
unfolding field_at little_endian
field_none s at = refl

pub field_two : (s : List ℕ) → 6 ≤ length s → field_at 2 s 3 ≡ get_or s 3 0 + 256 * get_or s 4 0
field_two s h =
    omega (arith, field_next 1 s 3 4 (omega arith) refl, field_next 0 s 4 5 (omega arith) refl, field_none s 5)

pub field_eight : (s : List ℕ) (at b0 b1 b2 b3 b4 b5 b6 b7 : ℕ) → at + 8 ≤ length s
    → b0 ≡ get_or s (at + 0) 0 → b1 ≡ get_or s (at + 1) 0 → b2 ≡ get_or s (at + 2) 0 → b3 ≡ get_or s (at + 3) 0
    → b4 ≡ get_or s (at + 4) 0 → b5 ≡ get_or s (at + 5) 0 → b6 ≡ get_or s (at + 6) 0 → b7 ≡ get_or s (at + 7) 0
    → b0 + 256 * (b1 + 256 * (b2 + 256 * (b3 + 256 * (b4 + 256 * (b5 + 256 * (b6 + 256 * b7)))))) ≡ field_at 8 s at
field_eight s at b0 b1 b2 b3 b4 b5 b6 b7 h e0 e1 e2 e3 e4 e5 e6 e7 =
    let z : field_at 8 s at ≡ field_at 8 s (at + 0) = ap (field_at 8 s) (omega arith) in
    omega (
      arith,
      z,
      field_next 7 s (at + 0) (at + 1) (omega arith) (omega arith),
      field_next 6 s (at + 1) (at + 2) (omega arith) (omega arith),
      field_next 5 s (at + 2) (at + 3) (omega arith) (omega arith),
      field_next 4 s (at + 3) (at + 4) (omega arith) (omega arith),
      field_next 3 s (at + 4) (at + 5) (omega arith) (omega arith),
      field_next 2 s (at + 5) (at + 6) (omega arith) (omega arith),
      field_next 1 s (at + 6) (at + 7) (omega arith) (omega arith),
      field_next 0 s (at + 7) (at + 8) (omega arith) (omega arith),
      field_none s (at + 8),
    )

-- the head's test as the code makes it, v being the two bytes of the version
eqb_flip : (a b : ℕ) → eqb a b ≡ eqb b a
eqb_flip a b =
    test_cases (eqb a b) (λ t. let e = eqb-true a b t in rw (e, eq-eqb b b refl) refl)
    (λ t. t ∙ sym (ne_eqb b a (λ e. eqb-false a b t (sym e))))

regrouped : (x y z w : Bool) → (x && (y && (z && true))) && w ≡ (x && y && z && w)
regrouped true true true w = refl
regrouped true true false w = refl
regrouped true false z w = refl
regrouped false y z w = refl

pub headed_by : (s : List ℕ) (v : ℕ) → 6 ≤ length s → v ≡ get_or s 3 0 + get_or s 4 0 * 256
    → (starts_with eqb s (76 ∷ 88 ∷ 80 ∷ []) && eqb v 1) ≡ headed s
unfolding headed
headed_by [] v h e = absurd (omega arith)
headed_by (a ∷ []) v h e = absurd (omega arith)
headed_by (a ∷ b ∷ []) v h e = absurd (omega arith)
headed_by (a ∷ b ∷ c ∷ s) v h e =
    let version : field_at 2 (a ∷ b ∷ c ∷ s) 3 ≡ v = omega (arith, field_two (a ∷ b ∷ c ∷ s) h) in
    rw (le-leb 6 (length (a ∷ b ∷ c ∷ s)) h, version, eqb_flip a 76, eqb_flip b 88, eqb_flip c 80) (regrouped (eqb 76 a) (eqb 88 b) (eqb 80 c) (eqb v 1))

-- eight bytes as the machine's little-endian number
pub read_eight : (b s : List ℕ) (at : ℕ) → b ≡ take (at + 8 - at) (drop at s) → length b ≡ 8 → from_le_bytes w64 b ≡ field_at 8 s at
unfolding field_at
read_eight b s at e l =
    let eight : at + 8 - at ≡ 8 = omega arith in
    let here : field_at 8 b 0 ≡ field_at 8 s at =
    ap little_endian (take_all 8 b (omega arith) ∙ e ∙ ap (λ (k : ℕ). take k (drop at s)) eight) in
    omega (arith, here, field_eight b 0 _ _ _ _ _ _ _ _ (omega arith) refl refl refl refl refl refl refl refl)

-- ---- bytes and the number that they stand for
each_take : (w : ℕ) (l : List ℕ) → AllBytes l → AllBytes (take w l)
each_take zero l e k = omega arith
each_take (suc w) [] e k = omega arith
each_take (suc w) (b ∷ l) e zero = e 0
each_take (suc w) (b ∷ l) e (suc k) = each_take w l (λ i. e (suc i)) k

pub each_part : (w at : ℕ) (l : List ℕ) → AllBytes l → AllBytes (take w (drop at l))
each_part w at l e = each_take w (drop at l) (λ k. rw (get_or-drop at l k 0) (e (at + k)))

pub little_below : (l : List ℕ) → AllBytes l → little_endian l < 256 ^ length l
unfolding little_endian
little_below [] e = omega arith
little_below (b ∷ l) e =
    let p : 256 ^ suc (length l) ≡ 256 * 256 ^ length l = pow-succ' 256 (length l) in
    omega (arith, e 0, little_below l (λ k. e (suc k)))

-- as many bytes that stand for the same number are the same
pub little_same : (l m : List ℕ) → length l ≡ length m → AllBytes l → AllBytes m → little_endian l ≡ little_endian m → l ≡ m
unfolding little_endian
little_same [] [] e a b d = refl
little_same [] (c ∷ m) e a b d = absurd (omega arith)
little_same (b ∷ l) [] e a c d = absurd (omega arith)
little_same (b ∷ l) (c ∷ m) e p q d =
    let first : b ≡ c = omega (arith, p 0, q 0) in
    let rest : little_endian l ≡ little_endian m = omega (arith, p 0, q 0) in
    ap₂ (λ (x : ℕ) (y : List ℕ). x ∷ y) first (little_same l m (omega arith) (λ k. p (suc k)) (λ k. q (suc k)) rest)

-- ---- finite by the exponent's field
odd_finite : (d : ℕ) (s : Bool) (q k l : ℕ) → finite (odd d s q k l) ≡ true
unfolding odd
odd_finite d s zero k l = refl
odd_finite d s (suc q) k l = refl

fields_finite : (s : Bool) (x t : ℕ) → finite (of_fields binary64 s x t) ≡ not (eqb x 2047)
unfolding of_fields
fields_finite s zero t = odd_finite 53 s t 0 1074
fields_finite s (suc x) t = go (eqb (suc x) 2047) (eqb t 0)
  where
    go : (a b : Bool) → finite (cond a (cond b (inf s) nan) (odd 53 s (2 ^ 52 + t) x 1074)) ≡ not a
    go true true = refl
    go true false = refl
    go false b = odd_finite 53 s (2 ^ 52 + t) x 1074

pub bits_finite : (b : ℕ) → not (eqb (b % 0x8000_0000_0000_0000 / 0x10_0000_0000_0000) 2047) ≡ finite (of_bits binary64 b)
unfolding of_bits
bits_finite b = sym (fields_finite (leb (2 ^ 63) b) (b % 0x8000_0000_0000_0000 / 0x10_0000_0000_0000) (b % 2 ^ 52))

-- a finite number is no NaN, and its bits are no NaN's: what `to_bits` and `from_bits` ask
pub no_nan : (x : Float) → finite x ≡ true → T (not (is_nan x))
unfolding is_nan
no_nan nan e = absurd (false≢true e)
no_nan (inf s) e = tt
no_nan (fin s m e) d = tt

pub finite_number : (b : ℕ) → finite (of_bits binary64 b) ≡ true → T (not (nan_bits binary64 b))
finite_number b e = subst (λ (t : Bool). T (not t)) (sym (nan_bits_is binary64 b)) (no_nan (of_bits binary64 b) e)
