-- A product that starts at a zero: it stays a zero over finite factors, and is a NaN after any other. So it tells whether all were finite, and so do several
-- such products over the entries in turn, multiplied together. Assumes nothing.
use mathlib.Core.Path.{◌≡◌, refl, sym, ap, ap₂, ◌∙◌, subst}
use mathlib.Core.Bool.{Bool, true, false, cond, ◌&&◌, and_assoc}
use mathlib.Core.List.{List, [], ◌∷◌, ◌++◌}
use Prim.Native.Nat.compare
use Prim.Native.Nat.{ℕ, zero, suc, ◌+◌, ◌-◌, ◌*◌, ◌/◌, ◌%◌, ◌^◌, ◌≤◌, ◌<◌, compare}
use native.Mathlib.Nat.{not-suc-le-zero, le_of_suc-le-suc, zero-mod, zero-div, zero-mul, add-sub_cancel_left}
use native.Mathlib.Omega.{arith}
use lib.Dec.{T, ltb}
use lib.IntN.{ℤ}
use lib.ListN.{length, get_or, take, drop, take-append-drop, length-take, length-drop}
use lib.Seq.{drop-cons, drop-drop}
use lib.Ieee.{Float, nan, inf, fin, binary64, mul, eq, round, units, odd, is_nan, low, emax, prec, up, down, unlike, nearest, size}
use lib.Ieee.Scale.{finite}
use Rattle.std.specs.Simd.{first_chunks}
use Rattle.numbers.specs.Each.{each_from}
use Rattle.numbers.specs.Column.{Column, entry}
use Rattle.finite.specs.Finite.{all_finite}
use Rattle.numbers.proofs.Choice.{and_first, and_second, and_both, and_true}
use Rattle.finite.proofs.Finite.{finite_append}
use Rattle.numbers.proofs.FiniteTest.{eq_self}

-- a zero of either sign; and such a zero or a NaN
unfoldable pub naught : Float → Bool
naught nan = false
naught (inf s) = false
naught (fin s zero e) = true
naught (fin s (suc m) e) = false

unfoldable pub calm : Float → Bool
calm nan = true
calm (inf s) = false
calm (fin s zero e) = true
calm (fin s (suc m) e) = false

-- ---- nothing, rounded, is a zero
nearest_zero : (u : ℕ) → nearest 0 (compare 0 u) ≡ 0
nearest_zero zero = ap (nearest 0) compare.zero-zero
nearest_zero (suc u) = ap (nearest 0) (compare.zero-suc u)

units_zero : (s : Bool) (k : ℕ) → naught (units binary64 s 0 k) ≡ true
unfolding units odd naught
units_zero s k =
    ap (λ (q : ℕ). naught (cond (ltb q (2 ^ (low binary64 + suc (emax binary64)))) (odd (suc (prec binary64)) s 0 k (low binary64)) (inf s))) (zero-mul (2 ^ k))

whole_zero : (u : ℕ) → nearest (0 / u) (compare (0 % u * 2) u) ≡ 0
whole_zero u =
    ap (λ (q : ℕ). nearest q (compare (0 % u * 2) u)) (zero-div u) ∙ ap (λ (r : ℕ). nearest 0 (compare (r * 2) u)) (zero-mod u) ∙ nearest_zero u

round_zero : (s : Bool) (a c : ℕ) → a ≡ 0 → naught (round binary64 s a c) ≡ true
unfolding round
round_zero s a c e =
    let none : a * 2 ^ low binary64 ≡ 0 = ap (λ (n : ℕ). n * 2 ^ low binary64) e ∙ zero-mul (2 ^ low binary64) in
    ap (λ (n : ℕ).
    let k = size (n / c) - prec binary64 in
    let u = c * 2 ^ k in
    naught (units binary64 s (nearest (n / u) (compare (n % u * 2) u)) k)) none
    ∙ ap (λ (q : ℕ). naught (units binary64 s q (size (0 / c) - prec binary64))) (whole_zero (c * 2 ^ (size (0 / c) - prec binary64)))
    ∙ units_zero s (size (0 / c) - prec binary64)

-- ---- one factor more: a zero times a finite number is a zero, and times anything else a NaN
naught_calm : (t : Float) → naught t ≡ true → calm t ≡ true
unfolding naught calm
naught_calm nan h = refl
naught_calm (inf s) h = h
naught_calm (fin s zero e) h = refl
naught_calm (fin s (suc m) e) h = h

naught_times : (s : Bool) (e : ℤ) (x : Float) → (calm (mul binary64 (fin s 0 e) x) ≡ true) × (naught (mul binary64 (fin s 0 e) x) ≡ finite x)
unfolding mul naught calm
naught_times s e nan = (refl, refl)
naught_times s e (inf t) = (refl, refl)
naught_times s e (fin t n d) =
    let is = round_zero (unlike s t) (0 * up e * (n * up d)) (down e * down d) (ap (λ (q : ℕ). q * (n * up d)) (zero-mul (up e)) ∙ zero-mul (n * up d)) in
    (naught_calm (round binary64 (unlike s t) (0 * up e * (n * up d)) (down e * down d)) is, is)

calm_times : (t x : Float) → calm t ≡ true → (calm (mul binary64 t x) ≡ true) × (naught (mul binary64 t x) ≡ (naught t && finite x))
unfolding calm naught mul
calm_times nan x h = (refl, refl)
calm_times (inf s) x h = absurd (subst T (sym h) tt)
calm_times (fin s zero e) x h = naught_times s e x
calm_times (fin s (suc m) e) x h = absurd (subst T (sym h) tt)

-- among these the finite are the zeros, and so are those that equal themselves
calm_finite : (t : Float) → calm t ≡ true → finite t ≡ naught t
unfolding calm naught
calm_finite nan h = refl
calm_finite (inf s) h = refl
calm_finite (fin s zero e) h = refl
calm_finite (fin s (suc m) e) h = absurd (subst T (sym h) tt)

calm_self : (t : Float) → calm t ≡ true → eq t t ≡ naught t
unfolding calm naught eq is_nan
calm_self nan h = refl
calm_self (inf s) h = absurd (subst T (sym h) tt)
calm_self (fin s zero e) h = eq_self (fin s zero e) refl
calm_self (fin s (suc m) e) h = absurd (subst T (sym h) tt)

-- ---- several such products
unfoldable pub every : (Float → Bool) → List Float → Bool
every p [] = true
every p (t ∷ ts) = p t && every p ts

every_append : (p : Float → Bool) (ts us : List Float) → every p (ts ++ us) ≡ (every p ts && every p us)
unfolding every
every_append p [] us = refl
every_append p (t ∷ ts) us = ap (λ (b : Bool). p t && b) (every_append p ts us) ∙ sym (and_assoc (p t) (every p ts) (every p us))

four : (a b c d : Bool) → ((a && b) && (c && d)) ≡ ((a && c) && (b && d))
four true true c d = refl
four true false true d = refl
four true false false d = refl
four false b c d = refl

-- each times the factor at its own place
abbrev pub by_entry : Column → ℕ → Float → Float
by_entry xs k t = mul binary64 t (entry xs k)

abbrev pub paired : List Float → List Float → List Float
paired ts xs = each_from (by_entry xs) 0 ts

pub paired_tell : (ts xs : List Float) → length ts ≡ length xs → every calm ts ≡ true
    → (every calm (paired ts xs) ≡ true) × (every naught (paired ts xs) ≡ (every naught ts && all_finite xs))
unfolding every each_from all_finite
paired_tell [] [] e c = (refl, refl)
paired_tell [] (x ∷ xs) e c = absurd (omega (arith, e))
paired_tell (t ∷ ts) [] e c = absurd (omega (arith, e))
paired_tell (t ∷ ts) (x ∷ xs) e c =
    let one = calm_times t x (and_first (calm t) (every calm ts) c) in
    let rest = paired_tell ts xs (omega (arith, e)) (and_second (calm t) (every calm ts) c) in
    (and_both _ _ one.0 rest.0, ap₂ ◌&&◌ one.1 rest.1 ∙ four (naught t) (finite x) (every naught ts) (all_finite xs))

pub calm_all : (ts : List Float) → every calm ts ≡ true → all_finite ts ≡ every naught ts
unfolding every all_finite
calm_all [] c = refl
calm_all (t ∷ ts) c = ap₂ ◌&&◌ (calm_finite t (and_first (calm t) (every calm ts) c)) (calm_all ts (and_second (calm t) (every calm ts) c))

halves : (ts us : List Float) → length ts ≡ length us → every calm (ts ++ us) ≡ true
    → (every calm (paired ts us) ≡ true) × (every naught (paired ts us) ≡ every naught (ts ++ us))
halves ts us e c =
    let both = sym (every_append calm ts us) ∙ c in
    let told = paired_tell ts us e (and_first (every calm ts) (every calm us) both) in (
      told.0,
      told.1 ∙ ap (λ (b : Bool). every naught ts && b) (calm_all us (and_second (every calm ts) (every calm us) both))
          ∙ sym (every_append naught ts us),
    )

-- ---- eight of them, as `finite_by_eight` has them
module _ (t0 t1 t2 t3 t4 t5 t6 t7 : Float) where
  abbrev pub eight : List Float
  eight = t0 ∷ t1 ∷ t2 ∷ t3 ∷ t4 ∷ t5 ∷ t6 ∷ t7 ∷ []

  abbrev pub together : Float
  together = mul binary64 (mul binary64 (mul binary64 t0 t4) (mul binary64 t2 t6)) (mul binary64 (mul binary64 t1 t5) (mul binary64 t3 t7))

  pub eight_tell : every calm eight ≡ true → eq together together ≡ every naught eight
  unfolding every each_from
  eight_tell c =
      let four-left = halves (t0 ∷ t1 ∷ t2 ∷ t3 ∷ []) (t4 ∷ t5 ∷ t6 ∷ t7 ∷ []) refl c in
      let two_left = halves (mul binary64 t0 t4 ∷ mul binary64 t1 t5 ∷ []) (mul binary64 t2 t6 ∷ mul binary64 t3 t7 ∷ []) refl four-left.0 in
      let one_left = halves (mul binary64 (mul binary64 t0 t4) (mul binary64 t2 t6) ∷ [])
      (mul binary64 (mul binary64 t1 t5) (mul binary64 t3 t7) ∷ []) refl two_left.0 in
      calm_self together (and_first (calm together) true one_left.0) ∙ sym (and_true (naught together)) ∙ one_left.1 ∙ two_left.1 ∙ four-left.1

-- ---- a turn: as many entries more, one to each
pub block_more : (ts xs rest whole : List Float) → length ts ≡ length xs → every calm ts ≡ true → whole ≡ xs ++ rest
    → (every calm (paired ts xs) ≡ true) × ((every naught (paired ts xs) && all_finite rest) ≡ (every naught ts && all_finite whole))
block_more ts xs rest whole e c split =
    let told = paired_tell ts xs e c in (
      told.0,
      ap (λ (b : Bool). b && all_finite rest) told.1
          ∙ and_assoc (every naught ts) (all_finite xs) (all_finite rest)
          ∙ ap (λ (b : Bool). every naught ts && b) (sym (finite_append xs rest) ∙ ap all_finite (sym split)),
    )

-- block i of n entries, and what comes behind it
chunk_at : (n c i : ℕ) (s d : Column) → i < c → get_or (first_chunks n c s) i d ≡ take n (drop (i * n) s)
chunk_at n zero i s d h = absurd (not-suc-le-zero h)
chunk_at n (suc c) zero s d h = ap (λ (k : ℕ). take n (drop k s)) (sym (zero-mul n))
chunk_at n (suc c) (suc i) s d h =
    let on : n + i * n ≡ suc i * n = omega arith in
    chunk_at n c i (drop n s) d (le_of_suc-le-suc h) ∙ ap (take n) (drop-drop (i * n) n s ∙ ap (λ (k : ℕ). drop k s) on)

pub chunk_more : (n c i : ℕ) (s : Column) (bs : List Column) (d ts new : Column) → bs ≡ first_chunks n c s → i < c → i * n + n ≤ length s → length ts ≡ n
    → every calm ts ≡ true → new ≡ paired ts (get_or bs i d)
    → (every calm new ≡ true) × ((every naught new && all_finite (drop ((i + 1) * n) s)) ≡ (every naught ts && all_finite (drop (i * n) s)))
chunk_more n c i s bs d ts new front h fits e calm is =
    let block : get_or bs i d ≡ take n (drop (i * n) s) = ap (λ (l : List Column). get_or l i d) front ∙ chunk_at n c i s d h in
    let size : length ts ≡ length (take n (drop (i * n) s)) = simp (length-take, length-drop) (omega arith) in
    let on : i * n + n ≡ (i + 1) * n = omega arith in
    let split : drop (i * n) s ≡ take n (drop (i * n) s) ++ drop ((i + 1) * n) s =
    sym (take-append-drop n (drop (i * n) s)) ∙ ap (λ (r : Column). take n (drop (i * n) s) ++ r) (drop-drop n (i * n) s ∙ ap (λ (k : ℕ). drop k s) on) in
    rw (is, block) (block_more ts (take n (drop (i * n) s)) (drop ((i + 1) * n) s) (drop (i * n) s) size calm split)

-- the block lent as the part from k to k + c
pub part_first : (s : Column) (k c : ℕ) → drop k s ≡ take (k + c - k) (drop k s) ++ drop (k + c) s
part_first s k c =
    sym (take-append-drop c (drop k s)) ∙ ap₂ (λ (i : ℕ) (rest : Column). take i (drop k s) ++ rest) (sym (add-sub_cancel_left k c)) (drop-drop c k s)

-- eight entries by name
module _ (s : Column) where
  front : (i j : ℕ) (l : Column) → suc i ≡ j → i < length s → drop j s ≡ l → drop i s ≡ entry s i ∷ l
  front i j l n h e = drop-cons s i nan h ∙ ap (λ (k : ℕ). entry s i ∷ drop k s) n ∙ ap (λ (r : Column). entry s i ∷ r) e

  module _ (k : ℕ) (h : k + 8 ≤ length s) where
    abbrev pub entries : Column
    entries = entry s k ∷ entry s (k + 1) ∷ entry s (k + 2) ∷ entry s (k + 3) ∷ entry s (k + 4) ∷ entry s (k + 5) ∷ entry s (k + 6) ∷ entry s (k + 7) ∷ []

    pub eight_first : drop k s ≡ entries ++ drop (k + 8) s
    eight_first =
        front k (k + 1) _ (omega arith) (omega arith)
        (front (k + 1) (k + 2) _ (omega arith) (omega arith)
        (front (k + 2) (k + 3) _ (omega arith) (omega arith)
        (front (k + 3) (k + 4) _ (omega arith) (omega arith)
        (front (k + 4) (k + 5) _ (omega arith) (omega arith)
        (front (k + 5) (k + 6) _ (omega arith) (omega arith)
        (front (k + 6) (k + 7) _ (omega arith) (omega arith)
        (front (k + 7) (k + 8) _ (omega arith) (omega arith) refl)))))))
