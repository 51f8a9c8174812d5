-- Exponents in their range: that of n diagonals is from -1074 n up to 1024 n - 1, since those of doubles are from -1074 up to 1023 and a carry needs two
-- factors. By differences of whole numbers, which add. Assumes nothing.
use mathlib.Core.Path.{◌≡◌, refl, subst}
use mathlib.Core.Bool.{Bool, true, false, not, cond, true≢false}
use Prim.Native.Nat.{ℕ, zero, suc, ◌+◌, ◌-◌, ◌*◌, ◌≤◌, ◌<◌}
use native.Mathlib.Omega.{arith}
use lib.IntN.{ℤ, pos, negsuc, sub_ℕ, ◌+ℤ◌}
use lib.Signed.{mag, ◌≤ℤ◌, le_z_yes}
use lib.Dec.{T, ltb, ltb→lt, nltb→le, le→leb}
use Rattle.numbers.proofs.Choice.{cond_cases}

-- e is a - b
abbrev pub Difference : ℤ → ℕ → ℕ → Type 0
Difference (pos n) a b = a ≡ b + n
Difference (negsuc n) a b = b ≡ a + suc n

pub of_sub : (x y a b : ℕ) → a + y ≡ b + x → Difference (sub_ℕ x y) a b
of_sub x y a b p = go (ltb x y) (ltb→lt x y) (nltb→le x y)
  where
    one_way : x < y → a + y ≡ b + x → b ≡ a + suc (y - suc x)
    one_way h q = omega arith

    other_way : y ≤ x → a + y ≡ b + x → a ≡ b + (x - y)
    other_way h q = omega arith

    go : (t : Bool) → (T t → x < y) → (T (not t) → y ≤ x) → Difference (cond t (negsuc (y - suc x)) (pos (x - y))) a b
    go true h k = one_way (h tt) p
    go false h k = other_way (k tt) p

sum : (x y : ℤ) (a b c d : ℕ) → Difference x a b → Difference y c d → Difference (x +ℤ y) (a + c) (b + d)
sum (pos x) (pos y) a b c d p q = omega arith
sum (pos x) (negsuc y) a b c d p q = of_sub x (suc y) (a + c) (b + d) (omega arith)
sum (negsuc x) (pos y) a b c d p q = of_sub y (suc x) (a + c) (b + d) (omega arith)
sum (negsuc x) (negsuc y) a b c d p q = omega arith

-- the exponent of n diagonals: from -1074 n up to 1024 n - 1, and 0 for none
abbrev pub Within : ℕ → ℤ → Type 0
Within n e = (k : ℕ) × Difference e k (1074 * n) × (k ≤ 2098 * n - 1)

-- one diagonal more, with a carry or without: a first one has none
pub within_next : (n : ℕ) (e f : ℤ) (carry : Bool) → Within n e → Within 1 f → (n ≡ 0 → carry ≡ false)
    → Within (suc n) (cond carry (e +ℤ f +ℤ pos 1) (e +ℤ f))
within_next n e f true h g none = (
  h.0 + g.0 + 1,
  subst (λ (z : ℕ). Difference (e +ℤ f +ℤ pos 1) (h.0 + g.0 + 1) z) (grows n)
      (sum (e +ℤ f) (pos 1) (h.0 + g.0) (1074 * n + 1074) 1 0 (sum e f h.0 (1074 * n) g.0 1074 h.1 g.1) refl),
  most n h.0 g.0 h.2 g.2 none,
)
  where
    grows : (n : ℕ) → 1074 * n + 1074 + 0 ≡ 1074 * suc n
    grows n = omega arith

    most : (n a b : ℕ) → a ≤ 2098 * n - 1 → b ≤ 2097 → (n ≡ 0 → true ≡ false) → a + b + 1 ≤ 2098 * suc n - 1
    most zero a b h g none = absurd (true≢false (none refl))
    most (suc n) a b h g none = omega arith
within_next n e f false h g none = (
  h.0 + g.0,
  subst (λ (z : ℕ). Difference (e +ℤ f) (h.0 + g.0) z) (grows n) (sum e f h.0 (1074 * n) g.0 1074 h.1 g.1),
  most n h.0 g.0 h.2 g.2,
)
  where
    grows : (n : ℕ) → 1074 * n + 1074 ≡ 1074 * suc n
    grows n = omega arith

    most : (n a b : ℕ) → a ≤ 2098 * n - 1 → b ≤ 2097 → a + b ≤ 2098 * suc n - 1
    most zero a b h g = omega arith
    most (suc n) a b h g = omega arith

-- at most 64 diagonals, and at least one or none: both ends
pub within_ends : (n : ℕ) (e : ℤ) → n ≤ 64 → Within n e → (negsuc 68735 ≤ℤ e) × (e ≤ℤ pos 65535)
within_ends n (pos m) h w = (le_z_yes tt, le_z_yes (le→leb m 65535 (high w.0 m w.1 w.2)))
  where
    high : (k m : ℕ) → k ≡ 1074 * n + m → k ≤ 2098 * n - 1 → m ≤ 65535
    high k m p q = omega arith
within_ends n (negsuc m) h w = (le_z_yes (le→leb m 68735 (low w.0 m w.1)), le_z_yes tt)
  where
    low : (k m : ℕ) → 1074 * n ≡ k + suc m → m ≤ 68735
    low k m p = omega arith

-- ---- far from the ends of an i32

pub mag_within : (n : ℕ) (e : ℤ) → n ≤ 64 → Within n e → mag e ≤ 68735
mag_within n (pos m) h w = let p = w.1 in let q = w.2 in omega arith
mag_within n (negsuc m) h w = let p = w.1 in omega arith

mag_sub : (a b : ℕ) → mag (sub_ℕ a b) ≤ a + b
mag_sub a b = cond_cases (λ (z : ℤ). mag z ≤ a + b) (ltb a b) (λ t. omega arith) (λ t. omega arith)

pub mag_sum : (a b : ℤ) → mag (a +ℤ b) ≤ mag a + mag b + 1
mag_sum (pos a) (pos b) = omega arith
mag_sum (pos a) (negsuc b) = omega (arith, mag_sub a (suc b))
mag_sum (negsuc a) (pos b) = omega (arith, mag_sub b (suc a))
mag_sum (negsuc a) (negsuc b) = omega arith
