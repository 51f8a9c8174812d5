-- Wrong programs for the scaled determinant (document 02, request 10), each shut out at factors that factoring can give: one that halves a product past 2
-- twice, one that is off by one in the exponent of a subnormal number, one that loses the sign of the swaps, one that rounds a product twice, and one that
-- takes the plain determinant apart. By computation. Assumes nothing.
use mathlib.Core.Path.{ap}
use mathlib.Core.Bool.{false, cond}
use mathlib.Core.List.{List, [], ◌∷◌}
use Prim.Native.Nat.{ℕ, ◌+◌, ◌-◌, ◌*◌, ◌/◌, ◌%◌, ◌^◌, compare}
use native.Mathlib.Omega.{arith}
use lib.IntN.{ℤ, pos, negsuc, ◌+ℤ◌}
use lib.Signed.{mag}
use lib.Ieee.{Float, nan, inf, fin, binary64, unlike, size, nearest, mul, lt, le, of_bits, to_bits}
use Rattle.numbers.specs.Each.{turns_from}
use Rattle.numbers.specs.Numbers.{is_zero, magnitude}
use Rattle.numbers.specs.Column.{Column, entry}
use Rattle.store.specs.Columns.{columns}
use Rattle.store.specs.Steps.{column}
use Rattle.refusals.specs.Outcome.{Outcome, done, refused, tested, and_then}
use Rattle.refusals.proofs.Strength.{ShutsOut, shut_out, Strong, strong, done_refused}
use Rattle.solve.specs.Calls.{zero_on_diagonal}
use Rattle.factors.specs.declared.Record.{Record}
use Rattle.factors.specs.Factors.{store_of, record_of}
use Rattle.factors.specs.Held.{held_refusal}
use Rattle.from_factors.specs.Determinant.{square_asks, determining}
use Rattle.from_factors.proofs.Figures.{n0, n1}
use Rattle.scaled_determinant.specs.declared.Scaled.{Scaled}
use Rattle.scaled_determinant.specs.Scaled.{scaled, two64, half64, significand_of, exponent_of, parts_of, halved_at_two, scaled_times}
use Rattle.scaled_determinant.specs.Determinant.{start, signed_by, vanished, scaling}
use Rattle.scaled_determinant.proofs.Figures.{Computes, soft, swapped}

-- the record, the packed numbers and the swap store
abbrev Held : Type 0
Held = Record × (Column × List ℕ)

abbrev scales : Held → Outcome Scaled
scales x = scaling x.1.0 x.1.1 x.0

-- a program that is right but for how it takes one diagonal more, and for the sign that the number of swaps gives
abbrev Turn : Type 0
Turn = Scaled → Float → Scaled

abbrev made : Turn → (ℕ → Scaled → Scaled) → Held → Scaled
made turn sign x =
    let n = x.0.rows in
    let cs = columns n n x.1.0 in
    cond (zero_on_diagonal x.1.0 n) vanished (sign x.0.pairs (turns_from (λ i r. turn r (entry (column cs i) i)) 0 n start))

abbrev scales_with : Turn → (ℕ → Scaled → Scaled) → Held → Outcome Scaled
scales_with turn sign x = tested (held_refusal x.1.0 x.1.1 x.0 square_asks) refused (done (made turn sign x))

-- from 2 on halved twice: 3 times 3 as 0.5625 times 2 ^ 4
abbrev quartered_at_two : Float → ℤ → Scaled
quartered_at_two p e = cond (le two64 (magnitude p)) (scaled (mul binary64 (mul binary64 p half64) half64) (e +ℤ pos 2)) (scaled p e)

abbrev twice_halved : Turn
twice_halved r x = quartered_at_two (mul binary64 r.significand (significand_of x)) (r.exponent +ℤ exponent_of x)

-- the field of a subnormal number's exponent taken as it stands, one too low
abbrev least_normal : Float
least_normal = of_bits binary64 0x10_0000_0000_0000

abbrev one_off : Turn
one_off r x =
    halved_at_two (mul binary64 r.significand (significand_of x)) (r.exponent +ℤ exponent_of x +ℤ cond (lt (magnitude x) least_normal) (negsuc 0) (pos 0))

-- the product to 64 digits, and from there to 53
abbrev to_wide : ℕ → ℕ
to_wide p = let u = 2 ^ (size p - 64) in nearest (p / u) (compare (p % u * 2) u) * u

abbrev rounded_twice : Float → Float → Float
rounded_twice (fin s m e) (fin t n d) = mul binary64 (fin (unlike s t) (to_wide (m * n)) e) (fin false 1 d)
rounded_twice nan y = nan
rounded_twice (inf s) y = inf s
rounded_twice (fin s m e) nan = nan
rounded_twice (fin s m e) (inf t) = inf t

abbrev twice_rounded : Turn
twice_rounded r x = halved_at_two (rounded_twice r.significand (significand_of x)) (r.exponent +ℤ exponent_of x)

-- the plain determinant, and of what it comes to the parts
abbrev taken_apart : Float → Scaled
taken_apart v = cond (is_zero v) vanished (parts_of v)

abbrev from_plain : Held → Outcome Scaled
from_plain x = and_then (determining x.1.0 x.1.1 x.0) (λ v. done (taken_apart v))

-- factors of two rows by their diagonal, without a swap
abbrev diagonal : Float → Float → Held
diagonal a b = (record_of 2 2 0 0, (a ∷ n0 ∷ n0 ∷ b ∷ [], store_of []))

abbrev three : Float
three = fin false 3 (pos 0)

abbrev least : Float
least = fin false 1 (negsuc 1073)

-- 1 + 2 ^ -27 and 1 + 2 ^ -26 + 2 ^ -40: their product lies above a tie by 2 ^ -67
abbrev tied : Held
tied = diagonal (fin false (2 ^ 27 + 1) (negsuc 26)) (fin false (2 ^ 40 + 2 ^ 14 + 1) (negsuc 39))

-- what tells two answers apart: how great the exponent is, and the bits of the significand
abbrev exponent_in : Outcome Scaled → ℕ
exponent_in (done r) = mag r.exponent
exponent_in (refused number) = 0

abbrev bits_in : Outcome Scaled → ℕ
bits_in (done r) = to_bits binary64 r.significand
bits_in (refused number) = 0

-- the same always; and the five
abbrev Wrong : Type 0
Wrong =
    ShutsOut scales (scales_with twice_halved signed_by)
    × ShutsOut scales (scales_with one_off signed_by)
    × ShutsOut scales (scales_with scaled_times (λ _ r. r))
    × ShutsOut scales (scales_with twice_rounded signed_by)
    × ShutsOut scales from_plain

pub scaled_determinant : Strong scales Wrong
unfolding Computes to_bits
scaled_determinant =
    strong scales (diagonal n1 n1) (record_of 0 2 0 0, (n1 ∷ n0 ∷ n0 ∷ n1 ∷ [], store_of [])) done_refused (
      shut_out scales (scales_with twice_halved signed_by) (diagonal three three) (λ d. omega (arith, ap bits_in d)),
      shut_out scales (scales_with one_off signed_by) (diagonal n1 least) (λ d. omega (arith, ap exponent_in d)),
      shut_out scales (scales_with scaled_times (λ _ r. r)) (record_of 2 2 1 0, (swapped, store_of ((0, 1) ∷ []))) (λ d. omega (arith, ap bits_in d)),
      shut_out scales (scales_with twice_rounded signed_by) tied (λ d. omega (arith, ap bits_in d)),
      shut_out scales from_plain (record_of 2 2 0 0, (soft, store_of [])) (λ d. omega (arith, ap bits_in d)),
    )
